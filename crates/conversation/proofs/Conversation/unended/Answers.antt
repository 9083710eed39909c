-- `conversation::Conversation::unended` meets its contract: the number is that of the next line. Assumes nothing.
use Rattle.std.proofs.Common.{rules}
use Rattle.report_text.proofs.Putting.{lent}
use Rattle.conversation.proofs.Responses.{unended_answers}
use Rattle.conversation.proofs.Conversation.unended.Goals as goal

pub returns : goal.returns
returns c =
    unended_answers (search rules)
    (lent c.new-w.result c.put_count.new.w c.put_count.ensures c.new-w.ensures.same_reference c.new-w.ensures.same_bytes c.new-w.ensures.begun
    (search rules) c.at.ensures)
    (search rules)
