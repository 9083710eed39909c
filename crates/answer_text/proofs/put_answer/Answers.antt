-- `answer_text::put_answer` meets its contract. Assumes nothing.
use Rattle.std.proofs.Common.{rules}
use Rattle.report_text.proofs.Putting.{lent}
use Rattle.answer_text.proofs.put_answer.Goals as goal

pub returns : goal.returns
returns c =
    lent c.new-w.result c.write_answer.new.w c.write_answer.ensures c.new-w.ensures.same_reference c.new-w.ensures.same_bytes c.new-w.ensures.begun
    (search rules)
    c.at.ensures
