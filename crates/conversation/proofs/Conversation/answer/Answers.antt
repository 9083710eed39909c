-- `conversation::Conversation::answer` meets its contract: the line in its number and place, and its answer whole in the buffer. Assumes nothing.
use Rattle.std.proofs.Common.{rules, ◌≡◌, subst}
use Rattle.lines.specs.Lines.{Form}
use Rattle.lines.specs.Reading.{form_says, form_if}
use Rattle.report_text.proofs.Putting.{lent}
use Rattle.conversation.specs.Conversation.{next_line, answer_to}
use Rattle.conversation.specs.Tracks.{Responds}
use Rattle.conversation.proofs.Responses.{line_answers}
use Rattle.conversation.proofs.Conversation.answer.Goals.{in-Some, in-None}
use Rattle.conversation.proofs.Conversation.answer.Goals as goal

pub returns : goal.returns
returns c =
    let q : form_says c.match-line.form ≡ form_if c.args.line = elim c.match-line.branch [ in-Some w ↦ search rules | in-None w ↦ search rules ] in
    line_answers (search rules)
    (lent c.new-w.result c.put_response.new.w c.put_response.ensures c.new-w.ensures.same_reference c.new-w.ensures.same_bytes c.new-w.ensures.begun
    (search rules) c.at.ensures)
    (λ t k.
    subst (λ (x : Form). Responds c.respond-response.new.self c.respond-response.result (answer_to (next_line t) x)) q
    (c.respond-response.ensures (next_line t) (c.next_line.ensures t k)))
