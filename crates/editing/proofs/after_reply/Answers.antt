-- `after_reply`: the next of the five.
use Rattle.std.proofs.Common.{sym}
use Rattle.editing.proofs.Laws.{one_of_five}
use Rattle.editing.proofs.after_reply.Goals as goal

pub returns-in-Some : goal.returns-in-Some
returns-in-Some c = λ c₀ at point fits. rw (c.asks.ensures, c.at.ensures)
    (one_of_five c.args.run c₀ at c.args.change c.args.k c.args.p c.args.row point fits c.in-Some.question (sym c.in-Some.ensures))
