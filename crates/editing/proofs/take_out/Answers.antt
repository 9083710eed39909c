-- `take_out`: the report without the distance.
use Rattle.std.proofs.Common.{sym, arith}
use Rattle.editing.proofs.Laws.{taken_out}
use Rattle.editing.proofs.take_out.Goals as goal

pub returns : goal.returns
returns c = rw c.closed_with.ensures (taken_out c.args.s _ _ (sym c.in-Some.ensures) c.args.place _ c.changed-shorter.result (grind arith) c.changed-shorter.ensures)
