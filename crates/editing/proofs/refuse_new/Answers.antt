-- `refuse_new`: the point of an open edit is refused.
use Rattle.std.proofs.Common.{sym}
use Rattle.editing.proofs.Laws.{point_refused}
use Rattle.editing.proofs.refuse_new.Goals as goal

pub returns-in-Some : goal.returns-in-Some
returns-in-Some c = rw (c.closed_with.ensures, c.refused.ensures) (point_refused c.args.run c.args.asking _ (sym c.in-Some.ensures))
