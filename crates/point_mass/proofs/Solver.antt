-- What `fill` leaves in a list is the reply of a solver. Assumes nothing.
use Rattle.std.proofs.Common.{length}
use Rattle.std.proofs.Math.ListN.{length-map}
use Rattle.likelihood.proofs.Laws.{over_take}
use Rattle.point_mass.specs.Flight.{entries_at}
use Rattle.point_mass.specs.Solver.{FilledReply}

pub filled_reply : FilledReply
filled_reply p unit yards entries₀ entries₁ sane h f =
    rw (f.entries, over_take (entries_at p unit yards) entries₀ (length yards) (simp length-map) h, sane)
