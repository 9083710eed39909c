-- `column`: the first `i` doubles are laid over zeros.
use Prim.Native.Nat.{◌≤◌, ◌-◌}
use mathlib.Core.Path.{◌≡◌}
use lib.ListN.{length, take, replicate}
use Rattle.numeric.specs.Numeric.{zero64}
use Rattle.slices.specs.Slices.{laid_over}
use Rattle.c_api.specs.Desk.{column_of}
use Rattle.c_api.proofs.column.Given as goal

abbrev pub invariant-loop-i : goal.invariant-loop-i
invariant-loop-i l = (l.i ≤ l.n) × (length l.a ≡ 64) × (l.a ≡ laid_over (take l.i (column_of l.stride l.offset l.n l.bytes)) (replicate 64 zero64))

abbrev pub decreases-loop-i : goal.decreases-loop-i
decreases-loop-i l = l.n - l.i
