-- `root::scaled` meets its contract. Assumes nothing.
use Prim.Native.Nat.{◌%◌, ◌^◌}
use native.Mathlib.Omega.{arith}
use Rattle.root.proofs.Scaling.{leading_low, short_scales}
use Rattle.root.proofs.scaled.Goals as goal

pub overflow_sub-k : goal.overflow_sub-k
overflow_sub-k c = omega (arith, leading_low (c.args.b % 2 ^ 52) c.ilog2.result c.ilog2.ensures.power_le (omega arith))

pub returns-then-field-eq0 : goal.returns-then-field-eq0
returns-then-field-eq0 c = short_scales c.args.b c.ilog2.result (omega arith) c.ilog2.ensures.power_le c.ilog2.ensures.next_power_gt
