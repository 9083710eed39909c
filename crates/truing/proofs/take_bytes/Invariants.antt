-- `take_bytes` ends: the measure is what is left.
use Rattle.std.proofs.Common.{◌-◌, length}
use Rattle.truing.proofs.take_bytes.Given as goal

abbrev pub decreases-loop-at : goal.decreases-loop-at
decreases-loop-at l = length l.bytes - l.at
