-- `chi_square` meets its contract: the sum is that of the first `i` records. Assumes nothing.
use Rattle.std.proofs.Common.{◌≡◌, take}
use Rattle.numeric.specs.Numeric.{zero64}
use Rattle.definition.specs.Lists.{fold_pairs}
use Rattle.definition.specs.Likelihood.{with_shot}
use Rattle.records.proofs.chi_square.Given as goal

abbrev pub invariant-loop-i : goal.invariant-loop-i
invariant-loop-i l = l.sum ≡ fold_pairs with_shot zero64 (take l.i l.observations) (take l.i l.predicted)
