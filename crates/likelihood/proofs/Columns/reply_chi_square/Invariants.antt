-- `reply_chi_square` meets its contract: the sum is that of the first `i` observations. Assumes nothing.
use Rattle.std.proofs.Common.{◌≡◌, take, map}
use Rattle.numeric.specs.Numeric.{zero64}
use Rattle.definition.specs.Lists.{fold_pairs}
use Rattle.definition.specs.Run.{drop_or0}
use Rattle.definition.specs.Likelihood.{with_shot}
use Rattle.likelihood.specs.Columns.{observations_in}
use Rattle.likelihood.proofs.Columns.reply_chi_square.Given as goal

abbrev pub invariant-loop-i : goal.invariant-loop-i
invariant-loop-i l = l.sum ≡ fold_pairs with_shot zero64 (take l.i (observations_in l.self)) (take l.i (map drop_or0 l.entries))
