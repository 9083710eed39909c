-- `sum_rows` meets its contract: the sums are those of the first `i` observations and rows. Assumes nothing.
use Rattle.std.proofs.Common.{◌≡◌, take}
use Rattle.definition.specs.Lists.{fold_pairs}
use Rattle.definition.specs.Likelihood.{no_sums, with_row}
use Rattle.likelihood.specs.Columns.{observations_in, rows_in}
use Rattle.likelihood.proofs.Columns.sum_rows.Given as goal

abbrev pub invariant-loop-i : goal.invariant-loop-i
invariant-loop-i l = l.sums ≡ fold_pairs (with_row l.p) no_sums (take l.i (observations_in l.self)) (take l.i (rows_in l.rows))
