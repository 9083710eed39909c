-- `chi_square` meets its contract: the sum is that of the first `i` records. Assumes nothing.
use Rattle.std.proofs.Common.{sym, add-one, arith, ◌∙◌}
use Rattle.std.specs.Float.{nan}
use Rattle.numeric.specs.Numeric.{zero64}
use Rattle.definition.specs.Likelihood.{with_shot, chi_square_of}
use Rattle.definition.specs.Meaning.{observation_of}
use Rattle.likelihood.proofs.Laws.{fold_suc, fold_all}
use Rattle.records.proofs.chi_square.Goals as goal

pub loop-i-preserved : goal.loop-i-preserved
loop-i-preserved c =
    let os = c.args.observations.now in
    let ps = c.args.predicted.now in
    rw (add-one, c.with_observation-sum.ensures, c.loop-i.invariant)
    (sym (fold_suc with_shot zero64 os ps c.loop-i.i (observation_of nan nan nan) nan (omega arith) (omega arith)))

pub returns : goal.returns
unfolding chi_square_of
returns c = c.loop-i.invariant ∙ fold_all with_shot zero64 c.args.observations.now c.args.predicted.now c.loop-i.i (omega arith)
