-- The definition's damping trials, by the next candidate that is asked about.
use Rattle.std.proofs.Common.{ℕ, zero, suc, ◌≡◌, refl, arith}
use Rattle.std.specs.Prelude.{Float, Option, None, Some}
use Rattle.definition.specs.Request.{Measured}
use Rattle.definition.specs.Run.{Run, done, bind}
use Rattle.definition.specs.Likelihood.{objective}
use Rattle.definition.specs.Fit as fit
use Rattle.definition.specs.declared.Point.{Point}
use Rattle.definition.specs.declared.Evaluation.{Evaluation}
use Rattle.map_fit.specs.declared.Trial.{Trial}
use Rattle.map_fit.specs.Trials.{next_trial_of}

module _ (m : Measured) (p : Point) (current : Float) (e : Evaluation) where
  -- what the definition does with a candidate, or with none
  abbrev pub goes_on : Option Trial → Run fit.Trial
  goes_on None = done fit.exhausted
  goes_on (Some t) = bind (objective m t.point) (fit.tried m p current e (fit.trials m p current e t.left) t.damping t.point)

  pub trials_next : (left : ℕ) (damping : Float) → fit.trials m p current e left damping ≡ goes_on (next_trial_of p e left damping)
  unfolding fit.trials next_trial_of
  trials_next zero damping = refl
  trials_next (suc left) damping = grind (arith, trials_next left)
