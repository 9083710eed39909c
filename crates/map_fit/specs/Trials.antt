-- What the damped step's answer says, and the damping trials between two questions: the definition's `trials` with the silent ones passed over.
use Rattle.std.specs.Prelude.{ℕ, zero, suc, Float, Option, None, Some}
use Rattle.definition.specs.Fit as fit
use Rattle.definition.specs.declared.Point.{Point}
use Rattle.definition.specs.declared.Evaluation.{Evaluation}
use Rattle.map_fit.specs.declared.Trial.{Trial}

abbrev pub says : Option Point → fit.Step
says None = fit.unfit
says (Some q) = fit.to q

abbrev pub on_step : (Float → Option Trial) → ℕ → Float → fit.Step → Option Trial
on_step further left damping fit.unfit = further (fit.raised_far damping)
on_step further left damping (fit.to q) = Some (record { point = q; left = left; damping = damping })

-- the next candidate, with the trials left after it and its damping; where the determinant is unfit nothing is asked, and it counts as a trial
unfoldable pub next_trial_of : Point → Evaluation → ℕ → Float → Option Trial
next_trial_of p e zero damping = None
next_trial_of p e (suc left) damping = on_step (next_trial_of p e left) left damping (fit.step_of p e damping)
