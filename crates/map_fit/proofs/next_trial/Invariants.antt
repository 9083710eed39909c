-- The trials left give what the whole gives.
use Rattle.std.proofs.Common.{◌≡◌}
use Rattle.map_fit.specs.Trials.{next_trial_of}
use Rattle.map_fit.proofs.next_trial.Given as goal

abbrev pub invariant-loop-left : goal.invariant-loop-left
invariant-loop-left l = next_trial_of l.p l.e l.left l.damping ≡ next_trial_of l.p l.e l.trials l.fn.damping
