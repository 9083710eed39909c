-- `after_trial` with a rejection: the trials that are left go on.
use Rattle.std.proofs.Common.{◌∙◌}
use Rattle.fitting.proofs.after_trial.Goals as goal

pub returns : goal.returns
returns c =
    let rejected = c.if-objective_improvement_is_material.false in
    record {
      leads = λ m ds. c.next_candidate.ensures.leads m ds ∙ simp (c.raised-damping.ensures, ← c.objective_improvement_is_material.ensures, rejected);
    }
