-- `after_iteration` with a gradient that is not flat: the damping trials follow.
use Rattle.std.proofs.Common.{◌∙◌}
use Rattle.definition.specs.Fit.{evaluated}
use Rattle.fitting.proofs.Laws.{bind_assoc}
use Rattle.fitting.proofs.after_iteration.Goals as goal

pub returns : goal.returns
unfolding evaluated
returns c = record {
  leads = λ m ds rows q. c.next_candidate.ensures.leads m ds ∙ simp (q, ← c.is_flat.ensures, c.if-is_flat.false, bind_assoc);
}
