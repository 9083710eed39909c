-- `after_mesh`: the poll from its first pass, which has no evaluation yet.
use Rattle.std.proofs.Common.{ap, ◌∙◌}
use Rattle.definition.specs.Mesh.{Pass}
use Rattle.definition.specs.Fit.{meshed}
use Rattle.fitting.proofs.Laws.{bind_assoc}
use Rattle.fitting.proofs.after_mesh.Goals as goal

pub returns : goal.returns
unfolding meshed
returns c =
    let e = c.first-pass.ensures in
    let none = ap (λ (x : Pass). x.evaluations) e in
    record { leads = λ m ds rows q. c.next_look.ensures.leads m ds ∙ simp e (simp (none, q, bind_assoc)) }
