-- `after_look`: the poll goes on from the pass with what was seen.
use Rattle.std.proofs.Common.{ap, ◌∙◌}
use Rattle.definition.specs.Mesh.{Pass}
use Rattle.objective_mesh.specs.Meaning.{pass_of}
use Rattle.fitting.proofs.Laws.{look_left}
use Rattle.fitting.proofs.after_look.Goals as goal

pub returns : goal.returns
returns c =
    let a = c.args in
    let e = c.seen-pass.ensures in
    let left = look_left a.c a.value (pass_of a.g.pass) _ (ap (λ (x : Pass). x.evaluations) e) in
    record { leads = λ m ds. c.next_look.ensures.leads m ds ∙ simp (left, e) }
