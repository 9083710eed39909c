-- The poll goes on from the pass here as from the one at the start.
use Rattle.std.proofs.Common.{◌≡◌}
use Rattle.definition.specs.Mesh as mesh
use Rattle.objective_mesh.proofs.Pass.ungained.Given as goal

abbrev pub invariant-loop-smaller : goal.invariant-loop-smaller
invariant-loop-smaller l =
    let s = l.s in
    let t = l.fn.self in
    record {
      smaller : s.smaller ≡ l.smaller;
      same :
          mesh.ungained s.axis s.radius s.smaller s.centre s.current s.best s.evaluations
          ≡ mesh.ungained t.axis t.radius t.smaller t.centre t.current t.best t.evaluations;
    }
