-- What is left to look at gives what the whole gives.
use Rattle.std.proofs.Common.{◌≡◌, drop}
use Rattle.definition.specs.Mesh as mesh
use Rattle.objective_mesh.proofs.Pass.look.Given as goal

abbrev pub invariant-loop-j : goal.invariant-loop-j
invariant-loop-j l =
    let s = l.self in
    mesh.look s.radius s.centre (drop l.j (mesh.directions s.axis)) ≡ mesh.look s.radius s.centre (drop s.next (mesh.directions s.axis))
