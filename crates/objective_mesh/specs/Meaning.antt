-- What the poll's structs and answers stand for in the definition: a direction not yet looked at is an index into the eight, and what remains is the list from
-- there on.
use Rattle.std.specs.Prelude.{ℕ, cond, ltb, Float, drop, Option, None, Some}
use Rattle.numeric.specs.declared.Direction.{Direction}
use Rattle.definition.specs.Mesh as mesh
use Rattle.definition.specs.Meaning.{convergence_of}
use Rattle.definition.specs.declared.Point.{Point}
use Rattle.objective_mesh.specs.declared.Poll.{Poll}
use Rattle.objective_mesh.specs.declared.Pass.{Pass}
use Rattle.objective_mesh.specs.declared.PollStep.{PollStep}
use Rattle.objective_mesh.specs.declared.PollStep.TheVariants.{Evaluates, Ended}

abbrev pub poll_of : Poll → mesh.Poll
poll_of r = record { point = r.point; convergence = convergence_of r.convergence; evaluations = r.evaluations }

abbrev pub pass_of : Pass → mesh.Pass
pass_of s = record {
  axis = s.axis;
  radius = s.radius;
  smaller = s.smaller;
  centre = s.centre;
  current = s.current;
  remaining = drop s.next (mesh.directions s.axis);
  best = s.best;
  best_point = s.best_point;
  evaluations = s.evaluations;
}

-- what each case of the answers says
abbrev pub looks_as : Direction → Option (Point × ℕ) → mesh.Looked
looks_as axis (Some (c, next)) = mesh.moved c (drop next (mesh.directions axis))
looks_as axis None = mesh.none_moved

abbrev pub says : PollStep → mesh.PollStep
says (Evaluates c s) = mesh.evaluates c (pass_of s)
says (Ended r) = mesh.ended (poll_of r)

-- A pass with one evaluation more, up to the limit of 1,024; past the limit, where the poll has no evaluation, it stays as it is.
abbrev pub seen_within : Point → Float → mesh.Pass → mesh.Pass
seen_within c value s = cond (ltb s.evaluations 1024) (mesh.seen c value s) s
