-- `Shots::new`: the first `i` observations are laid over zeros, field by field. Assumes nothing.
use Rattle.std.proofs.Common.{◌≡◌, length}
use Rattle.definition.specs.Request.{Observation}
use Rattle.lists.proofs.Arrays.{column}
use Rattle.lists.proofs.Shots.new.Given as goal

abbrev pub invariant-loop-i : goal.invariant-loop-i
invariant-loop-i l = record {
  size : l.shots.n ≡ length l.observations;
  ranges : l.shots.ranges ≡ column (λ (o : Observation). o.range_yd) l.i l.observations;
  drops : l.shots.drops ≡ column (λ (o : Observation). o.drop) l.i l.observations;
  sigmas : l.shots.sigmas ≡ column (λ (o : Observation). o.sigma) l.i l.observations;
}
