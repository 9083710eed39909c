-- What the code's values stand for in the definition: an enum by what each of its cases says, columns of numbers by the list that they hold together.
use Rattle.std.specs.Prelude.{List, Float, Option, None, Some, Result, Ok, Err}
use Rattle.definition.specs.Lists.{zip_with3}
use Rattle.definition.specs.Request.{Observation, Opening}
use Rattle.definition.specs.Mesh as Mesh
use Rattle.definition.specs.Summary.{Approximation, available, unavailable}
use Rattle.definition.specs.declared.UncertaintyTruingRequestV1.{UncertaintyTruingRequestV1}
use Rattle.definition.specs.declared.Convergence.{Convergence}
use Rattle.definition.specs.declared.Convergence.TheVariants.{ScaledGradient, ObjectiveMesh}
use Rattle.definition.specs.declared.TruingGaussianApproximationV1.{TruingGaussianApproximationV1}
use Rattle.definition.specs.declared.TruingApproximationFailureCodeV1.{TruingApproximationFailureCodeV1}
use Rattle.matrix.specs.declared.Symmetric2.{Symmetric2}

abbrev pub convergence_of : Option Convergence → Mesh.Convergence
convergence_of None = Mesh.not_converged
convergence_of (Some ScaledGradient) = Mesh.scaled_gradient
convergence_of (Some (ObjectiveMesh radius improvement)) = Mesh.objective_mesh radius improvement

abbrev pub approximation_says : Result (TruingGaussianApproximationV1 × Symmetric2) TruingApproximationFailureCodeV1 → Approximation
approximation_says (Ok (g, q)) = available g q
approximation_says (Err code) = unavailable code

abbrev pub observation_of : Float → Float → Float → Observation
observation_of range drop sigma = record { range_yd = range; drop = drop; sigma = sigma }

-- up to the end of the shortest of the three
abbrev pub observations_of : List Float → List Float → List Float → List Observation
observations_of ranges drops sigmas = zip_with3 observation_of ranges drops sigmas

-- what a request brings
abbrev pub opening_in : UncertaintyTruingRequestV1 → Opening
opening_in r =
    record { measured = record { entered = r.entered; observations = r.observations.now; priors = r.priors }; requested = r.predictions.now }
