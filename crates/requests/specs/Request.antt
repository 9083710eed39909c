-- A request as its lines make it: the entered point, then an observation, a prior or a requested distance more.
use Rattle.std.specs.Prelude.{[], ◌∷◌, ◌++◌, Float, Option, None, Some}
use Rattle.definition.specs.Request.{Observation, Requested, Opening}
use Rattle.definition.specs.declared.Point.{Point}
use Rattle.definition.specs.declared.NormalPriorV1.{NormalPriorV1}
use Rattle.definition.specs.declared.TruingPriorsV1.{TruingPriorsV1}

-- a request of which only the entered point is there
abbrev pub empty_request : Point → Opening
empty_request p = record { measured = record { entered = p; observations = []; priors = record { muzzle_velocity_fps = None; ballistic_coefficient = None } }; requested = [] }

abbrev pub with_shot : Opening → Observation → Opening
with_shot o x = record {
  measured = record {
    entered = o.measured.entered;
    observations = o.measured.observations ++
        (x ∷ []);
    priors = o.measured.priors;
  };
  requested = o.requested;
}

abbrev pub with_priors : Opening → TruingPriorsV1 → Opening
with_priors o p = record { measured = record { entered = o.measured.entered; observations = o.measured.observations; priors = p }; requested = o.requested }

abbrev pub normal : Float → Float → Option NormalPriorV1
normal mean sigma = Some (record { mean = mean; sigma = sigma })

abbrev pub with_speed : Opening → Option NormalPriorV1 → Opening
with_speed o p = with_priors o (record { muzzle_velocity_fps = p; ballistic_coefficient = o.measured.priors.ballistic_coefficient })

abbrev pub with_coefficient : Opening → Option NormalPriorV1 → Opening
with_coefficient o p = with_priors o (record { muzzle_velocity_fps = o.measured.priors.muzzle_velocity_fps; ballistic_coefficient = p })

abbrev pub with_distance : Opening → Requested → Opening
with_distance o d = record { measured = o.measured; requested = o.requested ++ (d ∷ []) }

abbrev pub requested_with : Float → Option Float → Requested
requested_with range sigma = record { range_yd = range; future_observation_sigma = sigma }
