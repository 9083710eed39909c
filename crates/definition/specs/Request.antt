-- What an opening brings. The requested distances stand apart: the fit, the evaluation at the fit and the baseline are about `Measured` alone.
use Rattle.std.specs.Prelude.{List}
use Rattle.definition.specs.declared.Point.{Point}
use Rattle.definition.specs.declared.TruingPriorsV1.{TruingPriorsV1}
use Rattle.definition.specs.declared.WeightedTruingObservationV1.{WeightedTruingObservationV1}
use Rattle.definition.specs.declared.TruingPredictionRequestV1.{TruingPredictionRequestV1}

-- an observation
abbrev pub Observation : Type 0
Observation = WeightedTruingObservationV1

-- a requested distance, with the sigma of a future observation if one is given
abbrev pub Requested : Type 0
Requested = TruingPredictionRequestV1

pub record Measured : Type 0 where
  pub entered : Point
  pub observations : List Observation
  pub priors : TruingPriorsV1

pub record Opening : Type 0 where
  pub measured : Measured
  pub requested : List Requested
