-- What one of the code's enums becomes in another.
use Rattle.matrix.specs.declared.InverseError.{InverseError}
use Rattle.matrix.specs.declared.InverseError.TheVariants as Inverse
use Rattle.definition.specs.declared.TruingApproximationFailureCodeV1.{TruingApproximationFailureCodeV1}
use Rattle.definition.specs.declared.TruingApproximationFailureCodeV1.TheVariants as Failure
use Rattle.definition.specs.declared.Convergence.{Convergence}
use Rattle.definition.specs.declared.Convergence.TheVariants as Verified
use Rattle.definition.specs.declared.TruingMapConvergenceCriterionV1.{TruingMapConvergenceCriterionV1}
use Rattle.definition.specs.declared.TruingMapConvergenceCriterionV1.TheVariants as Criterion

-- why an approximation was withheld, where the information has no inverse
abbrev pub failure_of : InverseError → TruingApproximationFailureCodeV1
failure_of Inverse.NonFiniteInformation = Failure.NonFiniteInformation
failure_of Inverse.RankDeficientInformation = Failure.RankDeficientInformation

-- by which criterion a fit was verified
abbrev pub criterion_of : Convergence → TruingMapConvergenceCriterionV1
criterion_of Verified.ScaledGradient = Criterion.ScaledGradient
criterion_of (Verified.ObjectiveMesh radius improvement) = Criterion.ObjectiveMesh
