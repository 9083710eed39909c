-- Which codes the ten truths stand for; and the definition's warnings by the numbers and the lists of numbers that the code reads.
-- proofs/Laws.antt shows that these are the definition's.
use Rattle.std.specs.Prelude.{Bool, true, false, not, ◌||◌, Float, Option}
use mathlib.Core.List.{List, [], foldl}
use Rattle.std.specs.Float.{inf}
use Rattle.std.specs.Float.Ieee.{lt}
use Rattle.numeric.specs.Numeric.{finite}
use Rattle.definition.specs.Constants.{least_sensitivity_ratio, largest_condition}
use Rattle.definition.specs.Mesh.{Convergence}
use Rattle.definition.specs.Summary.{Approximation, nearer, farther, dominated_of, crosses_bounds_of, converged, is_mesh, is_unavailable, where_available, at_most_one}
use Rattle.definition.specs.Summary.{warn}
use Rattle.definition.specs.declared.NormalPriorV1.{NormalPriorV1}
use Rattle.definition.specs.declared.TruingPriorsV1.{TruingPriorsV1}
use Rattle.definition.specs.declared.Evaluation.{Evaluation}
use Rattle.definition.specs.declared.TruingUncertaintyWarningCodeV1.TheVariants as Warning
use Rattle.definition.specs.declared.TruingUncertaintyWarningCodeV1.{TruingUncertaintyWarningCodeV1}
use Rattle.warnings.specs.declared.Warnings.{Warnings}

-- the codes whose truths are set, in the source's order
unfoldable pub codes : (a b c d e f g h i j : Bool) → List TruingUncertaintyWarningCodeV1
codes a b c d e f g h i j =
    warn a Warning.OptimizerDidNotConverge
    (warn b Warning.ObjectiveMeshConvergence
    (warn c Warning.WeakBcSensitivity
    (warn d Warning.IllConditionedData
    (warn e Warning.MvPriorDominated
    (warn f Warning.BcPriorDominated
    (warn g Warning.GaussianApproximationUnavailable
    (warn h Warning.IntervalCrossesFitBounds
    (warn i Warning.LowEffectiveDegreesOfFreedom
    (warn j Warning.PredictionOutsideObservedDomain [])))))))))

abbrev pub codes_of : Warnings → List TruingUncertaintyWarningCodeV1
codes_of w =
    codes w.optimizer_did_not_converge w.objective_mesh_convergence w.weak_bc_sensitivity w.ill_conditioned_data
    w.mv_prior_dominated w.bc_prior_dominated w.gaussian_approximation_unavailable w.interval_crosses_fit_bounds
    w.low_effective_degrees_of_freedom w.prediction_outside_observed_domain

-- the nearest and the farthest of a list of distances
unfoldable pub nearest_of : List Float → Float
nearest_of ranges = foldl nearer (inf false) ranges

unfoldable pub farthest_of : List Float → Float
farthest_of ranges = foldl farther (inf true) ranges

-- strictly nearer than the nearest or farther than the farthest
unfoldable pub outside_of : Float → Float → Float → Bool
outside_of min max range = lt range min || lt max range

unfoldable pub ill_conditioned_of : Float → Bool
ill_conditioned_of condition = not (finite condition) || lt largest_condition condition

unfoldable pub mv_dominated_of : Option NormalPriorV1 → Approximation → Bool
mv_dominated_of prior a = where_available (λ g. dominated_of prior g.covariance.mv_variance_fps2) a

unfoldable pub bc_dominated_of : Option NormalPriorV1 → Approximation → Bool
bc_dominated_of prior a = where_available (λ g. dominated_of prior g.covariance.bc_variance) a

unfoldable pub interval_crosses_of : Approximation → Bool
interval_crosses_of a = where_available (λ g. crosses_bounds_of g.muzzle_velocity_interval_95 g.ballistic_coefficient_interval_95) a

-- the warnings, by the convergence, the degrees of freedom and whether a requested distance is outside
unfoldable pub warnings_by : Convergence → Evaluation → TruingPriorsV1 → Approximation → Option Float → Bool → List TruingUncertaintyWarningCodeV1
warnings_by convergence e priors a dof outside =
    codes (not (converged convergence)) (is_mesh convergence) (lt e.bc_sensitivity_ratio least_sensitivity_ratio)
    (ill_conditioned_of e.data_condition_number)
    (mv_dominated_of priors.muzzle_velocity_fps a) (bc_dominated_of priors.ballistic_coefficient a) (is_unavailable a) (interval_crosses_of a)
    (at_most_one dof) outside

-- whether the warning of a code stands
abbrev pub stands_in : Warnings → TruingUncertaintyWarningCodeV1 → Bool
stands_in w Warning.OptimizerDidNotConverge = w.optimizer_did_not_converge
stands_in w Warning.ObjectiveMeshConvergence = w.objective_mesh_convergence
stands_in w Warning.WeakBcSensitivity = w.weak_bc_sensitivity
stands_in w Warning.IllConditionedData = w.ill_conditioned_data
stands_in w Warning.MvPriorDominated = w.mv_prior_dominated
stands_in w Warning.BcPriorDominated = w.bc_prior_dominated
stands_in w Warning.GaussianApproximationUnavailable = w.gaussian_approximation_unavailable
stands_in w Warning.IntervalCrossesFitBounds = w.interval_crosses_fit_bounds
stands_in w Warning.LowEffectiveDegreesOfFreedom = w.low_effective_degrees_of_freedom
stands_in w Warning.PredictionOutsideObservedDomain = w.prediction_outside_observed_domain
