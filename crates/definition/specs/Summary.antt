-- What a finished fit is reported as: observation results, baseline, `build_approximation`, diagnostics, predictive bands, warnings.
use Rattle.std.specs.Prelude.{ℕ, zero, suc, Bool, true, false, cond, not, ◌||◌, pos, length, Float, Option, None, Some}
use mathlib.Core.List.{List, [], ◌∷◌, map, foldl}
use Rattle.std.specs.Float.{inf, binary64}
use Rattle.std.specs.Float.Ieee.{neg, lt, le, of_int}
use Rattle.root.specs.Root.{root_of}
use Rattle.numeric.specs.Numeric.{zero64, one64, two64, finite, abs_of, max_of, clamp_of}
use Rattle.matrix.specs.Matrix.{Inverted, inverse, non_finite, rank_deficient, inverse_of}
use Rattle.matrix.specs.declared.Symmetric2.{Symmetric2}
use Rattle.interval.specs.Interval.{level95, factor95, interval_of}
use Rattle.interval.specs.declared.GaussianIntervalV1.{GaussianIntervalV1}
use Rattle.criteria.specs.Criteria.{mv_min, mv_max, bc_min, bc_max, at_bound_of}
use Rattle.definition.specs.Constants.{◌⊕◌, ◌⊖◌, ◌⊗◌, ◌⊘◌, squared, mv_scale, bc_scale, variance_tolerance, least_sensitivity_ratio, largest_condition}
use Rattle.definition.specs.Constants.{prior_dominance, epsilon}
use Rattle.definition.specs.Lists.{any, zip_with}
use Rattle.definition.specs.Request.{Observation, Requested, Measured}
use Rattle.definition.specs.Run.{Reply, refused, entries, reading_of}
use Rattle.definition.specs.Likelihood.{chi_square_of, Rows, rows_of}
use Rattle.definition.specs.Mesh.{Convergence, not_converged, scaled_gradient, objective_mesh}
use Rattle.definition.specs.Fit.{Fit, gradient_norm_of}
use Rattle.definition.specs.declared.Point.{Point}
use Rattle.definition.specs.declared.NormalPriorV1.{NormalPriorV1}
use Rattle.definition.specs.declared.TruingPriorsV1.{TruingPriorsV1}
use Rattle.definition.specs.declared.Row.{Row}
use Rattle.definition.specs.declared.Evaluation.{Evaluation}
use Rattle.definition.specs.declared.TruingCovarianceV1.{TruingCovarianceV1}
use Rattle.definition.specs.declared.WeightedTruingObservationResultV1.{WeightedTruingObservationResultV1}
use Rattle.definition.specs.declared.TruingGaussianApproximationV1.{TruingGaussianApproximationV1}
use Rattle.definition.specs.declared.TruingMapConvergenceCriterionV1.{TruingMapConvergenceCriterionV1}
use Rattle.definition.specs.declared.TruingMapConvergenceCriterionV1.TheVariants.{ScaledGradient, ObjectiveMesh}
use Rattle.definition.specs.declared.TruingApproximationFailureCodeV1.TheVariants as Failure
use Rattle.definition.specs.declared.TruingApproximationFailureCodeV1.{TruingApproximationFailureCodeV1}
use Rattle.definition.specs.declared.TruingUncertaintyWarningCodeV1.TheVariants as Warning
use Rattle.definition.specs.declared.TruingUncertaintyWarningCodeV1.{TruingUncertaintyWarningCodeV1}

-- ---- observation results and baseline

unfoldable pub result_of : Observation → Float → WeightedTruingObservationResultV1
result_of o predicted =
    let residual = predicted ⊖ o.drop in
    record {
      range_yd = o.range_yd;
      observed_drop = o.drop;
      sigma = o.sigma;
      predicted_drop = predicted;
      residual = residual;
      standardized_residual = residual ⊘ o.sigma;
    }

abbrev pub results_of : List Observation → List Float → List WeightedTruingObservationResultV1
results_of obs predicted = zip_with result_of obs predicted

pub record Baseline : Type 0 where
  pub entered : Point
  pub chi_square : Float
  pub observations : List WeightedTruingObservationResultV1

abbrev pub baseline_at : Measured → ℕ → List Float → Option Baseline
baseline_at m (suc gap) drops = None
baseline_at m zero drops =
    let s = chi_square_of m.observations drops in
    cond (finite s) (Some (record { entered = m.entered; chi_square = s; observations = results_of m.observations drops })) None

-- a refusal, a missing entry or a sum that is not finite means no baseline
unfoldable pub baseline_of : Measured → Reply → Option Baseline
baseline_of m refused = None
baseline_of m (entries es) = baseline_at m (reading_of es).gap (reading_of es).drops

-- ---- `build_approximation`

abbrev pub interval95 : Float → Float → Option GaussianIntervalV1
interval95 estimate variance = interval_of level95 factor95 estimate variance

-- available, with the covariance in scaled coordinates, which the bands are made from; or withheld, with the reason
pub data Approximation : Type 0 where
  available : TruingGaussianApproximationV1 → Symmetric2 → Approximation
  unavailable : TruingApproximationFailureCodeV1 → Approximation

-- the covariance in its own units, from the scaled one
unfoldable pub covariance_of : Symmetric2 → TruingCovarianceV1
covariance_of q = record {
  mv_variance_fps2 = q.a00 ⊗ squared mv_scale;
  mv_bc_covariance_fps = q.a01 ⊗ mv_scale ⊗ bc_scale;
  bc_variance = q.a11 ⊗ squared bc_scale;
}

unfoldable pub correlation_of : TruingCovarianceV1 → Float
correlation_of c = c.mv_bc_covariance_fps ⊘ root_of (c.mv_variance_fps2 ⊗ c.bc_variance)

abbrev pub with_intervals : Symmetric2 → Float → Option GaussianIntervalV1 → Option GaussianIntervalV1 → Approximation
with_intervals q condition None bc = unavailable Failure.NonFiniteInformation
with_intervals q condition (Some mv) None = unavailable Failure.NonFiniteInformation
with_intervals q condition (Some mv) (Some bc) =
    let correlation = correlation_of (covariance_of q) in
    cond (finite correlation)
    (available (record {
      covariance = covariance_of q;
      muzzle_velocity_interval_95 = mv;
      ballistic_coefficient_interval_95 = bc;
      mv_bc_correlation = clamp_of correlation (neg one64) one64;
      scaled_information_condition_number = condition;
    }) q)
    (unavailable Failure.NonFiniteInformation)

abbrev pub with_inverse : Point → Inverted → Approximation
with_inverse p non_finite = unavailable Failure.NonFiniteInformation
with_inverse p rank_deficient = unavailable Failure.RankDeficientInformation
with_inverse p (inverse q condition) =
    with_intervals q condition (interval95 p.mv (covariance_of q).mv_variance_fps2) (interval95 p.bc (covariance_of q).bc_variance)

unfoldable pub build_approximation_of : Point → Symmetric2 → Approximation
build_approximation_of p information = with_inverse p (inverse_of information)

abbrev pub converged : Convergence → Bool
converged not_converged = false
converged scaled_gradient = true
converged (objective_mesh r i) = true

unfoldable pub approximation_of : Bool → Point → Symmetric2 → Approximation
approximation_of verified p information =
    cond (not verified) (unavailable Failure.OptimizerDidNotConverge)
    (cond (at_bound_of p.mv p.bc) (unavailable Failure.MapAtParameterBound) (build_approximation_of p information))

-- ---- diagnostics

-- trace(data · covariance), in 0..2
unfoldable pub effective_count_of : Symmetric2 → Symmetric2 → Float
effective_count_of d q = clamp_of (d.a00 ⊗ q.a00 ⊕ two64 ⊗ d.a01 ⊗ q.a01 ⊕ d.a11 ⊗ q.a11) zero64 two64

abbrev pub effective_count : Symmetric2 → Approximation → Option Float
effective_count d (available g q) = Some (effective_count_of d q)
effective_count d (unavailable code) = None

abbrev pub degrees_of_freedom : ℕ → Option Float → Option Float
degrees_of_freedom n None = None
degrees_of_freedom n (Some count) = Some (of_int binary64 (pos n) ⊖ count)

abbrev pub reduced_chi_square : Float → Option Float → Option Float
reduced_chi_square chi None = None
reduced_chi_square chi (Some dof) = cond (lt epsilon dof) (Some (chi ⊘ dof)) None

abbrev pub criterion : Convergence → Option TruingMapConvergenceCriterionV1
criterion not_converged = None
criterion scaled_gradient = Some ScaledGradient
criterion (objective_mesh r i) = Some ObjectiveMesh

abbrev pub poll_radius : Convergence → Option Float
poll_radius not_converged = None
poll_radius scaled_gradient = None
poll_radius (objective_mesh r i) = Some r

abbrev pub poll_improvement : Convergence → Option Float
poll_improvement not_converged = None
poll_improvement scaled_gradient = None
poll_improvement (objective_mesh r i) = Some i

pub record Diagnostics : Type 0 where
  pub chi_square : Float
  pub prior_penalty : Float
  pub penalized_chi_square : Float
  pub effective_parameter_count : Option Float
  pub effective_degrees_of_freedom : Option Float
  pub reduced : Option Float
  pub bc_sensitivity_ratio : Float
  pub data_condition_number : Float
  pub gradient_norm : Float
  pub convergence_criterion : Option TruingMapConvergenceCriterionV1
  pub objective_poll_radius : Option Float
  pub objective_poll_improvement : Option Float
  pub objective_poll_evaluations : ℕ

unfoldable pub diagnostics_of : ℕ → Fit → Evaluation → Approximation → Diagnostics
diagnostics_of n f e a =
    let count = effective_count e.data_information a in
    let dof = degrees_of_freedom n count in
    record {
      chi_square = e.chi_square;
      prior_penalty = e.prior_penalty;
      penalized_chi_square = e.chi_square ⊕ e.prior_penalty;
      effective_parameter_count = count;
      effective_degrees_of_freedom = dof;
      reduced = reduced_chi_square e.chi_square dof;
      bc_sensitivity_ratio = e.bc_sensitivity_ratio;
      data_condition_number = e.data_condition_number;
      gradient_norm = gradient_norm_of e;
      convergence_criterion = criterion f.convergence;
      objective_poll_radius = poll_radius f.convergence;
      objective_poll_improvement = poll_improvement f.convergence;
      objective_poll_evaluations = f.evaluations;
    }

-- ---- predictive bands

-- I: what an interval is told by, which is its record, or under a coverage table its rows (specs/Report.antt of `coverage`)
pub record BandWith (I : Type 0) : Type 0 where
  pub range : Float
  pub predicted_drop : Float
  pub latent : Option I
  pub future : Option I

abbrev pub Band : Type 0
Band = BandWith GaussianIntervalV1

-- the variance of a predicted drop, by the scaled slopes g: a small negative one, by rounding, counts as 0, and a larger one gives none
unfoldable pub band_variance_of : Symmetric2 → Float → Float → Option Float
band_variance_of q gMv gBc =
    let mvPart = gMv ⊗ gMv ⊗ q.a00 in
    let bcPart = gBc ⊗ gBc ⊗ q.a11 in
    let variance = mvPart ⊕ two64 ⊗ gMv ⊗ gBc ⊗ q.a01 ⊕ bcPart in
    let tolerance = variance_tolerance ⊗ max_of (max_of (abs_of mvPart) (abs_of bcPart)) one64 in
    cond (le zero64 variance) (Some variance) (cond (le (neg tolerance) variance) (Some zero64) None)

abbrev pub interval_at : Float → Option Float → Option GaussianIntervalV1
interval_at predicted None = None
interval_at predicted (Some variance) = interval95 predicted variance

unfoldable pub latent_of : Symmetric2 → Row → Option GaussianIntervalV1
latent_of q r = interval_at r.predicted_drop (band_variance_of q (r.d_drop_d_mv ⊗ mv_scale) (r.d_drop_d_bc ⊗ bc_scale))

-- for a future observation, where its sigma is given and the latent interval is there
unfoldable pub future_of : Float → Option GaussianIntervalV1 → Option Float → Option GaussianIntervalV1
future_of predicted None sigma = None
future_of predicted (Some latent) None = None
future_of predicted (Some latent) (Some sigma) = interval95 predicted (squared latent.standard_deviation ⊕ squared sigma)

abbrev pub latent_with : Approximation → Row → Option GaussianIntervalV1
latent_with (available g q) r = latent_of q r
latent_with (unavailable code) r = None

unfoldable pub band_of : Approximation → Requested → Row → Band
band_of a d r =
    let latent = latent_with a r in
    record {
      range = d.range_yd;
      predicted_drop = r.predicted_drop;
      latent = latent;
      future = future_of r.predicted_drop latent d.future_observation_sigma;
    }

-- ---- warnings

-- the nearest and the farthest observed distance
abbrev pub nearer : Float → Float → Float
nearer m d = cond (lt d m) d m

abbrev pub farther : Float → Float → Float
farther m d = cond (lt m d) d m

abbrev pub ranges_of : List Observation → List Float
ranges_of obs = map (λ o. o.range_yd) obs

unfoldable pub observed_min : List Observation → Float
observed_min obs = foldl nearer (inf false) (ranges_of obs)

unfoldable pub observed_max : List Observation → Float
observed_max obs = foldl farther (inf true) (ranges_of obs)

abbrev pub is_outside : List Observation → Requested → Bool
is_outside obs d = lt d.range_yd (observed_min obs) || lt (observed_max obs) d.range_yd

-- a posterior variance that remains at 0.8 of the prior's or more
unfoldable pub dominated_of : Option NormalPriorV1 → Float → Bool
dominated_of None variance = false
dominated_of (Some q) variance = le (prior_dominance ⊗ squared q.sigma) variance

unfoldable pub crosses_bounds_of : GaussianIntervalV1 → GaussianIntervalV1 → Bool
crosses_bounds_of mv bc = lt mv.lower mv_min || lt mv_max mv.upper || lt bc.lower bc_min || lt bc_max bc.upper

abbrev pub is_mesh : Convergence → Bool
is_mesh not_converged = false
is_mesh scaled_gradient = false
is_mesh (objective_mesh r i) = true

-- what holds of the approximation, where it is available
abbrev pub where_available : (TruingGaussianApproximationV1 → Bool) → Approximation → Bool
where_available t (available g q) = t g
where_available t (unavailable code) = false

abbrev pub is_unavailable : Approximation → Bool
is_unavailable (available g q) = false
is_unavailable (unavailable code) = true

abbrev pub at_most_one : Option Float → Bool
at_most_one None = false
at_most_one (Some dof) = le dof one64

-- a code that stands where its test passes
abbrev pub warn : Bool → TruingUncertaintyWarningCodeV1 → List TruingUncertaintyWarningCodeV1 → List TruingUncertaintyWarningCodeV1
warn true code rest = code ∷ rest
warn false code rest = rest

-- whether an interval of a parameter reaches beyond the fit's bounds
abbrev pub crosses_of : Approximation → Bool
crosses_of a = where_available (λ g. crosses_bounds_of g.muzzle_velocity_interval_95 g.ballistic_coefficient_interval_95) a

-- each of the ten at most once, in the order in which the source pushes them; the one about the requested distances comes last. `crosses`: whether an interval
-- reaches beyond the bounds.
abbrev pub warnings_with : Bool → Measured → Fit → Evaluation → Approximation → Diagnostics → List Requested → List TruingUncertaintyWarningCodeV1
warnings_with crosses m f e a d requested =
    warn (not (converged f.convergence)) Warning.OptimizerDidNotConverge
    (warn (is_mesh f.convergence) Warning.ObjectiveMeshConvergence
    (warn (lt e.bc_sensitivity_ratio least_sensitivity_ratio) Warning.WeakBcSensitivity
    (warn (not (finite e.data_condition_number) || lt largest_condition e.data_condition_number) Warning.IllConditionedData
    (warn (where_available (λ g. dominated_of m.priors.muzzle_velocity_fps g.covariance.mv_variance_fps2) a) Warning.MvPriorDominated
    (warn (where_available (λ g. dominated_of m.priors.ballistic_coefficient g.covariance.bc_variance) a) Warning.BcPriorDominated
    (warn (is_unavailable a) Warning.GaussianApproximationUnavailable
    (warn crosses Warning.IntervalCrossesFitBounds
    (warn (at_most_one d.effective_degrees_of_freedom) Warning.LowEffectiveDegreesOfFreedom
    (warn (any (is_outside m.observations) requested) Warning.PredictionOutsideObservedDomain [])))))))))

abbrev pub Warns : Type 0
Warns = Measured → Fit → Evaluation → Approximation → Diagnostics → List Requested → List TruingUncertaintyWarningCodeV1

-- the crossing being judged in this way
abbrev pub warned_by : (Approximation → Bool) → Warns
warned_by crosses m f e a d requested = warnings_with (crosses a) m f e a d requested

unfoldable pub warnings_of : Warns
warnings_of m f e a d requested = warned_by crosses_of m f e a d requested

-- ---- the report, its fields in the source's order

-- A: what the approximation is told by; I: what an interval is
pub record ReportWith (A I : Type 0) : Type 0 where
  pub schema_version : ℕ
  pub point : Point
  pub iterations : ℕ
  pub is_converged : Bool
  pub priors : TruingPriorsV1
  pub observations : List WeightedTruingObservationResultV1
  pub baseline : Option Baseline
  pub diagnostics : Diagnostics
  pub approximation : A
  pub bands : List (BandWith I)
  pub warnings : List TruingUncertaintyWarningCodeV1

abbrev pub Report : Type 0
Report = ReportWith Approximation GaussianIntervalV1

-- a finished run: the fit, the evaluation and the predicted drops at it, the requested distances with their rows, and the baseline
pub record Finished : Type 0 where
  pub measured : Measured
  pub fit : Fit
  pub evaluation : Evaluation
  pub predicted : List Float
  pub requested : List Requested
  pub band_rows : Rows
  pub baseline : Option Baseline

-- the report of a finished run, by how its approximation and its bands are told, and by its warnings
abbrev pub report_with : {A I : Type 0} → (Approximation → A) → (Band → BandWith I) → Warns → Finished → ReportWith A I
report_with approximation band warnings c =
    let m = c.measured in
    let f = c.fit in
    let e = c.evaluation in
    let a = approximation_of (converged f.convergence) f.point e.posterior_information in
    let d = diagnostics_of (length m.observations) f e a in
    record {
      schema_version = 1;
      point = f.point;
      iterations = f.iterations;
      is_converged = converged f.convergence;
      priors = m.priors;
      observations = results_of m.observations c.predicted;
      baseline = c.baseline;
      diagnostics = d;
      approximation = approximation a;
      bands = zip_with (λ q r. band (band_of a q r)) c.requested (rows_of c.band_rows);
      warnings = warnings m f e a d c.requested;
    }

unfoldable pub report_of : Finished → Report
report_of c = report_with (λ a. a) (λ b. b) warnings_of c
