-- How long the texts of the answers are: that of a report with at most 64 observations, 64 bands, 10 warnings and 8 rows an interval has at most 108700 bytes.
use Rattle.std.specs.Prelude.{Option, None, Some, option_map}
use Prim.Native.Nat.{ℕ, zero, suc, ◌+◌, ◌*◌, ◌/◌, ◌%◌, ◌≤◌}
use mathlib.Core.Path.{◌≡◌, refl}
use mathlib.Core.Bool.{Bool, true, false, cond, not, ◌||◌}
use mathlib.Core.List.{List, [], ◌∷◌, ◌++◌, map}
use native.Mathlib.Nat.{mul-suc}
use native.Mathlib.Omega.{arith}
use lib.Dec.{ltb}
use lib.ListN.{length, length-append, length-map}
use lib.Ieee.{Float, lt, binary64, to_bits}
use Rattle.numeric.specs.Numeric.{finite}
use Rattle.interval.specs.declared.GaussianIntervalV1.{GaussianIntervalV1}
use Rattle.definition.specs.Constants.{least_sensitivity_ratio, largest_condition}
use Rattle.definition.specs.Lists.{any}
use Rattle.definition.specs.Request.{Requested, Measured}
use Rattle.definition.specs.Fit.{Fit}
use Rattle.definition.specs.Summary.{Approximation, available, unavailable, Diagnostics, Band, Baseline, converged, is_mesh, where_available, dominated_of}
use Rattle.definition.specs.Summary.{is_unavailable, at_most_one, is_outside, warn, warnings_with}
use Rattle.coverage.specs.Rows.{Table, at_row, rows_under}
use Rattle.coverage.specs.Report.{approximation_by, band_by, IntervalRows, CoveredApproximation, told, withheld, CoveredBand, CoveredReport}
use Rattle.definition.specs.declared.Evaluation.{Evaluation}
use Rattle.definition.specs.declared.NormalPriorV1.{NormalPriorV1}
use Rattle.definition.specs.declared.TruingPriorsV1.{TruingPriorsV1}
use Rattle.definition.specs.declared.TruingCovarianceV1.{TruingCovarianceV1}
use Rattle.definition.specs.declared.WeightedTruingObservationResultV1.{WeightedTruingObservationResultV1}
use Rattle.definition.specs.declared.TruingMapConvergenceCriterionV1.{TruingMapConvergenceCriterionV1}
use Rattle.definition.specs.declared.TruingMapConvergenceCriterionV1.TheVariants.{ScaledGradient, ObjectiveMesh}
use Rattle.definition.specs.declared.TruingApproximationFailureCodeV1.{TruingApproximationFailureCodeV1}
use Rattle.definition.specs.declared.TruingApproximationFailureCodeV1.TheVariants as Failure
use Rattle.definition.specs.declared.TruingUncertaintyWarningCodeV1.{TruingUncertaintyWarningCodeV1}
use Rattle.definition.specs.declared.TruingUncertaintyWarningCodeV1.TheVariants as Warning
use Rattle.warnings.specs.Warnings.{codes}
use Rattle.report.specs.Report.{Results}
use Rattle.numerals.specs.Numbers.{glyph_of, digits_of, places_of, double_text, count_text}
use Rattle.words.specs.Words.{bytes}
use Rattle.report_text.specs.Writing.{Text}
use Rattle.report_text.specs.Texts.{
  led,
  joined,
  opened,
  bracketed,
  or_none,
  truth_text,
  number_text,
  criterion_name,
  failure_name,
  warning_name,
  gaussian_text,
  rows_text,
  interval_text,
  normal_text,
  prior_text,
  priors_text,
  result_text,
  results_text,
  baseline_text,
  diagnostics_text,
  covariance_text,
  available_text,
  approximation_text,
  band_text,
  bands_text,
  warning_text,
  warnings_text,
  report_text,
  list_name,
  question_text,
  declined_text,
  asked_text,
  page_count_text,
  malformed_text,
}
use Rattle.definition.specs.declared.Distances.{Distances}

-- ---- numbers

digits_length : (b k n : ℕ) → length (digits_of b k n) ≡ k
digits_length b zero n = refl
digits_length b (suc k) n = omega (arith, length-append (digits_of b k (n / b)) (glyph_of (n % b) ∷ []), digits_length b k (n / b))

places_at : (m : ℕ) (k : ℕ) (v : Bool) → m ≤ suc k → cond v 1 (suc m) ≤ suc (suc k)
places_at m k true h = omega arith
places_at m k false h = omega arith

places_most : (k n : ℕ) → places_of k n ≤ suc k
places_most zero n = omega arith
places_most (suc k) n = places_at (places_of k (n / 10)) k (ltb n 10) (places_most k (n / 10))

pub double_length : (x : Float) → length (double_text x) ≡ 16
unfolding double_text
double_length x = digits_length 16 16 (to_bits binary64 x)

pub count_length : (n : ℕ) → length (count_text n) ≤ 20
unfolding count_text
count_length n = omega (arith, digits_length 10 (places_of 19 n) n, places_most 19 n)

-- ---- fields in brackets

-- enough for the fields in brackets
abbrev size : List Text → ℕ
size [] = 2
size (f ∷ fs) = suc (length f) + size fs

led_length : (fs : List Text) → length (led fs) + 2 ≡ size fs
unfolding led
led_length [] = refl
led_length (f ∷ fs) = omega (arith, led_length fs, length-append f (led fs))

short : {n : ℕ} (fs : List Text) → size fs ≤ n → length (bracketed fs) ≤ n
unfolding joined opened bracketed
short [] h = h
short (f ∷ fs) h = omega (arith, led_length fs, length-append (f ++ led fs) (bytes ")"), length-append f (led fs))

map_size : {A : Type 0} (text : A → Text) (k : ℕ) → ((a : A) → length (text a) ≤ k) → (l : List A) → size (map text l) ≤ 2 + suc k * length l
map_size text k h [] = omega arith
map_size text k h (a ∷ l) = omega (arith, h a, map_size text k h l, mul-suc (suc k) (length l))

-- ---- the parts

number_length : (x : Option Float) → length (number_text x) ≤ 16
number_length None = omega arith
number_length (Some x) = omega (arith, double_length x)

gaussian_length : (g : GaussianIntervalV1) → length (gaussian_text g) ≤ 87
unfolding gaussian_text
gaussian_length g =
    short _
    (omega (
      arith,
      double_length g.estimate,
      double_length g.standard_deviation,
      double_length g.lower,
      double_length g.upper,
      double_length g.probability,
    ))

-- eight rows take 88 bytes each and two brackets
rows_length : (rows : IntervalRows) → length rows ≤ 8 → length (rows_text rows) ≤ 706
unfolding rows_text
rows_length [] h = short [] (omega arith)
rows_length (g ∷ []) h = omega (arith, gaussian_length g)
rows_length (g ∷ f ∷ rows) h = short _ (omega (arith, map_size gaussian_text 87 gaussian_length (g ∷ f ∷ rows)))

-- an interval that is there has at most eight rows
abbrev pub Few : Option IntervalRows → Type 0
Few None = Unit {0}
Few (Some rows) = length rows ≤ 8

abbrev pub FewOf : CoveredApproximation → Type 0
FewOf (told g) = (length g.muzzle_velocity ≤ 8) × (length g.ballistic_coefficient ≤ 8)
FewOf (withheld code) = Unit {0}

abbrev pub FewIn : List CoveredBand → Type 0
FewIn [] = Unit {0}
FewIn (b ∷ bands) = Few b.latent × Few b.future × FewIn bands

interval_length : (i : Option IntervalRows) → Few i → length (interval_text i) ≤ 706
interval_length None h = omega arith
interval_length (Some rows) h = rows_length rows h

prior_length : (p : Option NormalPriorV1) → length (prior_text p) ≤ 36
unfolding normal_text
prior_length None = omega arith
prior_length (Some p) = short _ (omega (arith, double_length p.mean, double_length p.sigma))

priors_length : (p : TruingPriorsV1) → length (priors_text p) ≤ 76
unfolding priors_text
priors_length p = short _ (omega (arith, prior_length p.muzzle_velocity_fps, prior_length p.ballistic_coefficient))

pub result_length : (o : WeightedTruingObservationResultV1) → length (result_text o) ≤ 104
unfolding result_text
result_length o =
    short _
    (omega (
      arith,
      double_length o.range_yd,
      double_length o.observed_drop,
      double_length o.sigma,
      double_length o.predicted_drop,
      double_length o.residual,
      double_length o.standardized_residual,
    ))

results_length : (results : Results) → length results ≤ 64 → length (results_text results) ≤ 6722
unfolding results_text
results_length results h = short _ (omega (arith, map_size result_text 104 result_length results))

baseline_length : (b : Option Baseline) → ((x : Baseline) → b ≡ Some x → length x.observations ≤ 64) → length (baseline_text b) ≤ 6776
unfolding baseline_text
baseline_length None h = omega arith
baseline_length (Some b) h =
    short _
    (omega (
      arith,
      double_length b.entered.mv,
      double_length b.entered.bc,
      double_length b.chi_square,
      results_length b.observations (h b refl),
    ))

criterion_length : (c : Option TruingMapConvergenceCriterionV1) → length (or_none criterion_name c) ≤ 14
criterion_length None = omega arith
criterion_length (Some ScaledGradient) = omega arith
criterion_length (Some ObjectiveMesh) = omega arith

diagnostics_length : (d : Diagnostics) → length (diagnostics_text d) ≤ 225
unfolding diagnostics_text
diagnostics_length d =
    short _ (omega (
      arith,
      double_length d.chi_square,
      double_length d.prior_penalty,
      double_length d.penalized_chi_square,
      number_length d.effective_parameter_count,
      number_length d.effective_degrees_of_freedom,
      number_length d.reduced,
      double_length d.bc_sensitivity_ratio,
      double_length d.data_condition_number,
      double_length d.gradient_norm,
      criterion_length d.convergence_criterion,
      number_length d.objective_poll_radius,
      number_length d.objective_poll_improvement,
      count_length d.objective_poll_evaluations,
    ))

failure_length : (code : TruingApproximationFailureCodeV1) → length (failure_name code) ≤ 24
failure_length Failure.OptimizerDidNotConverge = omega arith
failure_length Failure.MapAtParameterBound = omega arith
failure_length Failure.RankDeficientInformation = omega arith
failure_length Failure.NonFiniteInformation = omega arith

covariance_length : (c : TruingCovarianceV1) → length (covariance_text c) ≤ 53
unfolding covariance_text
covariance_length c =
    short _ (omega (arith, double_length c.mv_variance_fps2, double_length c.mv_bc_covariance_fps, double_length c.bc_variance))

approximation_length : (a : CoveredApproximation) → FewOf a → length (approximation_text a) ≤ 1514
unfolding approximation_text available_text
approximation_length (told g) h =
    short _ (omega (
      arith,
      covariance_length g.covariance,
      rows_length g.muzzle_velocity h.0,
      rows_length g.ballistic_coefficient h.1,
      double_length g.correlation,
      double_length g.condition_number,
    ))
approximation_length (withheld code) h = short _ (omega (arith, failure_length code))

pub band_length : (b : CoveredBand) → Few b.latent → Few b.future → length (band_text b) ≤ 1450
unfolding band_text
band_length b h k =
    short _ (omega (arith, double_length b.range, double_length b.predicted_drop, interval_length b.latent h, interval_length b.future k))

bands_size : (bands : List CoveredBand) → FewIn bands → size (map band_text bands) ≤ 2 + 1451 * length bands
bands_size [] h = omega arith
bands_size (b ∷ bands) h = omega (arith, band_length b h.0 h.1, bands_size bands h.2, mul-suc 1451 (length bands))

bands_length : (bands : List CoveredBand) → FewIn bands → length bands ≤ 64 → length (bands_text bands) ≤ 92866
unfolding bands_text
bands_length bands few h = short _ (omega (arith, bands_size bands few))

name_length : (code : TruingUncertaintyWarningCodeV1) → length (warning_name code) ≤ 32
name_length Warning.OptimizerDidNotConverge = omega arith
name_length Warning.ObjectiveMeshConvergence = omega arith
name_length Warning.WeakBcSensitivity = omega arith
name_length Warning.IllConditionedData = omega arith
name_length Warning.MvPriorDominated = omega arith
name_length Warning.BcPriorDominated = omega arith
name_length Warning.GaussianApproximationUnavailable = omega arith
name_length Warning.IntervalCrossesFitBounds = omega arith
name_length Warning.LowEffectiveDegreesOfFreedom = omega arith
name_length Warning.PredictionOutsideObservedDomain = omega arith

warning_length : (code : TruingUncertaintyWarningCodeV1) → length (warning_text code) ≤ 35
unfolding warning_text
warning_length code = short _ (omega (arith, name_length code))

warn_length : (on : Bool) (code : TruingUncertaintyWarningCodeV1) (left : List TruingUncertaintyWarningCodeV1) → length (warn on code left) ≤ suc (length left)
warn_length true code left = omega arith
warn_length false code left = omega arith

codes_length : (a b c d e f g h i j : Bool) → length (codes a b c d e f g h i j) ≤ 10
unfolding codes
codes_length a b c d e f g h i j =
    let l9 = warn j Warning.PredictionOutsideObservedDomain [] in
    let l8 = warn i Warning.LowEffectiveDegreesOfFreedom l9 in
    let l7 = warn h Warning.IntervalCrossesFitBounds l8 in
    let l6 = warn g Warning.GaussianApproximationUnavailable l7 in
    let l5 = warn f Warning.BcPriorDominated l6 in
    let l4 = warn e Warning.MvPriorDominated l5 in
    let l3 = warn d Warning.IllConditionedData l4 in
    let l2 = warn c Warning.WeakBcSensitivity l3 in
    let l1 = warn b Warning.ObjectiveMeshConvergence l2 in
    omega (
      arith,
      warn_length j Warning.PredictionOutsideObservedDomain [],
      warn_length i Warning.LowEffectiveDegreesOfFreedom l9,
      warn_length h
          Warning.IntervalCrossesFitBounds l8,
      warn_length g Warning.GaussianApproximationUnavailable l7,
      warn_length f Warning.BcPriorDominated l6,
      warn_length e Warning.MvPriorDominated l5,
      warn_length d Warning.IllConditionedData l4,
      warn_length c Warning.WeakBcSensitivity l3,
      warn_length b
          Warning.ObjectiveMeshConvergence l2,
      warn_length a Warning.OptimizerDidNotConverge l1,
    )

pub warnings_most : (crosses : Bool) (m : Measured) (f : Fit) (e : Evaluation) (a : Approximation) (d : Diagnostics) (requested : List Requested)
    → length (warnings_with crosses m f e a d requested) ≤ 10
unfolding codes
warnings_most crosses m f e a d requested =
    codes_length (not (converged f.convergence)) (is_mesh f.convergence) (lt e.bc_sensitivity_ratio least_sensitivity_ratio)
    (not (finite e.data_condition_number) || lt largest_condition e.data_condition_number)
    (where_available (λ g. dominated_of m.priors.muzzle_velocity_fps g.covariance.mv_variance_fps2) a)
    (where_available (λ g. dominated_of m.priors.ballistic_coefficient g.covariance.bc_variance) a) (is_unavailable a) crosses
    (at_most_one d.effective_degrees_of_freedom) (any (is_outside m.observations) requested)

warnings_length : (codes : List TruingUncertaintyWarningCodeV1) → length codes ≤ 10 → length (warnings_text codes) ≤ 362
unfolding warnings_text
warnings_length codes h = short _ (omega (arith, map_size warning_text 35 warning_length codes))

truth_length : (b : Bool) → length (truth_text b) ≤ 3
truth_length true = omega arith
truth_length false = omega arith

-- ---- the answers

-- the lists of a report have no more entries than a session has places, there are ten warnings, and an interval has no more rows than a table
pub record Bounded (p : CoveredReport) : Type 0 where
  pub results : length p.observations ≤ 64
  pub entered : (b : Baseline) → p.baseline ≡ Some b → length b.observations ≤ 64
  pub bands : length p.bands ≤ 64
  pub warnings : length p.warnings ≤ 10
  pub parameter_rows : FewOf p.approximation
  pub band_rows : FewIn p.bands

-- under a table of at most eight rows
module _ (t : Table) (few : length t ≤ 8) where
  few_rows : (g : GaussianIntervalV1) → length (rows_under t g) ≤ 8
  unfolding rows_under
  few_rows g = omega (arith, length-map t (at_row g))

  few_told : (i : Option GaussianIntervalV1) → Few (option_map (rows_under t) i)
  few_told None = tt
  few_told (Some g) = few_rows g

  pub few_of : (a : Approximation) → FewOf (approximation_by (rows_under t) a)
  few_of (available g q) = (few_rows g.muzzle_velocity_interval_95, few_rows g.ballistic_coefficient_interval_95)
  few_of (unavailable code) = tt

  pub few_in : (bands : List Band) → FewIn (map (band_by (rows_under t)) bands)
  few_in [] = tt
  few_in (b ∷ bands) = (few_told b.latent, few_told b.future, few_in bands)

pub report_length : (p : CoveredReport) → Bounded p → length (report_text p) ≤ 108700
unfolding report_text
report_length p h =
    short _ (omega (
      arith,
      count_length p.schema_version,
      double_length p.point.mv,
      double_length p.point.bc,
      count_length p.iterations,
      truth_length p.is_converged,
      priors_length p.priors,
      results_length p.observations h.results,
      baseline_length p.baseline h.entered,
      diagnostics_length p.diagnostics,
      approximation_length p.approximation h.parameter_rows,
      bands_length p.bands h.band_rows h.bands,
      warnings_length p.warnings h.warnings,
    ))

list_length : (list : Distances) → length (list_name list) ≤ 9
list_length Distances.Shots = omega arith
list_length Distances.Requested = omega arith
list_length Distances.New = omega arith

pub question_length : (list : Distances) (mv bc : Float) → length (question_text list mv bc) ≤ 55
unfolding question_text
question_length list mv bc = short _ (omega (arith, list_length list, double_length mv, double_length bc))

pub declined_length : (n position : ℕ) → length (declined_text n position) ≤ 53
unfolding declined_text
declined_length n position = short _ (omega (arith, count_length n, count_length position))

pub page_count_length : (n : ℕ) → length (page_count_text n) ≤ 28
unfolding page_count_text
page_count_length n = short _ (omega (arith, count_length n))

pub asked_length : (n : ℕ) → length (asked_text n) ≤ 29
unfolding asked_text
asked_length n = short _ (omega (arith, count_length n))

pub malformed_length : (n : ℕ) → length (malformed_text n) ≤ 33
unfolding malformed_text
malformed_length n = short _ (omega (arith, count_length n))
