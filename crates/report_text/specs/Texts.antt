-- S22's report written out, under a coverage table (L2), and the other answers of the line protocol (docs/PROTOCOL.md). A text is the list of its bytes; none
-- of these has its line feed.
use Rattle.std.specs.Prelude.{ℕ, Bool, true, false, List, [], ◌∷◌, ◌++◌, map, Float, Option, None, Some}
use Rattle.interval.specs.declared.GaussianIntervalV1.{GaussianIntervalV1}
use Rattle.definition.specs.declared.NormalPriorV1.{NormalPriorV1}
use Rattle.definition.specs.declared.TruingPriorsV1.{TruingPriorsV1}
use Rattle.definition.specs.declared.TruingCovarianceV1.{TruingCovarianceV1}
use Rattle.definition.specs.declared.WeightedTruingObservationResultV1.{WeightedTruingObservationResultV1}
use Rattle.definition.specs.declared.TruingMapConvergenceCriterionV1.{TruingMapConvergenceCriterionV1}
use Rattle.definition.specs.declared.TruingMapConvergenceCriterionV1.TheVariants.{ScaledGradient, ObjectiveMesh}
use Rattle.definition.specs.declared.TruingApproximationFailureCodeV1.{TruingApproximationFailureCodeV1}
use Rattle.definition.specs.declared.TruingApproximationFailureCodeV1.TheVariants as Failure
use Rattle.definition.specs.declared.TruingUncertaintyWarningCodeV1.{TruingUncertaintyWarningCodeV1}
use Rattle.definition.specs.declared.TruingUncertaintyWarningCodeV1.TheVariants as Warning
use Rattle.definition.specs.Summary.{Baseline, Diagnostics}
use Rattle.definition.specs.Meaning.{approximation_says}
use Rattle.coverage.specs.Rows.{Table, rows_under}
use Rattle.coverage.specs.Report.{GaussianWith, approximation_by, IntervalRows, CoveredApproximation, told, withheld, CoveredBand, CoveredReport}
use Rattle.summary.specs.Summary.{diagnostics_says}
use Rattle.warnings.specs.Warnings.{codes_of}
use Rattle.report.specs.declared.UncertaintyTruingReportV1.{UncertaintyTruingReportV1}
use Rattle.numerals.specs.Numbers.{double_text, count_text}
use Rattle.words.specs.Words.{bytes}
use Rattle.report_text.specs.Writing.{Text}
use Rattle.definition.specs.declared.Distances.{Distances}
use Rattle.definition.specs.declared.Distances.TheVariants.{Shots, Requested, New}

-- ---- fields and brackets

-- each field after a blank
unfoldable pub led : List Text → Text
led [] = []
led (f ∷ fs) = bytes " " ++ f ++ led fs

-- fields with one blank between two
unfoldable pub joined : List Text → Text
joined [] = []
joined (f ∷ fs) = f ++ led fs

-- a record or a list stands in brackets; an empty list is ()
unfoldable pub opened : List Text → Text
opened fs = bytes "(" ++ joined fs

unfoldable pub bracketed : List Text → Text
bracketed fs = opened fs ++ bytes ")"

-- what is absent is none
abbrev pub or_none : {A : Type 0} → (A → Text) → Option A → Text
or_none text None = bytes "none"
or_none text (Some a) = text a

-- one text stands alone; several stand as a list
abbrev pub one_or_list : List Text → Text
one_or_list (t ∷ []) = t
one_or_list ts = bracketed ts

-- ---- single fields

abbrev pub truth_text : Bool → Text
truth_text true = bytes "yes"
truth_text false = bytes "no"

abbrev pub number_text : Option Float → Text
number_text x = or_none double_text x

-- a code is its name in the source
abbrev pub criterion_name : TruingMapConvergenceCriterionV1 → Text
criterion_name ScaledGradient = bytes "ScaledGradient"
criterion_name ObjectiveMesh = bytes "ObjectiveMesh"

abbrev pub failure_name : TruingApproximationFailureCodeV1 → Text
failure_name Failure.OptimizerDidNotConverge = bytes "OptimizerDidNotConverge"
failure_name Failure.MapAtParameterBound = bytes "MapAtParameterBound"
failure_name Failure.RankDeficientInformation = bytes "RankDeficientInformation"
failure_name Failure.NonFiniteInformation = bytes "NonFiniteInformation"

abbrev pub warning_name : TruingUncertaintyWarningCodeV1 → Text
warning_name Warning.OptimizerDidNotConverge = bytes "OptimizerDidNotConverge"
warning_name Warning.ObjectiveMeshConvergence = bytes "ObjectiveMeshConvergence"
warning_name Warning.WeakBcSensitivity = bytes "WeakBcSensitivity"
warning_name Warning.IllConditionedData = bytes "IllConditionedData"
warning_name Warning.MvPriorDominated = bytes "MvPriorDominated"
warning_name Warning.BcPriorDominated = bytes "BcPriorDominated"
warning_name Warning.GaussianApproximationUnavailable = bytes "GaussianApproximationUnavailable"
warning_name Warning.IntervalCrossesFitBounds = bytes "IntervalCrossesFitBounds"
warning_name Warning.LowEffectiveDegreesOfFreedom = bytes "LowEffectiveDegreesOfFreedom"
warning_name Warning.PredictionOutsideObservedDomain = bytes "PredictionOutsideObservedDomain"

-- ---- records, their fields in the source's order

unfoldable pub gaussian_text : GaussianIntervalV1 → Text
gaussian_text g =
    bracketed (double_text g.estimate ∷ double_text g.standard_deviation ∷ double_text g.lower ∷ double_text g.upper ∷ double_text
    g.probability ∷ [])

-- L2: an interval "comes once per row" of the coverage table; it "prints as a list if the table has several rows, an absent one as a single `none`"
unfoldable pub rows_text : IntervalRows → Text
rows_text rows = one_or_list (map gaussian_text rows)

abbrev pub interval_text : Option IntervalRows → Text
interval_text i = or_none rows_text i

unfoldable pub normal_text : NormalPriorV1 → Text
normal_text p = bracketed (double_text p.mean ∷ double_text p.sigma ∷ [])

abbrev pub prior_text : Option NormalPriorV1 → Text
prior_text p = or_none normal_text p

unfoldable pub priors_text : TruingPriorsV1 → Text
priors_text p = bracketed (prior_text p.muzzle_velocity_fps ∷ prior_text p.ballistic_coefficient ∷ [])

unfoldable pub result_text : WeightedTruingObservationResultV1 → Text
result_text o =
    bracketed
    (double_text o.range_yd ∷ double_text o.observed_drop ∷ double_text o.sigma ∷
    double_text o.predicted_drop ∷ double_text o.residual ∷ double_text o.standardized_residual ∷ [])

unfoldable pub results_text : List WeightedTruingObservationResultV1 → Text
results_text results = bracketed (map result_text results)

unfoldable pub baseline_text : Option Baseline → Text
baseline_text None = bytes "none"
baseline_text (Some b) =
    bracketed (double_text b.entered.mv ∷ double_text b.entered.bc ∷ double_text b.chi_square ∷ results_text b.observations ∷ [])

unfoldable pub diagnostics_text : Diagnostics → Text
diagnostics_text d =
    bracketed
    (double_text d.chi_square ∷ double_text d.prior_penalty ∷ double_text d.penalized_chi_square ∷
    number_text d.effective_parameter_count ∷ number_text d.effective_degrees_of_freedom ∷ number_text d.reduced ∷
    double_text d.bc_sensitivity_ratio ∷ double_text d.data_condition_number ∷ double_text d.gradient_norm ∷
    or_none criterion_name d.convergence_criterion ∷ number_text d.objective_poll_radius ∷ number_text d.objective_poll_improvement ∷
    count_text d.objective_poll_evaluations ∷ [])

unfoldable pub covariance_text : TruingCovarianceV1 → Text
covariance_text c = bracketed (double_text c.mv_variance_fps2 ∷ double_text c.mv_bc_covariance_fps ∷ double_text c.bc_variance ∷ [])

unfoldable pub available_text : GaussianWith IntervalRows → Text
available_text g =
    bracketed
    (bytes "Available" ∷ covariance_text g.covariance ∷ rows_text g.muzzle_velocity ∷ rows_text g.ballistic_coefficient ∷
    double_text g.correlation ∷ double_text g.condition_number ∷ [])

unfoldable pub approximation_text : CoveredApproximation → Text
approximation_text (told g) = available_text g
approximation_text (withheld code) = bracketed (bytes "Unavailable" ∷ failure_name code ∷ [])

unfoldable pub band_text : CoveredBand → Text
band_text b = bracketed (double_text b.range ∷ double_text b.predicted_drop ∷ interval_text b.latent ∷ interval_text b.future ∷ [])

unfoldable pub bands_text : List CoveredBand → Text
bands_text bands = bracketed (map band_text bands)

-- a warning is a record of one code
unfoldable pub warning_text : TruingUncertaintyWarningCodeV1 → Text
warning_text code = bracketed (warning_name code ∷ [])

unfoldable pub warnings_text : List TruingUncertaintyWarningCodeV1 → Text
warnings_text codes = bracketed (map warning_text codes)

-- ---- the report

unfoldable pub report_text : CoveredReport → Text
report_text p =
    bracketed
    (bytes "report" ∷ count_text p.schema_version ∷ double_text p.point.mv ∷ double_text p.point.bc ∷ count_text p.iterations ∷ truth_text p.is_converged ∷
    priors_text p.priors ∷ results_text p.observations ∷ baseline_text p.baseline ∷ diagnostics_text p.diagnostics ∷
    approximation_text p.approximation ∷ bands_text p.bands ∷ warnings_text p.warnings ∷ [])

-- under a table, by its head, beside the texts of its lists and of its baseline
unfoldable pub parts_text : Table → UncertaintyTruingReportV1 → Text → Text → Text → Text
parts_text t h observations baseline bands =
    bracketed
    (bytes "report" ∷ count_text h.schema_version ∷ double_text h.map_muzzle_velocity_fps ∷ double_text h.map_ballistic_coefficient ∷ count_text h.iterations ∷
    truth_text h.converged ∷ priors_text h.priors ∷ observations ∷ baseline ∷ diagnostics_text (diagnostics_says h.diagnostics) ∷
    approximation_text (approximation_by (rows_under t) (approximation_says h.approximation)) ∷ bands ∷ warnings_text (codes_of h.warnings) ∷ [])

-- ---- the other answers

-- what a question's drops are for: the observations, the requested distances, or one distance that an edit brings
abbrev pub list_name : Distances → Text
list_name Shots = bytes "shots"
list_name Requested = bytes "distances"
list_name New = bytes "new"

unfoldable pub question_text : Distances → Float → Float → Text
question_text list mv bc = bracketed (bytes "question" ∷ list_name list ∷ double_text mv ∷ double_text bc ∷ [])

-- the number of the refusal, and a position
unfoldable pub declined_text : ℕ → ℕ → Text
declined_text n position = bracketed (bytes "declined" ∷ count_text n ∷ count_text position ∷ [])

unfoldable pub asked_text : ℕ → Text
asked_text n = bracketed (bytes "asked" ∷ count_text n ∷ [])

-- how many lines of a page follow
unfoldable pub page_count_text : ℕ → Text
page_count_text n = bracketed (bytes "page" ∷ count_text n ∷ [])

-- the number of the line
unfoldable pub malformed_text : ℕ → Text
malformed_text n = bracketed (bytes "malformed" ∷ count_text n ∷ [])
