-- The report under a table beside the one without: the places of its lists, its head, and its warnings with the crossing judged again.
use Prim.Native.Nat.{ℕ}
use mathlib.Core.Path.{◌≡◌, refl, sym, ap, ◌∙◌}
use mathlib.Core.Bool.{Bool, true, false, cond, not, ◌||◌}
use mathlib.Core.List.{List, [], ◌∷◌}
use Rattle.std.specs.Prelude.{Option, None, Some, option_map, slice_get}
use Rattle.std.proofs.lemmas.Option.{slice_get-map}
use lib.Dec.{ltb, eqb}
use lib.ListN.{length, length-map}
use lib.Ieee.{lt}
use Rattle.numeric.specs.Numeric.{finite}
use Rattle.definition.specs.Constants.{least_sensitivity_ratio, largest_condition}
use Rattle.definition.specs.Lists.{any}
use Rattle.definition.specs.Request.{Requested, Measured}
use Rattle.definition.specs.Fit.{Fit}
use Rattle.definition.specs.Summary.{Approximation, Diagnostics, diagnostics_of, approximation_of, converged, warn, warnings_with, warnings_of}
use Rattle.definition.specs.Summary.{is_mesh, where_available, is_unavailable, dominated_of, at_most_one, is_outside, Report, Finished, report_of, crosses_of}
use Rattle.coverage.specs.Rows.{Table, rows_under}
use Rattle.coverage.specs.Report.{approximation_by, band_by, CoveredBand, CoveredReport, crosses_under, warnings_under, report_under}
use Rattle.definition.specs.Laws.{index_of}
use Rattle.definition.specs.Meaning.{approximation_says}
use Rattle.definition.specs.Session.{State, finished_in}
use Rattle.coverage.proofs.Report.{covered_bands}
use Rattle.definition.specs.declared.Evaluation.{Evaluation}
use Rattle.definition.specs.declared.TruingUncertaintyWarningCodeV1.TheVariants as Warning
use Rattle.definition.specs.declared.TruingUncertaintyWarningCodeV1.{TruingUncertaintyWarningCodeV1}
use Rattle.warnings.specs.Warnings.{codes, codes_of}
use Rattle.warnings.specs.declared.Warnings.{Warnings}
use Rattle.report.specs.Report.{seen_of}
use Rattle.report.specs.Reading.{HeadOf, HeadWith, Shows, place_in, of_baseline, baseline_results, report_in}
use Rattle.report.specs.declared.UncertaintyTruingReportV1.{UncertaintyTruingReportV1}
use Rattle.covered_report.specs.Reading.{covered_in, ShowsUnder}

-- ---- the places of the lists

-- of the finished run that stands, if one does
results_by : (t : Table) (i : ℕ) (c : Option Finished)
    → place_in (λ (p : Report). p.observations) i (option_map report_of c) ≡ place_in (λ p. p.observations) i (option_map (report_under t) c)
unfolding report_of report_under
results_by t i None = refl
results_by t i (Some c) = refl

baseline_results_by : (t : Table) (i : ℕ) (c : Option Finished)
    → place_in baseline_results i (option_map report_of c) ≡ place_in baseline_results i (option_map (report_under t) c)
unfolding report_of report_under
baseline_results_by t i None = refl
baseline_results_by t i (Some c) = refl

bands_by : (t : Table) (i : ℕ) (c : Option Finished) → option_map (band_by (rows_under t)) (place_in (λ (p : Report). p.bands) i (option_map report_of c))
    ≡ place_in (λ p. p.bands) i (option_map (report_under t) c)
bands_by t i None = refl
bands_by t i (Some c) =
    sym (slice_get-map (band_by (rows_under t)) (report_of c).bands i) ∙ ap (λ (bs : List CoveredBand). slice_get bs i) (sym (covered_bands t c))

pub results_under : (t : Table) (i : ℕ) (x : State) → place_in (λ (p : Report). p.observations) i (report_in x) ≡ place_in (λ p. p.observations) i (covered_in t x)
results_under t i x = results_by t i (finished_in x)

pub baseline_results_under : (t : Table) (i : ℕ) (x : State) → place_in baseline_results i (report_in x) ≡ place_in baseline_results i (covered_in t x)
baseline_results_under t i x = baseline_results_by t i (finished_in x)

pub bands_under : (t : Table) (i : ℕ) (x : State)
    → option_map (band_by (rows_under t)) (place_in (λ p. p.bands) i (report_in x)) ≡ place_in (λ p. p.bands) i (covered_in t x)
bands_under t i x = bands_by t i (finished_in x)

-- ---- the warnings

-- the code of the crossing comes, goes or stays, at its place in the source's order
unfoldable judged_again : Bool → List TruingUncertaintyWarningCodeV1 → List TruingUncertaintyWarningCodeV1
judged_again crosses [] = warn crosses Warning.IntervalCrossesFitBounds []
judged_again crosses (code ∷ left) =
    cond (ltb (index_of code) 7) (code ∷ judged_again crosses left)
    (warn crosses Warning.IntervalCrossesFitBounds (cond (eqb (index_of code) 7) left (code ∷ left)))

before : (y b : Bool) (code : TruingUncertaintyWarningCodeV1) (left : List TruingUncertaintyWarningCodeV1) → ltb (index_of code) 7 ≡ true
    → judged_again y (warn b code left) ≡ warn b code (judged_again y left)
unfolding judged_again
before y true code left e =
    ap (λ (z : Bool). cond z (code ∷ judged_again y left) (warn y Warning.IntervalCrossesFitBounds (cond (eqb (index_of code) 7) left (code ∷ left)))) e
before y false code left e = refl

here : (y x i j : Bool)
    → judged_again y (warn x Warning.IntervalCrossesFitBounds (warn i Warning.LowEffectiveDegreesOfFreedom (warn j Warning.PredictionOutsideObservedDomain [])))
    ≡ warn y Warning.IntervalCrossesFitBounds (warn i Warning.LowEffectiveDegreesOfFreedom (warn j Warning.PredictionOutsideObservedDomain []))
unfolding judged_again
here y true i j = refl
here y false true j = refl
here y false false true = refl
here y false false false = refl

judged : (y x a b c d e f g i j : Bool) → judged_again y (codes a b c d e f g x i j) ≡ codes a b c d e f g y i j
unfolding codes
judged y x a b c d e f g i j =
    rw (
      before y a Warning.OptimizerDidNotConverge _ refl,
      before y b Warning.ObjectiveMeshConvergence _ refl,
      before y c Warning.WeakBcSensitivity _ refl,
      before y d Warning.IllConditionedData _ refl,
      before y e Warning.MvPriorDominated _ refl,
      before y f Warning.BcPriorDominated _ refl,
      before y g Warning.GaussianApproximationUnavailable _ refl,
      here y x i j,
    )

judged_with : (y x : Bool) (m : Measured) (f : Fit) (e : Evaluation) (a : Approximation) (d : Diagnostics) (ds : List Requested)
    → judged_again y (warnings_with x m f e a d ds) ≡ warnings_with y m f e a d ds
unfolding codes
judged_with y x m f e a d ds =
    judged y x (not (converged f.convergence)) (is_mesh f.convergence) (lt e.bc_sensitivity_ratio least_sensitivity_ratio)
    (not (finite e.data_condition_number) || lt largest_condition e.data_condition_number)
    (where_available (λ g. dominated_of m.priors.muzzle_velocity_fps g.covariance.mv_variance_fps2) a)
    (where_available (λ g. dominated_of m.priors.ballistic_coefficient g.covariance.bc_variance) a) (is_unavailable a)
    (at_most_one d.effective_degrees_of_freedom) (any (is_outside m.observations) ds)

-- the ten with another truth of the crossing
abbrev pub crossing : Warnings → Bool → Warnings
crossing w b = record {
  optimizer_did_not_converge = w.optimizer_did_not_converge;
  objective_mesh_convergence = w.objective_mesh_convergence;
  weak_bc_sensitivity = w.weak_bc_sensitivity;
  ill_conditioned_data = w.ill_conditioned_data;
  mv_prior_dominated = w.mv_prior_dominated;
  bc_prior_dominated = w.bc_prior_dominated;
  gaussian_approximation_unavailable = w.gaussian_approximation_unavailable;
  interval_crosses_fit_bounds = b;
  low_effective_degrees_of_freedom = w.low_effective_degrees_of_freedom;
  prediction_outside_observed_domain = w.prediction_outside_observed_domain;
}

-- ---- the head

abbrev pub with_crossing : UncertaintyTruingReportV1 → Bool → UncertaintyTruingReportV1
with_crossing h b = record {
  schema_version = h.schema_version;
  map_muzzle_velocity_fps = h.map_muzzle_velocity_fps;
  map_ballistic_coefficient = h.map_ballistic_coefficient;
  iterations = h.iterations;
  converged = h.converged;
  priors = h.priors;
  observations = h.observations;
  baseline = h.baseline;
  diagnostics = h.diagnostics;
  approximation = h.approximation;
  predictive_bands = h.predictive_bands;
  warnings = crossing h.warnings b;
}

-- a report by another's fields, its intervals told by their rows, with these bands and warnings
abbrev told : Table → Report → List CoveredBand → List TruingUncertaintyWarningCodeV1 → CoveredReport
told t p bands warnings = record {
  schema_version = p.schema_version;
  point = p.point;
  iterations = p.iterations;
  is_converged = p.is_converged;
  priors = p.priors;
  observations = p.observations;
  baseline = p.baseline;
  diagnostics = p.diagnostics;
  approximation = approximation_by (rows_under t) p.approximation;
  bands = bands;
  warnings = warnings;
}

-- all but the bands and the warnings is told of the report without a table
told_is : (t : Table) (c : Finished) → report_under t c ≡ told t (report_of c) (report_under t c).bands (report_under t c).warnings
unfolding report_of report_under
told_is t c = refl

warnings_are : (t : Table) (c : Finished) → (report_under t c).warnings ≡ judged_again (crosses_under t (report_of c).approximation) (report_of c).warnings
unfolding report_of report_under warnings_under warnings_of
warnings_are t c =
    let a = approximation_of (converged c.fit.convergence) c.fit.point c.evaluation.posterior_information in
    sym (judged_with (crosses_under t a) (crosses_of a) c.measured c.fit c.evaluation a
    (diagnostics_of (length c.measured.observations) c.fit c.evaluation a) c.requested)

same_results : (t : Table) (c : Finished) → (report_of c).observations ≡ (report_under t c).observations
unfolding report_of report_under
same_results t c = refl

same_baseline : (t : Table) (c : Finished) → (report_of c).baseline ≡ (report_under t c).baseline
unfolding report_of report_under
same_baseline t c = refl

module _ (t : Table) (h : UncertaintyTruingReportV1) (c : Finished) (b : Bool) (e : b ≡ crosses_under t (approximation_says h.approximation))
    (d : HeadOf h (report_of c)) where
  codes_are : (report_under t c).warnings ≡ codes_of (crossing h.warnings b)
  codes_are =
      warnings_are t c
      ∙ ap (λ (p : Report). judged_again (crosses_under t p.approximation) p.warnings) d.seen
      ∙ ap (λ (y : Bool). judged_again y (codes_of h.warnings)) (sym e)
      ∙ judged b h.warnings.interval_crosses_fit_bounds _ _ _ _ _ _ _ _ _

  pub head_under : HeadWith (approximation_by (rows_under t)) (with_crossing h b) (report_under t c)
  unfolding report_of report_under
  head_under = record {
    seen =
        told_is t c
        ∙ ap (λ (p : Report). told t p (report_under t c).bands (report_under t c).warnings) d.seen
        ∙ ap (λ (ws : List TruingUncertaintyWarningCodeV1).
        told t (seen_of h (report_of c).observations (of_baseline (report_of c).baseline) (report_of c).bands) (report_under t c).bands ws) codes_are;
    results = d.results;
    baseline_results = d.baseline_results;
    bands = d.bands ∙ sym (length-map (report_of c).bands (band_by (rows_under t))) ∙ ap length (sym (covered_bands t c));
  }

-- ---- whether one stands

pub absent_under : (t : Table) (x : State) → Shows None (report_in x) → ShowsUnder t None (covered_in t x)
absent_under t x = by (finished_in x)
  where
    by : (c : Option Finished) → Shows None (option_map report_of c) → ShowsUnder t None (option_map (report_under t) c)
    by None d = d
    by (Some c) d = d

pub given_under : (t : Table) (x : State) (h g : UncertaintyTruingReportV1)
    → ((c : Finished) → HeadOf h (report_of c) → HeadWith (approximation_by (rows_under t)) g (report_under t c)) → Shows (Some h) (report_in x)
    → ShowsUnder t (Some g) (covered_in t x)
given_under t x h g w = by (finished_in x)
  where
    by : (c : Option Finished) → Shows (Some h) (option_map report_of c) → ShowsUnder t (Some g) (option_map (report_under t) c)
    by None d = d
    by (Some c) d = w c d
