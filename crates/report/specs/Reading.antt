-- What a host reads of a report: its head, and the places of its lists.
use Rattle.std.specs.Prelude.{ℕ, ◌≤◌, ◌≡◌, List, [], length, Option, None, Some, slice_get, option_map}
use Rattle.definition.specs.Summary.{Approximation, ReportWith, Report, report_of}
use Rattle.definition.specs.Summary as summary
use Rattle.definition.specs.Session.{State, finished_in}
use Rattle.bands.specs.declared.TruingPredictiveBandV1.{TruingPredictiveBandV1}
use Rattle.bands.specs.Bands.{band_says}
use Rattle.definition.specs.declared.WeightedTruingObservationResultV1.{WeightedTruingObservationResultV1}
use Rattle.report.specs.Report.{Results, seen_with}
use Rattle.report.specs.declared.UncertaintyTruingReportV1.{UncertaintyTruingReportV1}

-- the observation results of a report's baseline
abbrev pub of_baseline : Option summary.Baseline → Results
of_baseline None = []
of_baseline (Some b) = b.observations

-- the head is that of this report, its approximation told so: with the three lists it is the report, and its counts are those of the lists, the first also
-- that of the baseline's list
pub record HeadWith {A I : Type 0} (approximation : Approximation → A) (h : UncertaintyTruingReportV1) (p : ReportWith A I) : Type 0 where
  pub seen : p ≡ seen_with approximation h p.observations (of_baseline p.baseline) p.bands
  pub results : h.observations ≡ length p.observations
  pub baseline_results : length (of_baseline p.baseline) ≤ h.observations
  pub bands : h.predictive_bands ≡ length p.bands

abbrev pub HeadOf : UncertaintyTruingReportV1 → Report → Type 0
HeadOf h p = HeadWith (λ a. a) h p

abbrev pub ShowsWith : {A I : Type 0} → (Approximation → A) → Option UncertaintyTruingReportV1 → Option (ReportWith A I) → Type 0
ShowsWith approximation None None = Unit {0}
ShowsWith approximation None (Some p) = ⊥
ShowsWith approximation (Some h) None = ⊥
ShowsWith approximation (Some h) (Some p) = HeadWith approximation h p

abbrev pub Shows : Option UncertaintyTruingReportV1 → Option Report → Type 0
Shows r p = ShowsWith (λ a. a) r p

-- a place of one of its lists, counted from 0; where no report stands there is none
abbrev pub place_in : {P A : Type 0} → (P → List A) → ℕ → Option P → Option A
place_in f i None = None
place_in f i (Some p) = slice_get (f p) i

abbrev pub baseline_results : {A I : Type 0} → ReportWith A I → Results
baseline_results p = of_baseline p.baseline

-- ---- the calls that read, by where a session stands

-- the report that stands
abbrev pub report_in : State → Option Report
report_in x = option_map report_of (finished_in x)

pub record ReportRead (x : State) (r : Option UncertaintyTruingReportV1) : Type 0 where
  pub is : Shows r (report_in x)

pub record ResultRead (x : State) (i : ℕ) (r : Option WeightedTruingObservationResultV1) : Type 0 where
  pub is : r ≡ place_in (λ p. p.observations) i (report_in x)

pub record BaselineResultRead (x : State) (i : ℕ) (r : Option WeightedTruingObservationResultV1) : Type 0 where
  pub is : r ≡ place_in baseline_results i (report_in x)

pub record BandRead (x : State) (i : ℕ) (r : Option TruingPredictiveBandV1) : Type 0 where
  pub is : option_map band_says r ≡ place_in (λ p. p.bands) i (report_in x)
