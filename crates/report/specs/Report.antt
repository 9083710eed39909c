-- What a report of the code says: its head and its three lists, put together.
use Rattle.std.specs.Prelude.{ℕ, ◌≡◌, Bool, List, length, Option, None, Some}
use Rattle.definition.specs.Lists.{any, zip_with}
use Rattle.definition.specs.Likelihood.{rows_of}
use Rattle.definition.specs.Summary as summary
use Rattle.definition.specs.Summary.{Approximation, BandWith, Band, Finished, ReportWith, Report, results_of, is_outside, band_of, report_of}
use Rattle.definition.specs.Meaning.{approximation_says}
use Rattle.definition.specs.declared.TruingPriorsV1.{TruingPriorsV1}
use Rattle.definition.specs.declared.WeightedTruingObservationResultV1.{WeightedTruingObservationResultV1}
use Rattle.fitting.specs.Meaning.{fit_of}
use Rattle.fitting.specs.declared.Progress.{Progress}
use Rattle.summary.specs.Summary.{diagnostics_says}
use Rattle.warnings.specs.Warnings.{codes_of}
use Rattle.report.specs.declared.TruingBaselineV1.{TruingBaselineV1}
use Rattle.report.specs.declared.UncertaintyTruingReportV1.{UncertaintyTruingReportV1}

abbrev pub Results : Type 0
Results = List WeightedTruingObservationResultV1

-- a baseline with its observation results, which are not read where there is none
abbrev pub baseline_says : Option TruingBaselineV1 → Results → Option summary.Baseline
baseline_says None results = None
baseline_says (Some b) results =
    Some (record { entered = record { mv = b.muzzle_velocity_fps; bc = b.ballistic_coefficient }; chi_square = b.chi_square; observations = results })

-- a report from its head, the observation results, those of the baseline, and the bands, by how its approximation is told
abbrev pub seen_with : {A I : Type 0} → (Approximation → A) → UncertaintyTruingReportV1 → Results → Results → List (BandWith I) → ReportWith A I
seen_with approximation r results entered bands = record {
  schema_version = r.schema_version;
  point = record { mv = r.map_muzzle_velocity_fps; bc = r.map_ballistic_coefficient };
  iterations = r.iterations;
  is_converged = r.converged;
  priors = r.priors;
  observations = results;
  baseline = baseline_says r.baseline entered;
  diagnostics = diagnostics_says r.diagnostics;
  approximation = approximation (approximation_says r.approximation);
  bands = bands;
  warnings = codes_of r.warnings;
}

abbrev pub seen_of : UncertaintyTruingReportV1 → Results → Results → List Band → Report
seen_of r results entered bands = seen_with (λ a. a) r results entered bands

-- what a head is made of are the parts of this finished run, the baseline with these results
pub record PartsOf (c : Finished) (n wanted : ℕ) (g : Progress) (priors : TruingPriorsV1) (baseline : Option TruingBaselineV1) (entered : Results)
    (outside : Bool) : Type 0 where
  pub has_observations : length c.measured.observations ≡ n
  pub has_requested : length c.requested ≡ wanted
  pub has_fit : c.fit ≡ fit_of g
  pub has_evaluation : c.evaluation ≡ g.evaluation
  pub has_priors : c.measured.priors ≡ priors
  pub has_baseline : c.baseline ≡ baseline_says baseline entered
  pub has_outside : any (is_outside c.measured.observations) c.requested ≡ outside

-- the head, with the three lists, is the report of every finished run that has these parts; the two counts are those of the lists
pub record Shows (r : UncertaintyTruingReportV1) (n wanted : ℕ) (g : Progress) (priors : TruingPriorsV1) (baseline : Option TruingBaselineV1) (outside : Bool) : Type 0 where
  pub whole : (c : Finished) (entered : Results) → PartsOf c n wanted g priors baseline entered outside
      → report_of c ≡ seen_of r (results_of c.measured.observations c.predicted) entered
      (zip_with (band_of (approximation_says r.approximation)) c.requested (rows_of c.band_rows))
  pub results : r.observations ≡ n
  pub bands : r.predictive_bands ≡ wanted
