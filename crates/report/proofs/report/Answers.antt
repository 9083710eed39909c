-- `report::report` meets its contract, by those of its calls, put together over plain values.
use Rattle.std.proofs.Common.{◌≡◌, ℕ, ◌-◌, Bool, Option, Result, refl, ◌∙◌}
use Rattle.definition.specs.Likelihood.{rows_of}
use Rattle.definition.specs.Lists.{zip_with}
use Rattle.definition.specs.Summary.{Finished, results_of, converged, approximation_of, band_of, report_of}
use Rattle.definition.specs.Meaning.{convergence_of, approximation_says}
use Rattle.definition.specs.declared.TruingPriorsV1.{TruingPriorsV1}
use Rattle.definition.specs.declared.TruingGaussianApproximationV1.{TruingGaussianApproximationV1}
use Rattle.definition.specs.declared.TruingApproximationFailureCodeV1.{TruingApproximationFailureCodeV1}
use Rattle.matrix.specs.declared.Symmetric2.{Symmetric2}
use Rattle.fitting.specs.declared.Progress.{Progress}
use Rattle.summary.specs.Summary.{diagnostics_says, diagnostics_by}
use Rattle.summary.proofs.Laws.{diagnostics_by_lem}
use Rattle.summary.specs.declared.TruingUncertaintyDiagnosticsV1.{TruingUncertaintyDiagnosticsV1}
use Rattle.warnings.specs.Warnings.{codes_of, warnings_by}
use Rattle.warnings.proofs.Laws.{warnings_by_lem}
use Rattle.warnings.specs.declared.Warnings.{Warnings}
use Rattle.report.specs.Report.{Results, seen_of, PartsOf, Shows}
use Rattle.report.specs.declared.TruingBaselineV1.{TruingBaselineV1}
use Rattle.report.specs.declared.UncertaintyTruingReportV1.{UncertaintyTruingReportV1}
use Rattle.report.proofs.Laws.{verified}
use Rattle.report.proofs.report.Goals as goal

module _
    (n wanted : ℕ) (g : Progress) (priors : TruingPriorsV1) (baseline : Option TruingBaselineV1) (outside : Bool)
    (k : ℕ) (v : Bool) (a : Result (TruingGaussianApproximationV1 × Symmetric2) TruingApproximationFailureCodeV1)
    (d : TruingUncertaintyDiagnosticsV1) (w : Warnings)
    (ek : k ≡ 100 - g.left)
    (ev : v ≡ converged (convergence_of g.convergence))
    (ea : approximation_says a ≡ approximation_of v g.point g.evaluation.posterior_information)
    (ed : diagnostics_says d ≡ diagnostics_by n (convergence_of g.convergence) g.evaluations g.evaluation (approximation_says a))
    (ew : codes_of w ≡ warnings_by (convergence_of g.convergence) g.evaluation priors (approximation_says a) d.effective_degrees_of_freedom outside) where
  -- the head, by what its calls gave
  abbrev head : UncertaintyTruingReportV1
  head = record {
    schema_version = 1;
    map_muzzle_velocity_fps = g.point.mv;
    map_ballistic_coefficient = g.point.bc;
    iterations = k;
    converged = v;
    priors = priors;
    observations = n;
    baseline = baseline;
    diagnostics = d;
    approximation = a;
    predictive_bands = wanted;
    warnings = w;
  }

  whole : (c : Finished) (entered : Results) → PartsOf c n wanted g priors baseline entered outside
      → report_of c ≡ seen_of head (results_of c.measured.observations c.predicted) entered
      (zip_with (band_of (approximation_says a)) c.requested (rows_of c.band_rows))
  unfolding report_of
  whole c entered h =
      simp (
        diagnostics_by_lem,
        warnings_by_lem,
        h.has_fit,
        h.has_evaluation,
        h.has_observations,
        h.has_priors,
        h.has_baseline,
        h.has_outside,
        ← ek,
        ← ev,
        ← ea,
        ← ed,
        ← ew,
      )

  shows : Shows head n wanted g priors baseline outside
  shows = record { whole = whole; results = refl; bands = refl }

pub returns : goal.returns
returns c =
    let a = c.args in
    shows a.n a.wanted a.g a.priors a.baseline a.outside
    c.iterations_done-iterations.result
    c.is_some-converged.result
    c.approximation-approximation.result
    c.diagnostics-diagnostics.result
    c.collect_warnings-found.result
    c.iterations_done-iterations.ensures
    (c.is_some-converged.ensures ∙ verified a.g.convergence)
    c.approximation-approximation.ensures
    c.diagnostics-diagnostics.ensures
    c.collect_warnings-found.ensures
