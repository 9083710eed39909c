-- What the answers of this crate say in the definition's terms; and the definition's diagnostics by what the code reads.
-- proofs/Laws.antt shows that these are the definition's.
use Rattle.std.specs.Prelude.{ℕ}
use Rattle.numeric.specs.Numeric.{zero64}
use Rattle.definition.specs.Mesh.{Convergence}
use Rattle.definition.specs.Summary.{Approximation, Diagnostics, diagnostics_of}
use Rattle.definition.specs.declared.Evaluation.{Evaluation}
use Rattle.summary.specs.declared.TruingUncertaintyDiagnosticsV1.{TruingUncertaintyDiagnosticsV1}

abbrev pub diagnostics_says : TruingUncertaintyDiagnosticsV1 → Diagnostics
diagnostics_says d = record {
  chi_square = d.chi_square;
  prior_penalty = d.prior_penalty;
  penalized_chi_square = d.penalized_chi_square;
  effective_parameter_count = d.effective_parameter_count;
  effective_degrees_of_freedom = d.effective_degrees_of_freedom;
  reduced = d.reduced_chi_square;
  bc_sensitivity_ratio = d.bc_sensitivity_ratio;
  data_condition_number = d.data_condition_number;
  gradient_norm = d.map_scaled_gradient_inf_norm;
  convergence_criterion = d.map_convergence_criterion;
  objective_poll_radius = d.map_objective_poll_radius;
  objective_poll_improvement = d.map_max_objective_poll_improvement;
  objective_poll_evaluations = d.map_objective_poll_evaluations;
}

-- the diagnostics of n observations: of the fit they read how it was verified and its count of poll evaluations, and nothing else
unfoldable pub diagnostics_by : ℕ → Convergence → ℕ → Evaluation → Approximation → Diagnostics
diagnostics_by n convergence evaluations e a =
    diagnostics_of n (record { point = record { mv = zero64; bc = zero64 }; iterations = 0; convergence = convergence; evaluations = evaluations }) e a
