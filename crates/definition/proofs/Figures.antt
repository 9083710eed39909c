-- The tables of specs/Figures.antt and specs/RunFigures.antt, by computation. Assumes nothing.
use Prim.Native.Nat.{ℕ}
use Rattle.definition.specs.Figures.{Figures}
use Rattle.definition.specs.RunFigures.{RunFigures, OpeningFigures, EditFigures, ReportFigure, PollFigures, LimitFigures, CutFigure}
use lib.Ieee.{round, neg, add, sub, mul, div, lt, eq, le, of_int, is_nan, of_bits, to_bits}
use Rattle.root.specs.Root.{root_of}
use Rattle.numeric.specs.Numeric.{within_of, finite, abs_of, max_of, clamp_of, scaled_of, hypot_of}
use Rattle.numeric.specs.Poll.{direction_of}
use Rattle.matrix.specs.Matrix.{determinant_of, sum_of, entries_finite, largest_of, inverse_entries, inverse_of, column_condition_of}
use Rattle.interval.specs.Interval.{classification_of, interval_where, interval_of}
use Rattle.criteria.specs.Criteria.{material_of, tolerance_of, at_bound_of}
use Rattle.definition.specs.Fit.{damped_of, unfit_of, stepped_of, step_of, lowered_of, gradient_norm_of, flat_of, trials, meshed, verified, verify, evaluated}
use Rattle.definition.specs.Fit.{iterate, fit_map}
use Rattle.definition.specs.Likelihood.{chi_square_of, with_prior_of, with_priors_of, valued, objective, mv_step_of, bc_step_of, mv_plus_at, mv_minus_at, bc_plus_at}
use Rattle.definition.specs.Likelihood.{bc_minus_at, bc_minus, bc_plus, mv_minus, mv_plus, truing_jacobian_rows, complete, accumulate_of, sums_of}
use Rattle.definition.specs.Likelihood.{prior_information_of, with_prior_gradient_of, sensitivity_ratio_of, from_sums, evaluate}
use Rattle.definition.specs.Mesh.{bounded_of, candidate_of, unmoved_of, quartered_of, look, ungained, begin, judged, poll_step, seen, stopped, poll}
use Rattle.definition.specs.Summary.{result_of, baseline_of, covariance_of, correlation_of, build_approximation_of, approximation_of, effective_count_of}
use Rattle.definition.specs.Summary.{diagnostics_of, band_variance_of, latent_of, future_of, band_of, observed_min, observed_max, dominated_of}
use Rattle.definition.specs.Summary.{crosses_bounds_of, warnings_of, report_of}
use Rattle.definition.specs.Whole.{positive_of, sound_observation_of, sound_prior_of, sound_requested_of, checked_point, checked_count}
use Rattle.definition.specs.Whole.{checked_measured, checked_requested, band_rows, baseline, concluded, banded, fitted, run, whole, edit_questions, edit}

-- To unfold one of these is to unfold what its line names: every definition that a run is computed by.

-- the operations on doubles
doubles : ℕ
unfolding round neg add sub mul div lt eq le of_int is_nan of_bits to_bits
doubles = 0

-- the leaf crates
leaves : ℕ
unfolding root_of finite abs_of max_of clamp_of scaled_of hypot_of direction_of determinant_of sum_of entries_finite largest_of inverse_entries inverse_of
    column_condition_of classification_of interval_where interval_of material_of tolerance_of at_bound_of
leaves = 0

-- the fit
fits : ℕ
unfolding chi_square_of with_prior_of with_priors_of valued objective mv_step_of bc_step_of mv_plus_at mv_minus_at bc_plus_at bc_minus_at bc_minus bc_plus mv_minus mv_plus
    truing_jacobian_rows complete accumulate_of sums_of prior_information_of with_prior_gradient_of sensitivity_ratio_of from_sums evaluate bounded_of candidate_of
    unmoved_of quartered_of look ungained begin judged poll_step seen stopped poll damped_of unfit_of stepped_of step_of lowered_of gradient_norm_of flat_of trials meshed
    verified verify evaluated iterate fit_map
fits = 0

-- the report and the whole run
reports : ℕ
unfolding result_of baseline_of covariance_of correlation_of build_approximation_of approximation_of effective_count_of diagnostics_of band_variance_of latent_of
    future_of band_of observed_min observed_max dominated_of crosses_bounds_of warnings_of report_of within_of positive_of sound_observation_of sound_prior_of
    sound_requested_of checked_point checked_count checked_measured checked_requested band_rows baseline concluded banded fitted run whole edit_questions edit
reports = 0

-- all of them
computing : ℕ
unfolding doubles leaves fits reports
computing = 0

pub figures : Figures
unfolding computing
figures = record {
  inverse_4 = tt;
  inverse_singular = tt;
  inverse_39 = tt;
  inverse_40 = tt;
  material_26 = tt;
  material_27 = tt;
  material_level = tt;
  column_3 = tt;
  column_infinite = tt;
  sum_5 = tt;
  sum_9 = tt;
  sum_in_order = tt;
  deviation_2 = tt;
  deviation_minus_0 = tt;
  deviation_none = tt;
  root_least = tt;
  bound_near = tt;
  bound_apart = tt;
  outside_not_nearest = tt;
  outside_not_farthest = tt;
  outside_nearer = tt;
  outside_farther = tt;
}

pub run_figures : RunFigures
unfolding computing
run_figures = record {
  bench_2000 = tt;
  bench_1000 = tt;
  slope_not_a_number = tt;
  freedom_1 = tt;
  freedom_0 = tt;
  distance_nearest = tt;
  distance_nearer = tt;
  fit_not_a_number = tt;
  two_steps = tt;
  once_rejected_lem = tt;
  refused_before_gap = tt;
  least_gap = tt;
  gap_before_sum = tt;
  sum_not_finite = tt;
  baseline_there = tt;
  baseline_refused = tt;
  baseline_gap = tt;
  baseline_not_finite = tt;
}

pub poll_figures : PollFigures
unfolding computing
poll_figures = record {
  gain_level = tt;
  first_of_equal = tt;
  unmoved_skipped = tt;
  unfit_counts = tt;
}

pub cut_figure : CutFigure
unfolding computing
cut_figure = record {
  cut = tt;
}

pub opening_figures : OpeningFigures
unfolding computing
opening_figures = record {
  refusal_1_1 = tt;
  refusal_1_2 = tt;
  refusal_2 = tt;
  refusal_3 = tt;
  refusal_4 = tt;
  refusal_5_1 = tt;
  refusal_5_2 = tt;
  refusal_6 = tt;
  refusal_7 = tt;
}

pub edit_figures : EditFigures
unfolding computing
edit_figures = record {
  put_in_lem = tt;
  taken_out = tt;
  exchanged = tt;
  faulty = tt;
  missing_there = tt;
}

pub limit_figures : LimitFigures
unfolding computing
limit_figures = record {
  limit_not_met = tt;
  limit_60 = tt;
  limit_57 = tt;
  limit_54 = tt;
  limit_50 = tt;
  limit_2 = tt;
  limit_3 = tt;
}

pub report_figure : ReportFigure
unfolding computing
report_figure = record { every_number = tt; its_warnings = tt }
