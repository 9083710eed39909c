-- Numbers and pages worked out by exact fractions, apart from the definition: it computes them. Assumes nothing.
use Rattle.std.specs.Prelude.{None, Some}
use Prim.Native.Nat.{ℕ}
use Prim.Native.String.{String}
use mathlib.Core.Path.{◌≡◌, refl}
use mathlib.Core.Bool.{true, false}
use mathlib.Core.List.{List, [], ◌∷◌, ◌++◌, map}
use lib.Ieee.{Float, binary64, of_bits, add, sub, mul}
use Rattle.interval.specs.Interval.{at_level}
use Rattle.interval.specs.declared.GaussianIntervalV1.{GaussianIntervalV1}
use Rattle.definition.specs.Summary.{Approximation, available, Band}
use Rattle.definition.specs.declared.TruingApproximationFailureCodeV1.TheVariants as Failure
use Rattle.definition.specs.declared.TruingMapConvergenceCriterionV1.TheVariants as Criterion
use Rattle.definition.specs.declared.TruingUncertaintyWarningCodeV1.TheVariants as Warning
use Rattle.definition.specs.declared.WeightedTruingObservationResultV1.{WeightedTruingObservationResultV1}
use Rattle.coverage.specs.Rows.{Table, rows_under}
use Rattle.coverage.specs.Report.{withheld, approximation_by, band_by, CoveredReport}
use Rattle.report.specs.Report.{Results}
use Rattle.numerals.specs.Numbers.{glyph_of, count_text}
use Rattle.words.specs.Words.{bytes}
use Rattle.report_text.specs.Writing.{Text}
use Rattle.thousandths.specs.Thousandths.{shown_of, shown_at}
use Rattle.page_text.specs.Columns.{shown_text, number_text, cell_text, row_text}
use Rattle.page_text.specs.Page.{speed_line, coefficient_line, chi_square_line, shot_line, band_line, phrase_text, warning_line, page_lines}

abbrev bits : ℕ → Float
bits b = of_bits binary64 b

abbrev result : ℕ → ℕ → ℕ → ℕ → ℕ → ℕ → WeightedTruingObservationResultV1
result range observed sigma predicted residual standardized = record {
  range_yd = bits range;
  observed_drop = bits observed;
  sigma = bits sigma;
  predicted_drop = bits predicted;
  residual = bits residual;
  standardized_residual = bits standardized;
}

abbrev line : String → Text
line s = bytes s ++ (10 ∷ [])

-- ---- numbers: ties, carries, widths, signs, what is not finite

patterns : List ℕ
patterns =
    0x0000000000000000
    ∷ 0x8000000000000000
    ∷ 0x3f3a36e2eb1c432d
    ∷ 0xbf3a36e2eb1c432d
    ∷ 0x3f40624dd2f1a9fb
    ∷ 0x3f40624dd2f1a9fc
    ∷ 0xbf40624dd2f1a9fc
    ∷ 0x3fb0000000000000
    ∷ 0x3fc8000000000000
    ∷ 0xbfb0000000000000
    ∷ 0x3fd4000000000000
    ∷ 0x3fdc000000000000
    ∷ 0x3ff1000000000000
    ∷ 0x3ff0020c49ba5e35
    ∷ 0x4000010624dd2f1b
    ∷ 0x3feffbe76c8b4396
    ∷ 0x3feffbe76c89e3be
    ∷ 0x408f3ffef9db22d1
    ∷ 0x419d6f3454400000
    ∷ 0x41cdcd64ffffffff
    ∷ 0x41cdcd6500000000
    ∷ 0x4202a05f1ffffef9
    ∷ 0x4202a05f1ffffefa
    ∷ 0x4202a05f20000000
    ∷ 0xc1cdcd64ffffef9d
    ∷ 0xc1cdcd64ffffef9e
    ∷ 0xc1cdcd6500000000
    ∷ 0x432fffffffffffff
    ∷ 0x4330000000000000
    ∷ 0x7e37e43c8800759c
    ∷ 0x7fefffffffffffff
    ∷ 0x0000000000000001
    ∷ 0x8000000000000001
    ∷ 0x000fffffffffffff
    ∷ 0x0010000000000000
    ∷ 0x7ff0000000000000
    ∷ 0xfff0000000000000
    ∷ 0x7ff8000000000000
    ∷ 0x3fd5555555555555
    ∷ 0xc09f400000000000
    ∷ []

texts : List Text
texts =
    bytes "         0.000"
    ∷ bytes "         0.000"
    ∷ bytes "         0.000"
    ∷ bytes "         0.000"
    ∷ bytes "         0.000"
    ∷ bytes "         0.001"
    ∷ bytes "        -0.001"
    ∷ bytes "         0.062"
    ∷ bytes "         0.188"
    ∷ bytes "        -0.062"
    ∷ bytes "         0.312"
    ∷ bytes "         0.438"
    ∷ bytes "         1.062"
    ∷ bytes "         1.000"
    ∷ bytes "         2.001"
    ∷ bytes "         1.000"
    ∷ bytes "         0.999"
    ∷ bytes "      1000.000"
    ∷ bytes " 123456789.062"
    ∷ bytes "1000000000.000"
    ∷ bytes "1000000000.000"
    ∷ bytes "9999999999.999"
    ∷ bytes "##############"
    ∷ bytes "##############"
    ∷ bytes "-999999999.999"
    ∷ bytes "##############"
    ∷ bytes "##############"
    ∷ bytes "##############"
    ∷ bytes "##############"
    ∷ bytes "##############"
    ∷ bytes "##############"
    ∷ bytes "         0.000"
    ∷ bytes "         0.000"
    ∷ bytes "         0.000"
    ∷ bytes "         0.000"
    ∷ bytes "             -"
    ∷ bytes "             -"
    ∷ bytes "             -"
    ∷ bytes "         0.333"
    ∷ bytes "     -2000.000"
    ∷ []

numbers : map (λ b. number_text (bits b)) patterns ≡ texts
unfolding patterns texts shown_text number_text shown_of shown_at count_text glyph_of of_bits
numbers = refl

-- ---- the page of the bench of S24, with three requested distances

bench_results : Results
bench_results =
    result 0x4059000000000000 0x4024000000000000 0x3ff0000000000000 0x4024000000000000 0x0000000000000000 0x0000000000000000
    ∷ result 0x4069000000000000 0x4026000000000000 0x3ff0000000000000 0x4024000000000000 0xbff0000000000000 0xbff0000000000000
    ∷ []

bench : CoveredReport
bench = record {
  schema_version = 1;
  point = record { mv = bits 0x409f400000000000; bc = bits 0x3fd3333333333333 };
  iterations = 1;
  is_converged = true;
  priors = record { muzzle_velocity_fps = None; ballistic_coefficient = None };
  observations = bench_results;
  baseline =
      Some (record {
        entered = record { mv = bits 0x409f400000000000; bc = bits 0x3fd3333333333333 };
        chi_square = bits 0x3ff0000000000000;
        observations = bench_results;
      });
  diagnostics = record {
    chi_square = bits 0x3ff0000000000000;
    prior_penalty = bits 0x0000000000000000;
    penalized_chi_square = bits 0x3ff0000000000000;
    effective_parameter_count = None;
    effective_degrees_of_freedom = None;
    reduced = None;
    bc_sensitivity_ratio = bits 0x0000000000000000;
    data_condition_number = bits 0x7ff0000000000000;
    gradient_norm = bits 0x0000000000000000;
    convergence_criterion = Some Criterion.ScaledGradient;
    objective_poll_radius = None;
    objective_poll_improvement = None;
    objective_poll_evaluations = 0;
  };
  approximation = withheld Failure.RankDeficientInformation;
  bands =
      record { range = bits 0x4062c00000000000; predicted_drop = bits 0x4024000000000000; latent = None; future = None }
      ∷ record { range = bits 0x4064000000000000; predicted_drop = bits 0x4024000000000000; latent = None; future = None }
      ∷ record { range = bits 0x4065400000000000; predicted_drop = bits 0x7ff8000000000000; latent = None; future = None }
      ∷ [];
  warnings = Warning.WeakBcSensitivity ∷ Warning.IllConditionedData ∷ Warning.GaussianApproximationUnavailable ∷ [];
}

bench_page : List Text
bench_page =
    line "speed                     2000.000             -             -  "
    ∷ line "coefficient                  0.300             -             -  "
    ∷ line "chi-square                   1.000                              "
    ∷ line "shot                       100.000        10.000        10.000  "
    ∷ line "shot                       200.000        11.000        10.000  "
    ∷ line "distance                    10.000             -             -  "
    ∷ line "distance                    10.000             -             -  "
    ∷ line "distance                         -             -             -  "
    ∷ line "WeakBcSensitivity                                               "
    ∷ line "IllConditionedData                                              "
    ∷ line "GaussianApproximationUna                                        "
    ∷ []

bench_shown : page_lines bench ≡ bench_page
unfolding bench bench_results bench_page page_lines speed_line coefficient_line chi_square_line shot_line band_line warning_line phrase_text row_text cell_text shown_text
    number_text shown_of shown_at count_text glyph_of of_bits
bench_shown = refl

-- ---- a page of odd numbers

odd_results : Results
odd_results =
    result 0x4202a05f1ffffef9 0x4202a05f1ffffefa 0x3ff0000000000000 0xc1cdcd64ffffef9d 0x0000000000000000 0x0000000000000000
    ∷ result 0xc1cdcd64ffffef9e 0xbf3a36e2eb1c432d 0x3ff0000000000000 0x8000000000000001 0x0000000000000000 0x0000000000000000
    ∷ result 0x7e37e43c8800759c 0x3fb0000000000000 0x3ff0000000000000 0x7ff0000000000000 0x0000000000000000 0x0000000000000000
    ∷ []

odd : CoveredReport
odd = record {
  schema_version = 1;
  point = record { mv = bits 0x7ff8000000000000; bc = bits 0x3fb0000000000000 };
  iterations = 1;
  is_converged = false;
  priors = record { muzzle_velocity_fps = None; ballistic_coefficient = None };
  observations = odd_results;
  baseline = None;
  diagnostics = record {
    chi_square = bits 0x7ff0000000000000;
    prior_penalty = bits 0x0000000000000000;
    penalized_chi_square = bits 0x7ff0000000000000;
    effective_parameter_count = None;
    effective_degrees_of_freedom = None;
    reduced = None;
    bc_sensitivity_ratio = bits 0x0000000000000000;
    data_condition_number = bits 0x7ff0000000000000;
    gradient_norm = bits 0x7ff8000000000000;
    convergence_criterion = None;
    objective_poll_radius = None;
    objective_poll_improvement = None;
    objective_poll_evaluations = 1024;
  };
  approximation = withheld Failure.OptimizerDidNotConverge;
  bands = [];
  warnings = Warning.OptimizerDidNotConverge ∷ Warning.WeakBcSensitivity ∷ Warning.IllConditionedData ∷ Warning.GaussianApproximationUnavailable ∷ [];
}

odd_page : List Text
odd_page =
    line "speed                            -             -             -  "
    ∷ line "coefficient                  0.062             -             -  "
    ∷ line "chi-square                       -                              "
    ∷ line "shot                9999999999.999##############-999999999.999  "
    ∷ line "shot                ##############         0.000         0.000  "
    ∷ line "shot                ##############         0.062             -  "
    ∷ line "OptimizerDidNotConverge                                         "
    ∷ line "WeakBcSensitivity                                               "
    ∷ line "IllConditionedData                                              "
    ∷ line "GaussianApproximationUna                                        "
    ∷ []

odd_shown : page_lines odd ≡ odd_page
unfolding odd odd_results odd_page page_lines speed_line coefficient_line chi_square_line shot_line band_line warning_line phrase_text row_text cell_text shown_text
    number_text shown_of shown_at count_text glyph_of of_bits
odd_shown = refl

-- ---- under two rows: the ends are those of the second

two_rows : Table
two_rows =
    record { level = bits 0x3feccccccccccccd; factor = bits 0x3ffa515209676abf }
    ∷ record { level = bits 0x3fefae147ae147ae; factor = bits 0x40049b4c64d69161 }
    ∷ []

-- an interval whose own ends are those of no row
interval : ℕ → ℕ → GaussianIntervalV1
interval estimate deviation =
    record { estimate = bits estimate; standard_deviation = bits deviation; lower = bits 0; upper = bits 0; probability = bits 0x3fee666666666666 }

drawn : Approximation
drawn =
    available
    (record {
      covariance = record { mv_variance_fps2 = bits 0x4030000000000000; mv_bc_covariance_fps = bits 0; bc_variance = bits 0x3f1a36e2eb1c432d };
      muzzle_velocity_interval_95 = interval 0x40a5180000000000 0x4010000000000000;
      ballistic_coefficient_interval_95 = interval 0x3fd3333333333333 0x3f847ae147ae147b;
      mv_bc_correlation = bits 0;
      scaled_information_condition_number = bits 0x3ff0000000000000;
    })
    (record { a00 = bits 0x3ff0000000000000; a01 = bits 0; a11 = bits 0x3ff0000000000000 })

banded : Band
banded = record {
  range = bits 0x4062c00000000000;
  predicted_drop = bits 0x4024000000000000;
  latent = Some (interval 0x4024000000000000 0x3ff0000000000000);
  future = None;
}

under_two_rows : List Text
under_two_rows =
    speed_line (bits 0x40a5180000000000) (approximation_by (rows_under two_rows) drawn)
    ∷ coefficient_line (bits 0x3fd3333333333333) (approximation_by (rows_under two_rows) drawn)
    ∷ band_line (band_by (rows_under two_rows) banded)
    ∷ []

second_page : List Text
second_page =
    line "speed                     2700.000      2689.697      2710.303  "
    ∷ line "coefficient                  0.300         0.274         0.326  "
    ∷ line "distance                    10.000         7.424        12.576  "
    ∷ []

second_shown : under_two_rows ≡ second_page
unfolding two_rows interval drawn banded under_two_rows second_page rows_under at_level add sub mul speed_line coefficient_line band_line row_text cell_text shown_text number_text
    shown_of shown_at count_text glyph_of of_bits
second_shown = refl
