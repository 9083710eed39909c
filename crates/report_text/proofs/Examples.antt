-- The examples, computed. Assumes nothing.
use mathlib.Core.Path.{refl}
use lib.Ieee.{add, sub, mul, of_bits, to_bits}
use Rattle.interval.specs.Interval.{at_level}
use Rattle.coverage.specs.Rows.{rows_under}
use Rattle.numerals.specs.Numbers.{glyph_of, double_text, count_text}
use Rattle.report_text.specs.Texts.{led, joined, opened, bracketed, gaussian_text, rows_text, normal_text, priors_text, results_text, warning_text}
use Rattle.report_text.specs.Texts.{warnings_text, declined_text}
use Rattle.report_text.specs.Examples.{Examples}

pub examples : Examples
unfolding led joined opened bracketed gaussian_text rows_text normal_text priors_text results_text warning_text warnings_text declined_text
    glyph_of double_text count_text at_level rows_under add sub mul to_bits of_bits
examples = (refl, refl, refl, refl, refl, refl, refl, refl)
