-- The definition computes: a line that asks, a line that is none of the forms, and the README's conversation up to its first question.
use Prim.Native.Nat.{ℕ}
use mathlib.Core.Path.{◌≡◌, refl}
use mathlib.Core.List.{List, [], ◌∷◌, ◌++◌}
use lib.Ieee.{round, add, sub, mul, div, lt, le, is_nan, of_bits, to_bits}
use Rattle.numeric.specs.Numeric.{finite, abs_of, max_of, within_of}
use Rattle.definition.specs.Fit.{gradient_norm_of, flat_of, evaluated, iterate, fit_map}
use Rattle.definition.specs.Likelihood.{chi_square_of, with_prior_of, with_priors_of, valued, objective, mv_step_of, bc_step_of, mv_plus_at, mv_minus_at, bc_plus_at}
use Rattle.definition.specs.Likelihood.{bc_minus_at, bc_minus, bc_plus, mv_minus, mv_plus, truing_jacobian_rows, complete, accumulate_of, sums_of}
use Rattle.definition.specs.Likelihood.{with_prior_gradient_of, from_sums, evaluate}
use Rattle.definition.specs.Whole.{positive_of, sound_observation_of, sound_prior_of, sound_requested_of, checked_point, checked_count, checked_measured}
use Rattle.definition.specs.Whole.{checked_requested, band_rows, baseline, concluded, banded, fitted, run, whole, edit_questions, edit}
use Rattle.definition.specs.Session.{more_of}
use Rattle.numerals.specs.Numbers.{digit_of, glyph_of, double_of, double_text, count_of, count_text}
use Rattle.words.specs.Words.{bytes}
use Rattle.lines.specs.Lines.{form_of, entered_of, shot_of, prior_of, distance_of, change_of, take_out_of}
use Rattle.report_text.specs.Texts.{led, opened, joined, bracketed, question_text, declined_text, asked_text, malformed_text}
use Rattle.conversation.specs.Conversation.{answer_to}
use Rattle.coverage.specs.Rows.{built_in}
use Rattle.stream.specs.Output.{output_of}

lines : ℕ
unfolding digit_of glyph_of double_of double_text count_of count_text form_of entered_of shot_of prior_of distance_of change_of take_out_of led opened joined bracketed
    question_text declined_text asked_text malformed_text more_of answer_to output_of
lines = 0

doubles : ℕ
unfolding round add sub mul div lt le is_nan of_bits to_bits finite abs_of max_of
doubles = 0

fits : ℕ
unfolding chi_square_of with_prior_of with_priors_of valued objective mv_step_of bc_step_of mv_plus_at mv_minus_at bc_plus_at bc_minus_at bc_minus bc_plus mv_minus mv_plus
    truing_jacobian_rows complete accumulate_of sums_of with_prior_gradient_of from_sums evaluate gradient_norm_of flat_of evaluated iterate fit_map
fits = 0

runs : ℕ
unfolding band_rows baseline concluded banded fitted edit_questions edit within_of positive_of sound_observation_of sound_prior_of sound_requested_of checked_point
    checked_count checked_measured checked_requested run whole
runs = 0

-- each text with a line feed
abbrev page : List (List ℕ) → List ℕ
page [] = []
page (l ∷ ls) = l ++ (10 ∷ page ls)

asks_first : output_of built_in (page (bytes "(asked)" ∷ [])) ≡ page (bytes "(asked 0)" ∷ [])
unfolding lines doubles fits runs
asks_first = refl

none_of_the_forms : output_of built_in (page (bytes "(refused)" ∷ bytes "(asked )" ∷ [])) ≡ page (bytes "(declined 8 0)" ∷ bytes "(malformed 2)" ∷ [])
unfolding lines doubles fits runs
none_of_the_forms = refl

unended_line : output_of built_in (page (bytes "(take-out 1)" ∷ []) ++ bytes "(asked)") ≡ page (bytes "(declined 14 0)" ∷ bytes "(malformed 2)" ∷ [])
unfolding lines doubles fits runs
unended_line = refl

transcript : output_of built_in
    (page
    (bytes "(entered 409f400000000000 3fd3333333333333)"
    ∷ bytes "(shot 4059000000000000 4024000000000000 3ff0000000000000)"
    ∷ bytes "(shot 4069000000000000 4026000000000000 3ff0000000000000)"
    ∷ bytes "(open plain)"
    ∷ []))
    ≡ page (bytes "(question shots 409f400000000000 3fd3333333333333)" ∷ [])
unfolding lines doubles fits runs
transcript = refl

-- and some of its replies
replies : output_of built_in (page
    (bytes "(entered 409f400000000000 3fd3333333333333)"
    ∷ bytes "(shot 4059000000000000 4024000000000000 3ff0000000000000)"
    ∷ bytes "(shot 4069000000000000 4026000000000000 3ff0000000000000)"
    ∷ bytes "(open plain)"
    ∷ bytes "(drops 4024000000000000 4024000000000000)"
    ∷ bytes "(drops 4024000000000000 4024000000000000)"
    ∷ bytes "(drops 4024000000000000 4024000000000000)"
    ∷ bytes "(drops 4024000000000000 4024000000000000)"
    ∷ bytes "(drops 4024000000000000 4024000000000000)"
    ∷ bytes "(drops 4024000000000000 4024000000000000)"
    ∷ [])) ≡ page
    (bytes "(question shots 409f400000000000 3fd3333333333333)"
    ∷ bytes "(question shots 409f400000000000 3fd3333333333333)"
    ∷ bytes "(question shots 409f480000000000 3fd3333333333333)"
    ∷ bytes "(question shots 409f380000000000 3fd3333333333333)"
    ∷ bytes "(question shots 409f400000000000 3fd3381d7dbf4880)"
    ∷ bytes "(question shots 409f400000000000 3fd32e48e8a71de6)"
    ∷ bytes "(question shots 409f400000000000 3fd3333333333333)"
    ∷ [])
unfolding lines doubles fits runs
replies = refl
