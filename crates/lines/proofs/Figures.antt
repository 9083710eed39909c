-- Lines and what they are, computed. Assumes nothing.
use Rattle.std.specs.Prelude.{None, Some}
use mathlib.Core.Path.{◌≡◌, refl}
use mathlib.Core.List.{[], ◌∷◌}
use lib.Ieee.{Float, nan, binary64, of_bits}
use Rattle.numerals.specs.Numbers.{digit_of, glyph_of, double_of, count_of, count_text}
use Rattle.words.specs.Words.{bytes}
use Rattle.lines.specs.Lines.{malformed, entered, prior_coefficient, distance, open_plain, drops, exchange, entered_of, prior_of}
use Rattle.lines.specs.Lines.{distance_of, change_of, take_out_of, form_of}

abbrev one : Float
one = of_bits binary64 0x3ff0_0000_0000_0000

the_count : count_text 1050 ≡ bytes "1050"
unfolding count_text glyph_of
the_count = refl

the_largest : count_of (bytes "18446744073709551615") ≡ Some 18446744073709551615
unfolding count_of digit_of
the_largest = refl

too_large : count_of (bytes "18446744073709551616") ≡ None
unfolding count_of digit_of
too_large = refl

a_nan : double_of (bytes "fff0000000000001") ≡ Some nan
unfolding double_of digit_of of_bits
a_nan = refl

upper_case : double_of (bytes "3FF0000000000000") ≡ None
unfolding double_of digit_of
upper_case = refl

a_point : form_of (bytes "(entered 3ff0000000000000 3ff0000000000000)") ≡ entered one one
unfolding form_of entered_of double_of digit_of
a_point = refl

a_prior : form_of (bytes "(prior coefficient 3ff0000000000000 3ff0000000000000)") ≡ prior_coefficient one one
unfolding form_of prior_of double_of digit_of
a_prior = refl

no_sigma : form_of (bytes "(distance 3ff0000000000000 none)") ≡ distance one None
unfolding form_of distance_of double_of digit_of
no_sigma = refl

an_opening : form_of (bytes "(open plain)") ≡ open_plain
unfolding form_of
an_opening = refl

two_blanks : form_of (bytes "(open  plain)") ≡ malformed
unfolding form_of
two_blanks = refl

no_entries : form_of (bytes "(drops)") ≡ drops []
unfolding form_of
no_entries = refl

two_entries : form_of (bytes "(drops missing 3ff0000000000000)") ≡ drops (None ∷ Some one ∷ [])
unfolding form_of double_of digit_of
two_entries = refl

a_place : form_of (bytes "(exchange 2 3ff0000000000000 3ff0000000000000)") ≡ exchange 2 one (Some one)
unfolding form_of change_of double_of count_of digit_of
a_place = refl

leading_zero : form_of (bytes "(take-out 02)") ≡ malformed
unfolding form_of take_out_of count_of digit_of
leading_zero = refl

not_closed : form_of (bytes "(refused") ≡ malformed
unfolding form_of
not_closed = refl
