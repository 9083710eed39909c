-- Files and what they get, computed from the definition. Assumes nothing.
use Rattle.std.proofs.Common.{◌≡◌, ℕ, List, [], ◌∷◌, ◌++◌, replicate, refl, Ok, codes}
use Prim.Native.String.{String}
use lib.Ieee.{binary64, of_bits, round, lt}
use Rattle.coverage.specs.Rows.{built_in}
use Rattle.coverage.specs.declared.CoverageRow.{CoverageRow}
use Rattle.coverage.specs.declared.TableRefusalCode.TheVariants.{Line, Range, Order}
use Rattle.coverage.specs.File.{row, refused, number_of, row_of, form_of, in_range, rises, judged, load_of}

abbrev at : ℕ → ℕ → CoverageRow
at x y = row (of_bits binary64 x) (of_bits binary64 y)

-- a line, ended by a line feed
abbrev line : String → List ℕ
line s = codes s ++ (10 ∷ [])

abbrev head : List ℕ
head = line "(coverage"

abbrev close : List ℕ
close = line ")"

single_row : built_in ≡ at 0x3fee666666666666 0x3fff5c0331eeff84 ∷ []
single_row = refl

file_single : load_of (head ++ line "(level 0.95 1.959963984540054)" ++ close) ≡ Ok (at 0x3fee666666666666 0x3fff5c0331eeff84 ∷ [])
unfolding load_of judged form_of row_of number_of in_range rises lt round of_bits
file_single = refl

file_three : load_of (head ++ line "(level 0.9 1.6448536269514722)" ++ line "(level 0.95 1.959963984540054)" ++ line "(level 0.99 2.5758293035489004)"
    ++ close) ≡ refused Line 2
unfolding load_of judged form_of row_of number_of in_range rises lt round of_bits
file_three = refl

file_three_15 : load_of (head ++ line "(level 0.9 1.644853626951473)" ++ line "(level 0.95 1.959963984540054)" ++ line "(level 0.99 2.575829303548901)"
    ++ close) ≡ Ok (at 0x3feccccccccccccd 0x3ffa515209676abf ∷ at 0x3fee666666666666 0x3fff5c0331eeff84 ∷ at 0x3fefae147ae147ae 0x40049b4c64d69161 ∷ [])
unfolding load_of judged form_of row_of number_of in_range rises lt round of_bits
file_three_15 = refl

file_eight : load_of (head ++ line "(level 0.1 1)" ++ line "(level 0.2 2)" ++ line "(level 0.3 3)" ++ line "(level 0.4 4)" ++ line "(level 0.5 5)"
    ++ line "(level 0.6 6)" ++ line "(level 0.7 7)" ++ line "(level 0.8 8)" ++ close)
    ≡ Ok (at 0x3fb999999999999a 0x3ff0000000000000 ∷ at 0x3fc999999999999a 0x4000000000000000 ∷ at 0x3fd3333333333333 0x4008000000000000
    ∷ at 0x3fd999999999999a 0x4010000000000000 ∷ at 0x3fe0000000000000 0x4014000000000000 ∷ at 0x3fe3333333333333 0x4018000000000000
    ∷ at 0x3fe6666666666666 0x401c000000000000 ∷ at 0x3fe999999999999a 0x4020000000000000 ∷ [])
unfolding load_of judged form_of row_of number_of in_range rises lt round of_bits
file_eight = refl

file_nine : load_of (head ++ line "(level 0.1 1)" ++ line "(level 0.2 2)" ++ line "(level 0.3 3)" ++ line "(level 0.4 4)" ++ line "(level 0.5 5)"
    ++ line "(level 0.6 6)" ++ line "(level 0.7 7)" ++ line "(level 0.8 8)" ++ line "(level 0.9 9)" ++ close) ≡ refused Line 10
unfolding load_of judged form_of row_of number_of in_range rises lt round of_bits
file_nine = refl

file_nine_bad : load_of (head ++ line "(level 0.1 1)" ++ line "(level 0.2 2)" ++ line "(level 0.3 3)" ++ line "(level 0.4 4)" ++ line "(level 0.5 5)"
    ++ line "(level 0.6 6)" ++ line "(level 0.7 7)" ++ line "(level 0.8 8)" ++ line "nonsense" ++ close) ≡ refused Line 10
unfolding load_of judged form_of row_of number_of in_range rises lt round of_bits
file_nine_bad = refl

file_eight_unclosed : load_of (head ++ line "(level 0.1 1)" ++ line "(level 0.2 2)" ++ line "(level 0.3 3)" ++ line "(level 0.4 4)" ++ line "(level 0.5 5)"
    ++ line "(level 0.6 6)" ++ line "(level 0.7 7)" ++ line "(level 0.8 8)") ≡ refused Line 10
unfolding load_of judged form_of row_of number_of in_range rises lt round of_bits
file_eight_unclosed = refl

file_empty : load_of ([]) ≡ refused Line 1
unfolding load_of judged form_of row_of number_of in_range rises lt round of_bits
file_empty = refl

file_only_lf : load_of ((10 ∷ [])) ≡ refused Line 1
unfolding load_of judged form_of row_of number_of in_range rises lt round of_bits
file_only_lf = refl

file_head_only : load_of (head) ≡ refused Line 2
unfolding load_of judged form_of row_of number_of in_range rises lt round of_bits
file_head_only = refl

file_head_unended : load_of (codes "(coverage") ≡ refused Line 1
unfolding load_of judged form_of row_of number_of in_range rises lt round of_bits
file_head_unended = refl

file_no_row : load_of (head ++ close) ≡ refused Line 2
unfolding load_of judged form_of row_of number_of in_range rises lt round of_bits
file_no_row = refl

file_early_end : load_of (head ++ line "(level 0.95 1.959963984540054)") ≡ refused Line 3
unfolding load_of judged form_of row_of number_of in_range rises lt round of_bits
file_early_end = refl

file_row_unended : load_of (head ++ codes "(level 0.95 1.959963984540054)") ≡ refused Line 2
unfolding load_of judged form_of row_of number_of in_range rises lt round of_bits
file_row_unended = refl

file_close_unended : load_of (head ++ line "(level 0.95 1.959963984540054)" ++ codes ")") ≡ refused Line 3
unfolding load_of judged form_of row_of number_of in_range rises lt round of_bits
file_close_unended = refl

file_line_too_many : load_of (head ++ line "(level 0.95 1.959963984540054)" ++ codes ")" ++ (10 ∷ 10 ∷ [])) ≡ refused Line 4
unfolding load_of judged form_of row_of number_of in_range rises lt round of_bits
file_line_too_many = refl

file_tail_too_many : load_of (head ++ line "(level 0.95 1.959963984540054)" ++ line ")" ++ codes "x") ≡ refused Line 4
unfolding load_of judged form_of row_of number_of in_range rises lt round of_bits
file_tail_too_many = refl

file_second_table : load_of (head ++ line "(level 0.95 1.959963984540054)" ++ line ")" ++ line "(coverage" ++ line "(level 0.95 1.959963984540054)" ++ close)
    ≡ refused Line 4
unfolding load_of judged form_of row_of number_of in_range rises lt round of_bits
file_second_table = refl

file_cr : load_of (codes "(coverage" ++ (13 ∷ 10 ∷ []) ++ line "(level 0.95 1.959963984540054)" ++ close) ≡ refused Line 1
unfolding load_of judged form_of row_of number_of in_range rises lt round of_bits
file_cr = refl

file_cr_in_row : load_of (head ++ codes "(level 0.95 1.959963984540054)" ++ (13 ∷ 10 ∷ []) ++ close) ≡ refused Line 2
unfolding load_of judged form_of row_of number_of in_range rises lt round of_bits
file_cr_in_row = refl

file_cr_in_close : load_of (head ++ line "(level 0.95 1.959963984540054)" ++ codes ")" ++ (13 ∷ 10 ∷ [])) ≡ refused Line 3
unfolding load_of judged form_of row_of number_of in_range rises lt round of_bits
file_cr_in_close = refl

file_blank_line_first : load_of ((10 ∷ []) ++ line "(coverage" ++ line "(level 0.95 1.959963984540054)" ++ close) ≡ refused Line 1
unfolding load_of judged form_of row_of number_of in_range rises lt round of_bits
file_blank_line_first = refl

file_blank_line_between : load_of (codes "(coverage" ++ (10 ∷ 10 ∷ []) ++ line "(level 0.95 1.959963984540054)" ++ close) ≡ refused Line 2
unfolding load_of judged form_of row_of number_of in_range rises lt round of_bits
file_blank_line_between = refl

file_one_line : load_of (line "(coverage (level 0.95 1.959963984540054))") ≡ refused Line 1
unfolding load_of judged form_of row_of number_of in_range rises lt round of_bits
file_one_line = refl

file_two_blanks : load_of (head ++ line "(level 0.95  1.96)" ++ close) ≡ refused Line 2
unfolding load_of judged form_of row_of number_of in_range rises lt round of_bits
file_two_blanks = refl

file_blank_inside : load_of (head ++ line "(level 0.95 1.96 )" ++ close) ≡ refused Line 2
unfolding load_of judged form_of row_of number_of in_range rises lt round of_bits
file_blank_inside = refl

file_blank_before : load_of (head ++ line " (level 0.95 1.96)" ++ close) ≡ refused Line 2
unfolding load_of judged form_of row_of number_of in_range rises lt round of_bits
file_blank_before = refl

file_tab : load_of (head ++ codes "(level" ++ (9 ∷ []) ++ line "0.95 1.96)" ++ close) ≡ refused Line 2
unfolding load_of judged form_of row_of number_of in_range rises lt round of_bits
file_tab = refl

file_capital : load_of (head ++ line "(Level 0.95 1.96)" ++ close) ≡ refused Line 2
unfolding load_of judged form_of row_of number_of in_range rises lt round of_bits
file_capital = refl

file_three_fields : load_of (head ++ line "(level 0.95 1.96 2)" ++ close) ≡ refused Line 2
unfolding load_of judged form_of row_of number_of in_range rises lt round of_bits
file_three_fields = refl

file_no_digit_before_point : load_of (head ++ line "(level .95 1.96)" ++ close) ≡ refused Line 2
unfolding load_of judged form_of row_of number_of in_range rises lt round of_bits
file_no_digit_before_point = refl

file_no_digit_after_point : load_of (head ++ line "(level 0.95 2.)" ++ close) ≡ refused Line 2
unfolding load_of judged form_of row_of number_of in_range rises lt round of_bits
file_no_digit_after_point = refl

file_minus : load_of (head ++ line "(level 0.95 -1.96)" ++ close) ≡ refused Line 2
unfolding load_of judged form_of row_of number_of in_range rises lt round of_bits
file_minus = refl

file_plus : load_of (head ++ line "(level 0.95 +1.96)" ++ close) ≡ refused Line 2
unfolding load_of judged form_of row_of number_of in_range rises lt round of_bits
file_plus = refl

file_exponent : load_of (head ++ line "(level 0.95 1e0)" ++ close) ≡ refused Line 2
unfolding load_of judged form_of row_of number_of in_range rises lt round of_bits
file_exponent = refl

file_comma : load_of (head ++ line "(level 0,95 1.96)" ++ close) ≡ refused Line 2
unfolding load_of judged form_of row_of number_of in_range rises lt round of_bits
file_comma = refl

file_nul : load_of (head ++ codes "(level 0.95 1.96" ++ (0 ∷ []) ++ line ")" ++ close) ≡ refused Line 2
unfolding load_of judged form_of row_of number_of in_range rises lt round of_bits
file_nul = refl

file_15_places : load_of (head ++ line "(level 0.950000000000000 1.950000000000000)" ++ close) ≡ Ok (at 0x3fee666666666666 0x3fff333333333333 ∷ [])
unfolding load_of judged form_of row_of number_of in_range rises lt round of_bits
file_15_places = refl

file_16_places : load_of (head ++ line "(level 0.9500000000000000 1.96)" ++ close) ≡ refused Line 2
unfolding load_of judged form_of row_of number_of in_range rises lt round of_bits
file_16_places = refl

file_leading_zeros : load_of (head ++ line "(level 00000000000000000000000.95 0000000000000000000001.96)" ++ close)
    ≡ Ok (at 0x3fee666666666666 0x3fff5c28f5c28f5c ∷ [])
unfolding load_of judged form_of row_of number_of in_range rises lt round of_bits
file_leading_zeros = refl

file_many_leading_zeros : load_of (head ++ (codes "(level " ++ replicate 5000 48 ++ line ".95 1.96)") ++ close)
    ≡ Ok (at 0x3fee666666666666 0x3fff5c28f5c28f5c ∷ [])
unfolding load_of judged form_of row_of number_of in_range rises lt round of_bits
file_many_leading_zeros = refl

file_below_2_53 : load_of (head ++ line "(level 0.95 9007199254740991)" ++ close) ≡ Ok (at 0x3fee666666666666 0x433fffffffffffff ∷ [])
unfolding load_of judged form_of row_of number_of in_range rises lt round of_bits
file_below_2_53 = refl

file_at_2_53 : load_of (head ++ line "(level 0.95 9007199254740992)" ++ close) ≡ refused Line 2
unfolding load_of judged form_of row_of number_of in_range rises lt round of_bits
file_at_2_53 = refl

file_below_2_53_places : load_of (head ++ line "(level 0.95 9.007199254740991)" ++ close) ≡ Ok (at 0x3fee666666666666 0x402203af9ee75615 ∷ [])
unfolding load_of judged form_of row_of number_of in_range rises lt round of_bits
file_below_2_53_places = refl

file_at_2_53_places : load_of (head ++ line "(level 0.95 9.007199254740992)" ++ close) ≡ refused Line 2
unfolding load_of judged form_of row_of number_of in_range rises lt round of_bits
file_at_2_53_places = refl

file_trailing_zeros_over : load_of (head ++ line "(level 0.95 10.000000000000000)" ++ close) ≡ refused Line 2
unfolding load_of judged form_of row_of number_of in_range rises lt round of_bits
file_trailing_zeros_over = refl

file_level_0 : load_of (head ++ line "(level 0 1.96)" ++ close) ≡ refused Range 1
unfolding load_of judged form_of row_of number_of in_range rises lt round of_bits
file_level_0 = refl

file_level_0_0 : load_of (head ++ line "(level 0.000 1.96)" ++ close) ≡ refused Range 1
unfolding load_of judged form_of row_of number_of in_range rises lt round of_bits
file_level_0_0 = refl

file_level_1 : load_of (head ++ line "(level 1 1.96)" ++ close) ≡ refused Range 1
unfolding load_of judged form_of row_of number_of in_range rises lt round of_bits
file_level_1 = refl

file_level_1_0 : load_of (head ++ line "(level 1.000000000000000 1.96)" ++ close) ≡ refused Range 1
unfolding load_of judged form_of row_of number_of in_range rises lt round of_bits
file_level_1_0 = refl

file_level_nearest_1 : load_of (head ++ line "(level 0.999999999999999 1.96)" ++ close) ≡ Ok (at 0x3feffffffffffff7 0x3fff5c28f5c28f5c ∷ [])
unfolding load_of judged form_of row_of number_of in_range rises lt round of_bits
file_level_nearest_1 = refl

file_level_nearest_0 : load_of (head ++ line "(level 0.000000000000001 0.000000000000001)" ++ close) ≡ Ok (at 0x3cd203af9ee75616 0x3cd203af9ee75616 ∷ [])
unfolding load_of judged form_of row_of number_of in_range rises lt round of_bits
file_level_nearest_0 = refl

file_level_2 : load_of (head ++ line "(level 2 1.96)" ++ close) ≡ refused Range 1
unfolding load_of judged form_of row_of number_of in_range rises lt round of_bits
file_level_2 = refl

file_factor_0 : load_of (head ++ line "(level 0.95 0.000)" ++ close) ≡ refused Range 1
unfolding load_of judged form_of row_of number_of in_range rises lt round of_bits
file_factor_0 = refl

file_factor_0_0 : load_of (head ++ line "(level 0.95 0.000)" ++ close) ≡ refused Range 1
unfolding load_of judged form_of row_of number_of in_range rises lt round of_bits
file_factor_0_0 = refl

file_equal_rows : load_of (head ++ line "(level 0.9 1.5)" ++ line "(level 0.9 1.5)" ++ close) ≡ refused Order 2
unfolding load_of judged form_of row_of number_of in_range rises lt round of_bits
file_equal_rows = refl

file_equal_level : load_of (head ++ line "(level 0.9 1.5)" ++ line "(level 0.90 2.5)" ++ close) ≡ refused Order 2
unfolding load_of judged form_of row_of number_of in_range rises lt round of_bits
file_equal_level = refl

file_equal_factor : load_of (head ++ line "(level 0.9 1.5)" ++ line "(level 0.95 1.50)" ++ close) ≡ refused Order 2
unfolding load_of judged form_of row_of number_of in_range rises lt round of_bits
file_equal_factor = refl

file_falls : load_of (head ++ line "(level 0.9 2.5)" ++ line "(level 0.95 1.5)" ++ close) ≡ refused Order 2
unfolding load_of judged form_of row_of number_of in_range rises lt round of_bits
file_falls = refl

file_equal_as_doubles : load_of (head ++ line "(level 0.9 8.000000000000001)" ++ line "(level 0.95 8.000000000000002)" ++ close) ≡ refused Order 2
unfolding load_of judged form_of row_of number_of in_range rises lt round of_bits
file_equal_as_doubles = refl

file_not_equal_as_doubles : load_of (head ++ line "(level 0.9 8.000000000000002)" ++ line "(level 0.95 8.000000000000003)" ++ close)
    ≡ Ok (at 0x3feccccccccccccd 0x4020000000000001 ∷ at 0x3fee666666666666 0x4020000000000002 ∷ [])
unfolding load_of judged form_of row_of number_of in_range rises lt round of_bits
file_not_equal_as_doubles = refl

file_equal_as_doubles_large : load_of (head ++ line "(level 0.9 600000000000000.2)" ++ line "(level 0.95 600000000000000.3)" ++ close) ≡ refused Order 2
unfolding load_of judged form_of row_of number_of in_range rises lt round of_bits
file_equal_as_doubles_large = refl

file_18_then_17 : load_of (head ++ line "(level 0.9 2.5)" ++ line "(level 0.8 3)" ++ line "(level 1.5 4)" ++ close) ≡ refused Range 3
unfolding load_of judged form_of row_of number_of in_range rises lt round of_bits
file_18_then_17 = refl

file_17_then_16 : load_of (head ++ line "(level 0 1)" ++ line "(level x 1)" ++ close) ≡ refused Line 3
unfolding load_of judged form_of row_of number_of in_range rises lt round of_bits
file_17_then_16 = refl

file_18_then_16 : load_of (head ++ line "(level 0.9 1)" ++ line "(level 0.8 1)" ++ line ")" ++ line "more") ≡ refused Line 5
unfolding load_of judged form_of row_of number_of in_range rises lt round of_bits
file_18_then_16 = refl

file_two_18 : load_of (head ++ line "(level 0.9 1)" ++ line "(level 0.8 2)" ++ line "(level 0.7 3)" ++ close) ≡ refused Order 2
unfolding load_of judged form_of row_of number_of in_range rises lt round of_bits
file_two_18 = refl

file_two_17 : load_of (head ++ line "(level 0.9 1)" ++ line "(level 0.95 0)" ++ line "(level 1 0)" ++ close) ≡ refused Range 2
unfolding load_of judged form_of row_of number_of in_range rises lt round of_bits
file_two_17 = refl
