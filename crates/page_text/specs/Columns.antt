-- Columns of the page: a number in 14, and a line of 64. A text is the list of its bytes.
use Rattle.std.specs.Prelude.{ℕ, ◌+◌, ◌-◌, ◌/◌, ◌%◌, ◌≡◌, Bool, cond, [], ◌∷◌, ◌++◌, length, replicate, Float}
use Rattle.numerals.specs.Numbers.{count_text}
use Rattle.words.specs.Words.{bytes}
use Rattle.report_text.specs.Writing.{Text}
use Rattle.thousandths.specs.Thousandths.{shown_of}
use Rattle.thousandths.specs.declared.Shown.{Shown}
use Rattle.thousandths.specs.declared.Shown.TheVariants.{Hyphen, Hashes, Fixed}
use Rattle.page_text.specs.declared.Cell.{Cell}
use Rattle.page_text.specs.declared.Cell.TheVariants.{Blank, Mark, Number}

abbrev pub blanks : ℕ → Text
blanks n = replicate n 32

-- a text in n columns, from the left and from the right
abbrev pub left_aligned : ℕ → Text → Text
left_aligned n t = t ++ blanks (n - length t)

abbrev pub right_aligned : ℕ → Text → Text
right_aligned n t = blanks (n - length t) ++ t

-- ---- a number

abbrev pub sign_text : Bool → Text
sign_text minus = cond minus (bytes "-") []

abbrev pub three_text : ℕ → Text
three_text n = (48 + n / 100) ∷ (48 + n / 10 % 10) ∷ (48 + n % 10) ∷ []

-- so many thousandths, with three decimals
abbrev pub fixed_text : Bool → ℕ → Text
fixed_text minus q = sign_text minus ++ (count_text (q / 1000) ++ (bytes "." ++ three_text (q % 1000)))

-- a number that is not finite is a single hyphen; one too wide is fourteen hash signs
unfoldable pub shown_text : Shown → Text
shown_text Hyphen = bytes "-"
shown_text Hashes = bytes "##############"
shown_text (Fixed minus q) = fixed_text minus q

unfoldable pub number_text : Float → Text
number_text x = right_aligned 14 (shown_text (shown_of x))

-- what stands in 14 columns: nothing; a mark in place of a number that is missing; a number
unfoldable pub cell_text : Cell → Text
cell_text Blank = blanks 14
cell_text (Mark letter) = right_aligned 14 (letter ∷ [])
cell_text (Number x) = number_text x

-- ---- a line

-- three cells behind what stands in the first 20 columns, two blanks, a line feed
unfoldable pub row_text : Text → Cell → Cell → Cell → Text
row_text label a b c = label ++ (cell_text a ++ (cell_text b ++ (cell_text c ++ (blanks 2 ++ (10 ∷ [])))))

abbrev pub line_text : Text → Cell → Cell → Cell → Text
line_text label a b c = row_text (left_aligned 20 label) a b c

-- Theorem `fourteen`: every cell takes 14 columns, so that a line takes 64 and its line feed.
abbrev pub Fourteen : Type 0
Fourteen = (cell : Cell) → length (cell_text cell) ≡ 14
