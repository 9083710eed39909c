-- A laboratory's coverage file: its bytes, and the table or the refusal that they get, `load_of`.
use Rattle.std.specs.Prelude.{ℕ, ◌+◌, ◌-◌, ◌*◌, ◌^◌, Bool, true, false, cond, ◌&&◌, not, List, [], ◌∷◌, ◌++◌, length, drop, zip, position, ◌==◌, nat_le, nat_lt, Float}
use Rattle.std.specs.Prelude.{Option, None, Some, option_map, option_and_then, Result, Ok, Err, codes, bytes_eq}
use Rattle.std.specs.Char.{is_ascii_digit}
use Rattle.std.specs.Float.{binary64}
use Rattle.std.specs.Float.Ieee.{round, lt}
use Rattle.numeric.specs.Numeric.{zero64, one64}
use Rattle.coverage.specs.declared.CoverageRow.{CoverageRow}
use Rattle.coverage.specs.declared.TableRefusal.{TableRefusal}
use Rattle.coverage.specs.declared.TableRefusalCode.{TableRefusalCode}
use Rattle.coverage.specs.declared.TableRefusalCode.TheVariants.{Line, Range, Order}

-- ---- what loading comes to

-- the number that is told of a refusal
abbrev pub told_of : TableRefusalCode → ℕ
told_of Line = 16
told_of Range = 17
told_of Order = 18

-- the rows of a table, or the refusal
abbrev pub Answer : Type 0
Answer = Result (List CoverageRow) TableRefusal

-- a refusal with its line or its row
abbrev pub refusal : TableRefusalCode → ℕ → TableRefusal
refusal c k = record { code = c; place = k }

abbrev pub refused : TableRefusalCode → ℕ → Answer
refused c k = Err (refusal c k)

-- ---- "a written number is one or more digits, then optionally a point and 1 to 15 more"

-- n / d: n by all its digits together, d being 10 to the number of those after the point
pub data Written : Type 0 where
  fraction : ℕ → ℕ → Written

-- the number whose digits are those of n and then c
abbrev pub next : ℕ → ℕ → ℕ
next n c = n * 10 + (c - 48)

-- digits after the point
abbrev pub places_from : ℕ → ℕ → List ℕ → Option Written
places_from n d [] = Some (fraction n d)
places_from n d (c ∷ s) = cond (is_ascii_digit c) (places_from (next n c) (d * 10) s) None

-- a point is read: a digit must follow
abbrev pub point_from : ℕ → List ℕ → Option Written
point_from n [] = None
point_from n (c ∷ s) = cond (is_ascii_digit c) (places_from (next n c) 10 s) None

-- digits before the point
abbrev pub whole_from : ℕ → List ℕ → Option Written
whole_from n [] = Some (fraction n 1)
whole_from n (c ∷ s) = cond (is_ascii_digit c) (whole_from (next n c) s) (cond (c == 46) (point_from n s) None)

-- a digit must come first
abbrev pub written_of : List ℕ → Option Written
written_of [] = None
written_of (c ∷ s) = cond (is_ascii_digit c) (whole_from (next 0 c) s) None

-- "its digits make a whole number below 2^53; it means the nearest double"
abbrev pub value_of : Option Written → Option Float
value_of None = None
value_of (Some (fraction n d)) = cond (nat_lt n (2 ^ 53) && nat_le d (10 ^ 15)) (Some (round binary64 false n d)) None

unfoldable pub number_of : List ℕ → Option Float
number_of s = value_of (written_of s)

-- ---- "rows such as `(level 0.95 1.959963984540054)`"

abbrev pub row : Float → Float → CoverageRow
row x y = record { level = x; factor = y }

-- what stands before the first such byte, and what behind it
abbrev pub cut_at : ℕ → List ℕ → Option (List ℕ × List ℕ)
cut_at x [] = None
cut_at x (c ∷ s) = cond (c == x) (Some ([], s)) (option_map (λ p. (c ∷ p.0, p.1)) (cut_at x s))

-- what follows a text that a line begins with
abbrev pub after : List ℕ → List ℕ → Option (List ℕ)
after [] s = Some s
after (d ∷ t) [] = None
after (d ∷ t) (c ∷ s) = cond (c == d) (after t s) None

abbrev pub both : Option Float → Option Float → Option CoverageRow
both None y = None
both (Some x) None = None
both (Some x) (Some y) = Some (row x y)

-- what stands in front of a byte that ends the line
abbrev pub at_end : Option (List ℕ × List ℕ) → Option (List ℕ)
at_end None = None
at_end (Some (b, [])) = Some b
at_end (Some (b, c ∷ s)) = None

-- the factor's number ends at the ), and that is the line's end
abbrev pub factor_of : List ℕ → Option Float
factor_of b = option_and_then number_of (at_end (cut_at 41 b))

-- the level's number ends at the blank
abbrev pub fields_of : List ℕ → Option CoverageRow
fields_of s = option_and_then (λ p. both (number_of p.0) (factor_of p.1)) (cut_at 32 s)

unfoldable pub row_of : List ℕ → Option CoverageRow
row_of l = option_and_then fields_of (after (codes "(level ") l)

-- ---- the values of a row, compared as the doubles that they mean

-- "levels lie strictly between 0 and 1, factors are positive"
unfoldable pub in_range : CoverageRow → Bool
in_range r = lt zero64 r.level && lt r.level one64 && lt zero64 r.factor

-- "both rise from row to row"
unfoldable pub rises : CoverageRow → CoverageRow → Bool
rises r s = lt r.level s.level && lt r.factor s.factor

-- ---- "each line ended by a line feed"

-- the lines of a text, and what follows the last line feed
pub data Lines : Type 0 where
  cut : List (List ℕ) → List ℕ → Lines

abbrev pub new_line : Lines → Lines
new_line (cut ls r) = cut ([] ∷ ls) r

abbrev pub in_line : ℕ → Lines → Lines
in_line c (cut [] r) = cut [] (c ∷ r)
in_line c (cut (l ∷ ls) r) = cut ((c ∷ l) ∷ ls) r

abbrev pub lines_of : List ℕ → Lines
lines_of [] = cut [] []
lines_of (c ∷ s) = cond (c == 10) (new_line (lines_of s)) (in_line c (lines_of s))

-- ---- the whole file: "`(coverage`, then rows, then `)`", 1 to 8 rows

-- the rows, or the number of the first line that is not of the form. A line that is missing or unended is wrong at its own number, which is that of the line
-- after the last ended one.
abbrev pub Form : Type 0
Form = Result (List CoverageRow) ℕ

-- behind the line ) nothing is due: "a line too many"
abbrev pub end_form : List CoverageRow → Lines → Form
end_form rs (cut [] []) = Ok rs
end_form rs (cut [] (c ∷ r)) = Err (length rs + 3)
end_form rs (cut (l ∷ ls) r) = Err (length rs + 3)

-- a row, where there is one and room for it
abbrev pub if_row : ℕ → Bool → Option CoverageRow → (CoverageRow → Form) → Form
if_row k room None f = Err k
if_row k false (Some x) f = Err k
if_row k true (Some x) f = f x

-- The rows rs are read, and line number 2 + length rs is due: ) if there is a row, else a row if there are fewer than 8.
abbrev pub rows_from : List CoverageRow → List (List ℕ) → List ℕ → Form
rows_from rs [] r = Err (length rs + 2)
rows_from rs (l ∷ ls) r =
    cond (bytes_eq l (codes ")") && nat_lt 0 (length rs)) (end_form rs (cut ls r))
    (if_row (length rs + 2) (nat_lt (length rs) 8) (row_of l) (λ x. rows_from (rs ++ (x ∷ [])) ls r))

abbrev pub head_form : Lines → Form
head_form (cut [] r) = Err 1
head_form (cut (l ∷ ls) r) = cond (bytes_eq l (codes "(coverage")) (rows_from [] ls r) (Err 1)

unfoldable pub form_of : List ℕ → Form
form_of s = head_form (lines_of s)

-- ---- the refusals, in their order

-- the place, from 0, of the first row outside its range
abbrev pub outside_of : List CoverageRow → Option ℕ
outside_of rs = position (λ r. not (in_range r)) rs

-- the place, from 0, of the first row above which the next one does not rise
abbrev pub flat_of : List CoverageRow → Option ℕ
flat_of rs = position (λ p. not (rises p.0 p.1)) (zip rs (drop 1 rs))

-- rows are numbered from 1
abbrev pub risen : List CoverageRow → Option ℕ → Answer
risen rs None = Ok rs
risen rs (Some i) = refused Order (i + 2)

abbrev pub ranged : List CoverageRow → Option ℕ → Answer
ranged rs None = risen rs (flat_of rs)
ranged rs (Some i) = refused Range (i + 1)

unfoldable pub judged : Form → Answer
judged (Err k) = refused Line k
judged (Ok rs) = ranged rs (outside_of rs)

-- what the bytes of a file get: "refusals on loading, each tried over the whole file before the next"
unfoldable pub load_of : List ℕ → Answer
load_of s = judged (form_of s)
