-- The state of the reader of a coverage file, byte by byte, and the answers that it gives: one definition for each function of the code. Nobody has to believe
-- it: the theorem `loads` (Loading.antt) ties it to the definition in File.antt.
use Rattle.std.specs.Prelude.{◌≡◌, ℕ, ◌+◌, ◌-◌, ◌*◌, ◌^◌, ◌<◌, ◌≤◌, cond, ◌&&◌, List, [], ◌∷◌, ◌++◌, length, fold, pos, ◌==◌, nat_lt, slice_get, Float}
use Rattle.std.specs.Prelude.{Option, None, Some, unwrap_or, option_map, option_and_then, Ok, Err, codes}
use Rattle.std.specs.Char.{is_ascii_digit}
use Rattle.std.specs.Float.{binary64}
use Rattle.std.specs.Float.Ieee.{div, of_int}
use Rattle.coverage.specs.declared.CoverageRow.{CoverageRow}
use Rattle.coverage.specs.declared.Digits.{Digits}
use Rattle.coverage.specs.declared.Digits.TheVariants.{Due, Whole, Point, Places}
use Rattle.coverage.specs.declared.Field.{Field}
use Rattle.coverage.specs.declared.Field.TheVariants.{Level, Factor}
use Rattle.coverage.specs.declared.Spot.{Spot}
use Rattle.coverage.specs.declared.Spot.TheVariants as spot
use Rattle.coverage.specs.File.{row, Form}

-- where a reader stands, and the rows that it has read
pub record Standing : Type 0 where
  pub spot : Spot
  pub rows : List CoverageRow

-- ---- a number

-- one digit more, where the number stays below 2^53
unfoldable pub longer_of : ℕ → ℕ → Option ℕ
longer_of n d = cond (nat_lt (n * 10 + d) (2 ^ 53)) (Some (n * 10 + d)) None

abbrev pub digit_after : Digits → ℕ → Option Digits
digit_after Due d = option_map Whole (longer_of 0 d)
digit_after (Whole n) d = option_map Whole (longer_of n d)
digit_after (Point n) d = option_map (λ m. Places m 10) (longer_of n d)
digit_after (Places n k) d = cond (nat_lt (10 ^ 14) k) None (option_map (λ m. Places m (k * 10)) (longer_of n d))

abbrev pub point_after : Digits → Option Digits
point_after (Whole n) = Some (Point n)
point_after _ = None

-- with the byte c, where a number may go on so
unfoldable pub number_after : Digits → ℕ → Option Digits
number_after s c = cond (is_ascii_digit c) (digit_after s (c - 48)) (cond (c == 46) (point_after s) None)

unfoldable pub quotient_of : ℕ → ℕ → Float
quotient_of n d = div binary64 (of_int binary64 (pos n)) (of_int binary64 (pos d))

-- its double, where a number may end
unfoldable pub value_at : Digits → Option Float
value_at Due = None
value_at (Whole n) = Some (quotient_of n 1)
value_at (Point n) = None
value_at (Places n d) = Some (quotient_of n d)

-- ---- a row

-- the byte behind a number: a blank behind the level, a ) behind the factor
abbrev pub stop_of : Field → ℕ
stop_of Level = 32
stop_of (Factor x) = 41

abbrev pub behind_of : Field → Float → Spot
behind_of Level x = spot.Number (Factor x) Due
behind_of (Factor x) y = spot.Closed (row x y)

unfoldable pub field_after : Field → Digits → ℕ → Option Spot
field_after f s c =
    cond (c == stop_of f) (option_map (behind_of f) (value_at s)) (option_map (λ t. spot.Number f t) (number_after s c))

-- ---- a line

abbrev pub first_line : List ℕ
first_line = codes "(coverage" ++ (10 ∷ [])

-- how a row begins
abbrev pub row_opening : List ℕ
row_opening = codes "(level "

-- k bytes of a text are read, and then c
unfoldable pub text_after : List ℕ → ℕ → ℕ → Option ℕ
text_after t k c = option_and_then (λ d. cond (c == d) (Some (k + 1)) None) (slice_get t k)

-- where the reader stands with the byte c behind n rows, if the line may go on so
abbrev pub next_at : Spot → ℕ → ℕ → Option Spot
next_at (spot.Head k) n c = option_map (λ j. cond (nat_lt j (length first_line)) (spot.Head j) (spot.Opening 0)) (text_after first_line k c)
next_at (spot.Opening k) n c =
    option_map (λ j. cond (nat_lt j (length row_opening)) (spot.Opening j) (spot.Number Level Due)) (text_after row_opening k c)
next_at (spot.Number f s) n c = field_after f s c
next_at (spot.Closed x) n c = cond (c == 10 && nat_lt n 8) (Some spot.Start) None
next_at spot.Start n c = cond (c == 40) (Some (spot.Opening 1)) (cond (c == 41) (Some spot.End) None)
next_at spot.End n c = cond (c == 10) (Some spot.Done) None
next_at spot.Done n c = None
next_at (spot.Wrong k) n c = Some (spot.Wrong k)

-- the rows with the byte c: the line feed behind a row puts it among them
abbrev pub rows_after : Spot → List CoverageRow → ℕ → List CoverageRow
rows_after (spot.Closed x) rs c = cond (c == 10 && nat_lt (length rs) 8) (rs ++ (x ∷ [])) rs
rows_after _ rs c = rs

-- the number of the line that is being read behind n rows
abbrev pub line_at : Spot → ℕ → ℕ
line_at (spot.Head k) n = 1
line_at spot.Done n = n + 3
line_at _ n = n + 2

-- ---- the reader

-- before the first byte
unfoldable pub begun_of : Standing
begun_of = record { spot = spot.Head 0; rows = [] }

-- one byte more; where the line may not go on so, its number stays
unfoldable pub fed_of : Standing → ℕ → Standing
fed_of l c =
    record {
      spot = unwrap_or (next_at l.spot (length l.rows) c) (spot.Wrong (line_at l.spot (length l.rows)));
      rows = rows_after l.spot l.rows c;
    }

abbrev pub fed_all : Standing → List ℕ → Standing
fed_all l s = fold fed_of l s

abbrev pub form_at : Spot → List CoverageRow → Form
form_at spot.Done rs = Ok rs
form_at (spot.Wrong k) rs = Err k
form_at s rs = Err (line_at s (length rs))

-- the form of all that was read, were it the whole file
unfoldable pub form_in : Standing → Form
form_in l = form_at l.spot l.rows

-- ---- what holds of every reader

-- a number below 2^53 with at most 15 digits after the point
abbrev pub IsSmall : Digits → Type 0
IsSmall (Whole n) = n < 2 ^ 53
IsSmall (Places n d) = (n < 2 ^ 53) × (0 < d) × (d ≤ 10 ^ 15)
IsSmall _ = Unit {0}

-- no row before the first line has ended, and a row where the table may end
abbrev pub FitsAt : Spot → List CoverageRow → Type 0
FitsAt (spot.Head k) rs = (k < length first_line) × (rs ≡ [])
FitsAt (spot.Opening k) rs = k < length row_opening
FitsAt (spot.Number f s) rs = IsSmall s
FitsAt (spot.Closed x) rs = Unit {0}
FitsAt (spot.Wrong k) rs = Unit {0}
FitsAt _ rs = 0 < length rs

abbrev pub Fits : Standing → Type 0
Fits l = FitsAt l.spot l.rows × (length l.rows ≤ 8)
