-- What holds of loading. The theorems stand in proofs/ under the names that stand here.
use Rattle.std.specs.Prelude.{◌≡◌, ℕ, ◌^◌, ◌<◌, ◌≤◌, false, List, ◌++◌, length, pos, Ok, Result}
use Rattle.std.specs.Float.{binary64}
use Rattle.std.specs.Float.Ieee.{div, of_int, round}
use Rattle.coverage.specs.declared.CoverageRow.{CoverageRow}
use Rattle.coverage.specs.declared.Table.{Table}
use Rattle.coverage.specs.declared.TableRefusal.{TableRefusal}
use Rattle.coverage.specs.File.{judged, load_of}
use Rattle.coverage.specs.Table.{says}
use Rattle.coverage.specs.Reading.{Standing, fed_all, begun_of, form_in}

-- Theorem `loads`: after any bytes, what the reader's state is judged to be is what a file of these bytes gets.
abbrev pub Loads : Type 0
Loads = (s : List ℕ) → judged (form_in (fed_all begun_of s)) ≡ load_of s

-- Theorem `fed_more`: a file read in pieces is the whole file.
abbrev pub FedMore : Type 0
FedMore = (l : Standing) (a b : List ℕ) → fed_all (fed_all l a) b ≡ fed_all l (a ++ b)

-- Theorem `loads_file`: what `ended` gives after a file's bytes is what the file gets.
abbrev pub LoadsFile : Type 0
LoadsFile = (s : List ℕ) (r : Result Table TableRefusal) → says r ≡ judged (form_in (fed_all begun_of s)) → says r ≡ load_of s

-- Theorem `accepted_rows`: an accepted table has 1 to 8 rows.
abbrev pub AcceptedRows : Type 0
AcceptedRows = (s : List ℕ) (rs : List CoverageRow) → load_of s ≡ Ok rs → (1 ≤ length rs) × (length rs ≤ 8)

-- Theorem `one_division`: of two whole numbers below 2^53, one rounded division is the double nearest to their quotient.
abbrev pub OneDivision : Type 0
OneDivision = (n d : ℕ) → n < 2 ^ 53 → 0 < d → d < 2 ^ 53
    → div binary64 (of_int binary64 (pos n)) (of_int binary64 (pos d)) ≡ round binary64 false n d
