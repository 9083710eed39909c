-- What a value of the code's table and one of its reader hold.
use Rattle.std.specs.Prelude.{◌≤◌, List, length, Result}
use Rattle.std.specs.Result.{result_map_both}
use Rattle.coverage.specs.declared.CoverageRow.{CoverageRow}
use Rattle.coverage.specs.declared.Table.{Table}
use Rattle.coverage.specs.declared.TableRefusal.{TableRefusal}
use Rattle.coverage.specs.declared.Loader.{Loader}
use Rattle.coverage.specs.File.{Answer}
use Rattle.coverage.specs.Held.{held}
use Rattle.coverage.specs.Reading.{Standing}

-- the rows of a table: 1 to 8 of them
abbrev pub rows_in : Table → List CoverageRow
rows_in t = held t.rows

-- what loading a file has given, its table as the list of its rows
abbrev pub says : Result Table TableRefusal → Answer
says r = result_map_both rows_in (λ e. e) r

-- where a reader stands, and the rows that it has read
abbrev pub standing : Loader → Standing
standing l = record { spot = l.spot; rows = held l.rows }

-- Theorem `rows_most`.
abbrev pub RowsMost : Type 0
RowsMost = (t : Table) → length (rows_in t) ≤ 8

-- Theorem `rows_least`.
abbrev pub RowsLeast : Type 0
RowsLeast = (t : Table) → 1 ≤ length (rows_in t)
