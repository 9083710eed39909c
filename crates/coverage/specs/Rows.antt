-- The rows of a laboratory's coverage table, and an interval by them.
use Rattle.std.specs.Prelude.{◌-◌, List, [], ◌∷◌, map, length, slice_index_or}
use Rattle.interval.specs.Interval.{level95, factor95, at_level}
use Rattle.interval.specs.declared.GaussianIntervalV1.{GaussianIntervalV1}
use Rattle.coverage.specs.declared.CoverageRow.{CoverageRow}

-- the rows of a table, of which there are 1 to 8
abbrev pub Table : Type 0
Table = List CoverageRow

-- without a file: the old single row
abbrev pub built_in_row : CoverageRow
built_in_row = record { level = level95; factor = factor95 }

abbrev pub built_in : Table
built_in = built_in_row ∷ []

-- the last row; no table is empty, and of no rows it is the built-in one
abbrev pub last_row : Table → CoverageRow
last_row t = slice_index_or t (length t - 1) built_in_row

-- an interval at a row: its estimate and its standard deviation, the half width by the row's factor, and the row's level
abbrev pub at_row : GaussianIntervalV1 → CoverageRow → GaussianIntervalV1
at_row g r = at_level r.level r.factor g

-- every interval comes once per row
unfoldable pub rows_under : Table → GaussianIntervalV1 → List GaussianIntervalV1
rows_under t g = map (at_row g) t
