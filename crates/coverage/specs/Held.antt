-- The rows in a value of the code's `Rows`: 0 to 8 of them.
use Rattle.std.specs.Prelude.{List, take}
use Rattle.coverage.specs.declared.CoverageRow.{CoverageRow}
use Rattle.coverage.specs.declared.rows.Rows.{Rows}

abbrev pub held : Rows → List CoverageRow
held r = take r.n r.places
