-- The rows of a table: `rows_most`, `rows_least`. Assumes nothing.
use Rattle.coverage.specs.Table.{RowsMost, RowsLeast}

pub rows_most : RowsMost
rows_most t = t.most

pub rows_least : RowsLeast
rows_least t = t.least
