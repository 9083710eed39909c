-- What lent columns hold together, up to the end of the shortest.
use Rattle.std.specs.Prelude.{List}
use Rattle.definition.specs.Lists.{zip_with3}
use Rattle.definition.specs.Request.{Observation}
use Rattle.definition.specs.Likelihood.{row_of}
use Rattle.definition.specs.Meaning.{observations_of}
use Rattle.definition.specs.declared.Row.{Row}
use Rattle.likelihood.specs.declared.Columns.{Columns}
use Rattle.likelihood.specs.declared.RowColumns.{RowColumns}

abbrev pub observations_in : Columns → List Observation
observations_in o = observations_of o.ranges.now o.drops.now o.sigmas.now

abbrev pub rows_in : RowColumns → List Row
rows_in r = zip_with3 row_of r.predicted.now r.by_mv.now r.by_bc.now
