-- `RowColumns::len` is the length of what the columns hold together. Assumes nothing.
use Rattle.std.proofs.Common.{◌∙◌, sym}
use Rattle.definition.specs.Likelihood.{row_of}
use Rattle.likelihood.proofs.Laws.{zip3_shortest}
use Rattle.likelihood.proofs.RowColumns.len.Goals as goal

pub returns-clause-len : goal.returns-clause-len
returns-clause-len c =
    let a = c.args.self in
    c.shortest.ensures ∙ sym (zip3_shortest row_of a.predicted.now a.by_mv.now a.by_bc.now)
