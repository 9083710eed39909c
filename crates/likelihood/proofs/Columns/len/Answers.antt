-- `Columns::len` is the length of what the columns hold together. Assumes nothing.
use Rattle.std.proofs.Common.{◌∙◌, sym}
use Rattle.definition.specs.Meaning.{observation_of}
use Rattle.likelihood.proofs.Laws.{zip3_shortest}
use Rattle.likelihood.proofs.Columns.len.Goals as goal

pub returns-clause-len : goal.returns-clause-len
returns-clause-len c =
    let a = c.args.self in
    c.shortest.ensures ∙ sym (zip3_shortest observation_of a.ranges.now a.drops.now a.sigmas.now)
