-- `lines::closed` meets its contract. Assumes nothing.
use Rattle.std.proofs.Common.{◌∷◌, []}
use Rattle.std.proofs.lemmas.Slice.Eq.{strip_suffix_is}
use Rattle.std.specs.Cmp.{unsigned_Decides}
use Rattle.lines.proofs.Parentheses.{closed_by}
use Rattle.lines.proofs.closed.Goals as goal

pub returns : goal.returns
returns c = closed_by c.args.word.now c.strip_suffix.result (strip_suffix_is unsigned_Decides c.args.word.now (41 ∷ []) c.strip_suffix.result c.strip_suffix.ensures.cases)
