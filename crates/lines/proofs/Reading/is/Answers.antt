use Rattle.std.proofs.Common.{◌∙◌}
use Rattle.lines.proofs.Words.{eq_is}
use Rattle.lines.proofs.Reading.is.Goals as goal

pub returns : goal.returns
returns c = c.eq.ensures ∙ eq_is c.args.self.word c.args.word
