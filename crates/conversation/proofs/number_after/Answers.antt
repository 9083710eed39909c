-- `conversation::number_after` meets its contract. Assumes nothing.
use Rattle.std.proofs.Common.{arith}
use Rattle.conversation.proofs.Responses.{more_is}
use Rattle.conversation.proofs.number_after.Goals as goal

pub returns : goal.returns
returns c = more_is c.args.lines c.saturating_add.result c.saturating_add.ensures (omega arith)
