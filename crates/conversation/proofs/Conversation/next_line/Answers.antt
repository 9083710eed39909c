-- `conversation::Conversation::next_line` meets its contract. Assumes nothing.
use Rattle.std.proofs.Common.{ap, ◌∙◌}
use Rattle.definition.specs.Session.{more_of}
use Rattle.conversation.proofs.Conversation.next_line.Goals as goal

pub returns : goal.returns
returns c = λ u k. record { lines = c.number_after-self.ensures ∙ ap more_of k.lines; section = k.section; request = k.request; session = k.session; table = k.table }
