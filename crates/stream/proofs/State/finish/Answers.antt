-- `stream::State::finish` meets its contract: a line without its line feed is malformed. Assumes nothing.
use Rattle.std.proofs.Common.{◌∙◌, sym, subst}
use Rattle.conversation.specs.Tracks.{Fills}
use Rattle.stream.proofs.Bytes.{unended_some}
use Rattle.stream.proofs.State.finish.Goals as goal

pub returns-then-self : goal.returns-then-self
returns-then-self c = record {
  room = c.unended.ensures.room;
  goes = λ t s k. subst (Fills _ _ _) (unended_some t s (sym k.reader.begun ∙ c.if-self.true)) (c.unended.ensures.goes t k.conversation);
}
