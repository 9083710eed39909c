-- `conversation::Conversation::new` meets its contract. Assumes nothing.
use Rattle.std.proofs.Common.{refl, subst}
use Rattle.definition.specs.Request.{Opening}
use Rattle.definition.specs.Session.{says_of, Opened}
use Rattle.editing.specs.Meaning.{seen}
use Rattle.conversation.specs.Conversation.{no_request}
use Rattle.conversation.proofs.Standing.{opened}
use Rattle.conversation.proofs.Conversation.new.Goals as goal

pub returns : goal.returns
returns c =
    let q = c.new-request.ensures in
    let a = c.open.result in
    record {
      lines = refl;
      section = refl;
      request = q;
      session = (opened no_request a (subst (λ (o : Opening). Opened seen o (says_of a.step) a.session) q.same c.open.ensures)).stands;
      table = refl;
    }
