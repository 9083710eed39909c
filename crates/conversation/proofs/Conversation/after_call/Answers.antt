-- `conversation::Conversation::after_call` meets its contract. Assumes nothing.
use Rattle.conversation.proofs.Responses.{call_responds}
use Rattle.conversation.proofs.Conversation.after_call.Goals as goal

pub returns : goal.returns
returns c = λ u x k m. call_responds c.args.self.now u k x c.args.a m
