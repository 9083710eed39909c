-- `prior`: by cases of the flag.
use Rattle.c_api.proofs.prior.Goals as goal

pub returns-then-given : goal.returns-then-given
returns-then-given c = rw c.if-given.true
