-- `edited`: the distance is faulty.
use Rattle.std.proofs.Common.{arith}
use Rattle.editing.proofs.Laws.{faulty}
use Rattle.editing.proofs.edited.Goals as goal

pub returns-then-not-is_sound_requested : goal.returns-then-not-is_sound_requested
returns-then-not-is_sound_requested c = λ is. rw (c.closed_with-then-not-is_sound_requested.ensures, c.refused-then-not-is_sound_requested.ensures, c.place.ensures)
    (faulty c.args.s c.in-Some.p c.in-Some.n (grind arith) c.args.change c.args.entry is (grind arith) (grind arith) (grind arith))
