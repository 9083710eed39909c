-- `reply_new`: where the edit has a question open.
use Rattle.std.proofs.Common.{sym, arith}
use Rattle.editing.proofs.Laws.{wrong_count, one_more}
use Rattle.editing.proofs.reply_new.Goals as goal

pub returns-then-not-is_one : goal.returns-then-not-is_one
returns-then-not-is_one c =
    wrong_count c.args.run c.args.asking c.in-Some.p (sym c.in-Some.ensures) c.args.entries.now _ _ (grind arith) c.declined-then-not-is_one.ensures

pub returns : goal.returns
returns c =
    one_more c.args.run c.args.asking c.in-Some.p (sym c.in-Some.ensures) c.args.entries.now _ _ _ (grind arith)
    (grind arith) (grind arith) (grind arith) c.lay.ensures c.after_reply.ensures
