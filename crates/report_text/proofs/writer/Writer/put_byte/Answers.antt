use Rattle.report_text.specs.Writer.{held}
use Rattle.report_text.proofs.Writing.{byte_in}
use Rattle.report_text.proofs.Putting.{by_record, byte_full}
use Rattle.std.proofs.Common.{refl, arith}
use Rattle.report_text.proofs.writer.Writer.put_byte.Goals as goal

pub returns-then-self : goal.returns-then-self
unfolding held
returns-then-self c = by_record _ _ _ refl (byte_in _ _ _ (omega arith))

pub returns-else-self : goal.returns-else-self
unfolding held
returns-else-self c = by_record _ _ _ refl (byte_full _ _ _ c.if-self.false c.args.self.now.within)
