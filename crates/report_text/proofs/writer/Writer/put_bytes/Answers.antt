use Rattle.report_text.specs.Writer.{held}
use Rattle.report_text.proofs.Putting.{by_record, part_in}
use Rattle.std.proofs.Common.{refl}
use Rattle.report_text.proofs.writer.Writer.put_bytes.Goals as goal

pub returns : goal.returns
unfolding held
returns c = by_record _ _ _ refl (part_in _ _ _ _ _ c.min-n.ensures c.args.self.now.within c.copy_from_slice.ensures.after)
