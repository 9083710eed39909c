use Rattle.report_text.proofs.Putting.{lent}
use Rattle.std.proofs.Common.{rules}
use Rattle.report_text.proofs.write.Goals as goal

pub returns : goal.returns
returns g c = lent c.new-w.result c.put.new.w c.put.ensures c.new-w.ensures.same_reference c.new-w.ensures.same_bytes c.new-w.ensures.begun (search rules) c.at.ensures
