-- `page::put_page` meets its contract. Assumes nothing.
use Rattle.std.proofs.Common.{rules}
use Rattle.report_text.proofs.Putting.{lent}
use Rattle.page.proofs.put_page.Goals as goal

pub returns : goal.returns
returns c =
    lent c.new-w.result c.write_page.new.w c.write_page.ensures c.new-w.ensures.same_reference c.new-w.ensures.same_bytes c.new-w.ensures.begun
    (search rules)
    c.at.ensures
