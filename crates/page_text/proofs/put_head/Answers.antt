-- `page_text::put_head` meets its contract. Assumes nothing.
use Rattle.coverage.specs.Table.{rows_in}
use Rattle.report_text.specs.Writer.{held}
use Rattle.page_text.specs.Page.{speed_line, coefficient_line, chi_square_line}
use Rattle.page_text.proofs.Laws.{head_put}
use Rattle.page_text.proofs.put_head.Goals as goal

pub returns : goal.returns
unfolding speed_line coefficient_line chi_square_line
returns c = cc (head_put (rows_in c.args.table.now) c.args.h (held c.args.w.now))
