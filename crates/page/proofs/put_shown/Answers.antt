-- `page::put_shown` meets its contract: its parts one after another. Assumes nothing.
use Rattle.coverage.specs.Table.{rows_in}
use Rattle.editing.specs.Meaning.{state}
use Rattle.page.proofs.Laws.{shown_put}
use Rattle.page.proofs.put_shown.Goals as goal

pub returns : goal.returns
returns c =
    rw (
      c.put_warnings.ensures,
      c.put_each-2.ensures,
      c.put_each.ensures,
      c.put_head.ensures,
      shown_put (rows_in c.args.table.now) (state c.args.s.now) c.args.h,
    )
