use Rattle.coverage.specs.Table.{rows_in}
use Rattle.covered_report.proofs.Laws.{head_under}
use Rattle.covered_report.proofs.under.Goals as goal

pub returns : goal.returns
returns c = λ f d. head_under (rows_in c.args.table.now) c.args.h f _ c.crosses.ensures d
