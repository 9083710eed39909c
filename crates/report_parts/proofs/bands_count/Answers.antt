-- `bands_count`: the arrays have 64 places.
use borrow.Author.Rules.{rules}
use Rattle.report_parts.proofs.Laws.{counts_bands}
use Rattle.report_parts.proofs.bands_count.Goals as goal

pub returns : goal.returns
returns c = counts_bands c.args.wanted c.args.table (search rules) (search rules) (search rules) (search rules)
