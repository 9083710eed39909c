-- `lines`: three, one for each observation and each band, and those of the warnings.
use mathlib.Core.Path.{sym}
use native.Mathlib.Omega.{arith}
use Rattle.page.proofs.Laws.{counts_within, lines_are, no_lines}
use Rattle.page.proofs.lines.Goals as goal

pub overflow_add-result : goal.overflow_add-result
overflow_add-result c = let k = counts_within c.args.table.now c.args.s c.report.ensures c.in-Some.is in omega (arith, k.0)

pub overflow_add-result-in-Some : goal.overflow_add-result-in-Some
overflow_add-result-in-Some c = let k = counts_within c.args.table.now c.args.s c.report.ensures c.in-Some.is in omega (arith, k.0, k.1)

pub overflow_add-result-in-Some-2 : goal.overflow_add-result-in-Some-2
overflow_add-result-in-Some-2 c =
    let k = counts_within c.args.table.now c.args.s c.report.ensures c.in-Some.is in
    omega (arith, k.0, k.1, k.2, c.warnings.ensures)

pub returns-in-None : goal.returns-in-None
returns-in-None c = sym (no_lines c.args.table.now c.args.s c.report.ensures c.in-None.is)

pub returns-in-Some : goal.returns-in-Some
returns-in-Some c = omega (arith, lines_are c.args.table.now c.args.s c.report.ensures c.in-Some.is, c.warnings.ensures)
