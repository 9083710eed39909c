-- `root::root_bits` meets its contract. Assumes nothing.
use native.Mathlib.Omega.{arith}
use Rattle.root.proofs.Definition.{pattern_root}
use Rattle.root.proofs.root_bits.Goals as goal

pub returns-clause-root : goal.returns-clause-root
returns-clause-root c =
    let s = c.scaled-s in
    pattern_root c.args.b s.result.m s.result.e c.significand.result (omega arith) (omega arith) s.ensures c.significand.ensures
