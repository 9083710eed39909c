use Rattle.std.proofs.Common.{◌<◌, arith}
use lib.ListN.{length-set}
use Rattle.fixed_list.proofs.Places.{blank_behind}
use Rattle.fixed_list.proofs.FixedList.try_push.Goals as goal

pub invariant_of-self : goal.invariant_of-self
invariant_of-self g c =
    let h : c.self.inside.len < g.row.N = omega (arith, c.self.invariant.0, c.if-self.false) in
    (omega (arith, h), rw length-set c.self.invariant.1, blank_behind c.args.item c.self.inside.cells g.T.Blank.blank c.self.inside.len g.row.N h c.self.invariant.1 c.self.invariant.2)
