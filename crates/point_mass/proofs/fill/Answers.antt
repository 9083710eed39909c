-- `fill` meets its contract: the first `i` entries are laid over the list. Assumes nothing.
use Rattle.std.proofs.Common.{arith, ◌∙◌, add-one}
use Rattle.std.proofs.Math.ListN.{length-map, length-set, get_or-map}
use Rattle.std.specs.Float.{nan}
use Rattle.definition.specs.Run as run
use Rattle.point_mass.specs.Flight.{entry_at, entries_at}
use Rattle.likelihood.proofs.Laws.{over_suc, over_all}
use Rattle.point_mass.proofs.fill.Goals as goal

pub loop-i-preserved : goal.loop-i-preserved
loop-i-preserved c =
    let f = entry_at c.args.p c.args.unit in
    let yards = c.args.distances.now in
    let i = c.loop-i.i in
    record {
      same_length = length-set c.loop-i.entries i c.drop_at.result ∙ c.loop-i.invariant.same_length;
      laid = rw (c.loop-i.invariant.laid, c.drop_at.ensures, ← get_or-map f yards i nan, add-one)
          (over_suc (entries_at c.args.p c.args.unit yards) c.args.entries.now i (f nan)
          (omega (arith, length-map yards f, c.loop-i-test.true, c.min-n.ensures))
          (omega (arith, c.loop-i-test.true, c.min-n.ensures)));
    }

pub returns : goal.returns
returns c = record {
  entries = c.loop-i.invariant.laid
      ∙ over_all (entries_at c.args.p c.args.unit c.args.distances.now) c.args.entries.now c.loop-i.i
      (omega (arith, length-map c.args.distances.now (entry_at c.args.p c.args.unit), c.loop-i-test.false, c.min-n.ensures));
}
