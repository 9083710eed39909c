-- `lay_drops` meets its contract: the first `i` drops are laid over the slice. Assumes nothing.
use Rattle.std.proofs.Common.{map, arith, ◌∙◌}
use Rattle.std.proofs.Math.ListN.{length-map, length-set}
use Rattle.definition.specs.Run.{drop_or0}
use Rattle.likelihood.proofs.Laws.{laid_suc, drop_at, over_all}
use Rattle.likelihood.proofs.lay_drops.Goals as goal

pub loop-i-preserved : goal.loop-i-preserved
loop-i-preserved c =
    let v = c.loop-i.invariant in
    let es = c.args.entries.now in
    let n = length-map es drop_or0 in
    record {
      same_length = length-set c.loop-i.out c.loop-i.i c.unwrap_or.result ∙ v.same_length;
      laid =
          rw v.laid (laid_suc (map drop_or0 es) c.args.out.now c.loop-i.i c.unwrap_or.result (omega arith) (omega arith)
          (c.unwrap_or.ensures ∙ drop_at es c.loop-i.i));
    }

pub returns : goal.returns
returns c =
    let es = c.args.entries.now in
    let n = length-map es drop_or0 in
    c.loop-i.invariant.laid ∙ over_all (map drop_or0 es) c.args.out.now c.loop-i.i (omega arith)
