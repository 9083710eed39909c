-- `lay_slopes` meets its contract: the first `i` slopes are laid over the slice, and the drops after them are still there. Assumes nothing.
use Rattle.std.proofs.Common.{ℕ, ◌+◌, ◌<◌, ◌≡◌, List, map, length, get_or, set, take, arith, ap, sym, ◌∙◌, unwrap_or, None}
use Rattle.std.proofs.Math.ListN.{length-map, length-set, length-take}
use Rattle.std.specs.Prelude.{Float}
use Rattle.std.specs.Float.{nan}
use Rattle.numeric.specs.Numeric.{zero64}
use Rattle.definition.specs.Run.{Entry, drop_or0}
use Rattle.definition.specs.Likelihood.{slope, slopes}
use Rattle.slices.specs.Slices.{laid_over}
use Rattle.likelihood.proofs.Laws.{laid_suc, drop_at, over_all, over_past, zip_at, zip_length}
use Rattle.likelihood.proofs.lay_slopes.Goals as goal

module _ (step : Float) (es : List Entry) (out : List Float) where
  abbrev all : List Float
  all = slopes step out (map drop_or0 es)

  one_more : (i : ℕ) (x : Float) → i < length es → i < length out
      → x ≡ slope step (get_or (laid_over (take i all) out) i nan) (unwrap_or (get_or es i None) zero64)
      → set (laid_over (take i all) out) i x ≡ laid_over (take (i + 1) all) out
  one_more i x g h e =
      let n = length-map es drop_or0 in
      let f = zip_length (slope step) out (map drop_or0 es) in
      let t = length-take i all in
      laid_suc all out i x (omega arith) h
      (e
      ∙ ap (λ (y : Float). slope step y (unwrap_or (get_or es i None) zero64)) (over_past (take i all) out i nan (omega arith))
      ∙ ap (λ (y : Float). slope step (get_or out i nan) y) (drop_at es i)
      ∙ sym (zip_at (slope step) out (map drop_or0 es) i zero64 nan zero64 h (omega arith)))

pub loop-i-preserved : goal.loop-i-preserved
loop-i-preserved c =
    let v = c.loop-i.invariant in
    let a = c.args in
    let e = ap (λ (l : List Float). slope a.step (get_or l c.loop-i.i nan) c.unwrap_or.result) v.laid in
    record {
      same_length = length-set c.loop-i.out c.loop-i.i c.slope_of.result ∙ v.same_length;
      laid =
          rw v.laid (one_more a.step a.entries.now a.out.now c.loop-i.i c.slope_of.result (omega arith) (omega arith)
          (c.slope_of.ensures ∙ e ∙ ap (λ (x : Float). slope a.step (get_or (laid_over (take c.loop-i.i (all a.step a.entries.now a.out.now)) a.out.now) c.loop-i.i nan) x) c.unwrap_or.ensures));
    }

pub returns : goal.returns
returns c =
    let es = c.args.entries.now in
    let n = length-map es drop_or0 in
    let f = zip_length (slope c.args.step) c.args.out.now (map drop_or0 es) in
    c.loop-i.invariant.laid ∙ over_all (slopes c.args.step c.args.out.now (map drop_or0 es)) c.args.out.now c.loop-i.i (omega arith)
