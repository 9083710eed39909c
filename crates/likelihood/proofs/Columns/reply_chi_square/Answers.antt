-- `reply_chi_square` meets its contract: the sum is that of the first `i` observations. Assumes nothing.
use Rattle.std.proofs.Common.{ℕ, suc, ◌<◌, ◌≡◌, List, Option, None, length, get_or, take, map, sym, ap, arith, add-one, ◌∙◌}
use Rattle.std.specs.Prelude.{Float, unwrap_or}
use Rattle.std.specs.Float.{nan}
use Rattle.std.proofs.Math.ListN.{length-map}
use Rattle.numeric.specs.Numeric.{zero64}
use Rattle.definition.specs.Lists.{fold_pairs}
use Rattle.definition.specs.Request.{Observation}
use Rattle.definition.specs.Run.{drop_or0}
use Rattle.definition.specs.Likelihood.{with_shot, chi_square_of}
use Rattle.definition.specs.Meaning.{observation_of, observations_of}
use Rattle.likelihood.proofs.Laws.{fold_suc, fold_all, zip3_at, zip3_within, drop_at}
use Rattle.likelihood.proofs.Columns.reply_chi_square.Goals as goal

module _ (rs ds ss : List Float) (es : List (Option Float)) (i : ℕ) where
  abbrev up_to : ℕ → Float
  up_to k = fold_pairs with_shot zero64 (take k (observations_of rs ds ss)) (take k (map drop_or0 es))

  one_more : i < length (observations_of rs ds ss) → i < length es → (x : Float) → x ≡ unwrap_or (get_or es i None) zero64
      → with_shot (up_to i) (observation_of (get_or rs i nan) (get_or ds i nan) (get_or ss i nan)) x ≡ up_to (suc i)
  one_more g h x e =
      let w = zip3_within observation_of rs ds ss in
      let q = observation_of nan nan nan in
      let l = length-map es drop_or0 in
      ap (with_shot (up_to i) (observation_of (get_or rs i nan) (get_or ds i nan) (get_or ss i nan))) (e ∙ drop_at es i)
      ∙ sym (fold_suc with_shot zero64 (observations_of rs ds ss) (map drop_or0 es) i q zero64 g (omega arith)
      ∙ ap (λ (o : Observation). with_shot (up_to i) o (get_or (map drop_or0 es) i zero64))
      (zip3_at observation_of rs ds ss i q nan nan nan (omega arith) (omega arith) (omega arith)))

pub loop-i-preserved : goal.loop-i-preserved
loop-i-preserved c =
    let s = c.args.self in
    let l = c.len.ensures.len in
    rw (add-one, c.loop-i.invariant)
    (one_more s.ranges.now s.drops.now s.sigmas.now c.args.entries.now c.loop-i.i (omega arith) (omega arith) c.unwrap_or-predicted.result
    c.unwrap_or-predicted.ensures)

pub returns : goal.returns
unfolding chi_square_of
returns c =
    let s = c.args.self in
    let l = c.len.ensures.len in
    let n = length-map c.args.entries.now drop_or0 in
    c.loop-i.invariant
    ∙ fold_all with_shot zero64 (observations_of s.ranges.now s.drops.now s.sigmas.now) (map drop_or0 c.args.entries.now) c.loop-i.i (omega arith)
