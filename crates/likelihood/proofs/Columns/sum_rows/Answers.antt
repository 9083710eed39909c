-- `sum_rows` meets its contract: the sums are those of the first `i` observations and rows. Assumes nothing.
use Rattle.std.proofs.Common.{ℕ, suc, ◌<◌, ◌≡◌, List, length, get_or, take, sym, ap, arith, add-one, ◌∙◌}
use Rattle.std.specs.Prelude.{Float}
use Rattle.std.specs.Float.{nan}
use Rattle.definition.specs.Lists.{fold_pairs, zip_with3}
use Rattle.definition.specs.Request.{Observation}
use Rattle.definition.specs.Likelihood.{row_of, no_sums, with_row, sums_of}
use Rattle.definition.specs.Meaning.{observation_of, observations_of}
use Rattle.definition.specs.declared.Point.{Point}
use Rattle.definition.specs.declared.Row.{Row}
use Rattle.definition.specs.declared.Sums.{Sums}
use Rattle.likelihood.proofs.Laws.{fold_suc, fold_all, zip3_at, zip3_within}
use Rattle.likelihood.proofs.Columns.sum_rows.Goals as goal

module _ (p : Point) (rs ds ss ps ms bs : List Float) (i : ℕ) where
  abbrev up_to : ℕ → Sums
  up_to k = fold_pairs (with_row p) no_sums (take k (observations_of rs ds ss)) (take k (zip_with3 row_of ps ms bs))

  one_more : i < length (observations_of rs ds ss) → i < length (zip_with3 row_of ps ms bs)
      → with_row p (up_to i) (observation_of (get_or rs i nan) (get_or ds i nan) (get_or ss i nan)) (row_of (get_or ps i nan) (get_or ms i nan) (get_or bs i nan))
      ≡ up_to (suc i)
  one_more g h =
      let w = zip3_within observation_of rs ds ss in
      let x = zip3_within row_of ps ms bs in
      let q = observation_of nan nan nan in
      let r = row_of nan nan nan in
      let row = get_or (zip_with3 row_of ps ms bs) i r in
      let shot = observation_of (get_or rs i nan) (get_or ds i nan) (get_or ss i nan) in
      sym (fold_suc (with_row p) no_sums (observations_of rs ds ss) (zip_with3 row_of ps ms bs) i q r g h
      ∙ ap (λ (o : Observation). with_row p (up_to i) o row) (zip3_at observation_of rs ds ss i q nan nan nan (omega arith) (omega arith) (omega arith))
      ∙ ap (λ (o : Row). with_row p (up_to i) shot o) (zip3_at row_of ps ms bs i r nan nan nan (omega arith) (omega arith) (omega arith)))

pub loop-i-preserved : goal.loop-i-preserved
loop-i-preserved c =
    let s = c.args.self in
    let t = c.args.rows in
    let l = c.len.ensures.len in
    let m = c.len-2.ensures.len in
    rw (c.accumulate-sums.ensures, add-one, c.loop-i.invariant)
    (one_more c.args.p s.ranges.now s.drops.now s.sigmas.now t.predicted.now t.by_mv.now t.by_bc.now c.loop-i.i (omega arith) (omega arith))

pub returns : goal.returns
unfolding sums_of
returns c =
    let s = c.args.self in
    let t = c.args.rows in
    let l = c.len.ensures.len in
    let m = c.len-2.ensures.len in
    c.loop-i.invariant
    ∙ fold_all (with_row c.args.p) no_sums (observations_of s.ranges.now s.drops.now s.sigmas.now)
    (zip_with3 row_of t.predicted.now t.by_mv.now t.by_bc.now) c.loop-i.i (omega arith)
