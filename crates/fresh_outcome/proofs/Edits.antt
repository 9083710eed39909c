-- An edit of a finished run comes to what a fresh whole run with the edited list comes to: `edit_fresh`, `take_out_fresh`, `list_kept`. Assumes nothing.
use Prim.Native.Nat.{ℕ, zero, suc, ◌-◌, ◌+◌, ◌≤◌, ◌<◌}
use mathlib.Core.Path.{◌≡◌, refl, sym, ap, ◌∙◌}
use mathlib.Core.Bool.{Bool, true, false, cond, not, ◌&&◌}
use mathlib.Core.List.{List, [], ◌∷◌, map}
use native.Mathlib.Omega.{arith}
use borrow.Author.Tests.{leb-true, ltb-true, ltb-false, le-leb, lt-leb}
use lib.Dec.{leb, ltb}
use lib.ListN.{length, set, length-set, length-map}
use lib.Seq.{map-set}
use lib.Ieee.{Float}
use Rattle.definition.specs.Lists.{next, first_at, insert_at, remove_at}
use Rattle.definition.specs.Request.{Requested, Opening}
use Rattle.definition.specs.Run.{done, bind, new, require}
use Rattle.definition.specs.Host.{ends, refuses, play}
use Rattle.definition.specs.Likelihood.{Rows, truing_jacobian_rows}
use Rattle.definition.specs.Summary.{Finished}
use Rattle.definition.specs.Whole.{sound_requested_of, faulty_requested, no_rows, Edit, put_in, take_out, exchange, edited, placed, edited_rows, renewed}
use Rattle.definition.specs.Whole.{unless_missing, edit_questions, edit}
use Rattle.definition.specs.declared.Point.{Point}
use Rattle.fresh_outcome.specs.Solver.{Solver, distances_of, host_of, with_list, fresh, EditFresh, TakeOutFresh, ListKept}
use Rattle.fresh_outcome.proofs.Lists.{insert_hit, insert_miss, set_hit, set_miss, remove_miss, map_insert, map_remove, insert_length}
use Rattle.fresh_outcome.proofs.Lists.{remove_shorter}
use Rattle.fresh_outcome.proofs.Rows.{drop_at, mv_slope_at, bc_slope_at, lacks, rows_with, rows_over, five}
use Rattle.fresh_outcome.proofs.Runs.{play_then, finished_at, closing, gap_at, Came, came, again, again_faulty, again_long}

abbrev range_of : Requested → Float
range_of d = d.range_yd

-- ---- maps over the distances of an edited list

module _ (g : Float → Float) where
  over_insert : (d : Requested) (l : List Requested) (j : ℕ) → map g (distances_of (insert_at j d l)) ≡ insert_at j (g d.range_yd) (map g (distances_of l))
  over_insert d l j = ap (map g) (map_insert range_of d l j) ∙ map_insert g d.range_yd (distances_of l) j

  over_set : (d : Requested) (l : List Requested) (j : ℕ) → map g (distances_of (set l j d)) ≡ set (map g (distances_of l)) j (g d.range_yd)
  over_set d l j = ap (map g) (map-set range_of l j d) ∙ map-set g (distances_of l) j d.range_yd

  over_remove : (l : List Requested) (j : ℕ) → map g (distances_of (remove_at j l)) ≡ remove_at j (map g (distances_of l))
  over_remove l j = ap (map g) (map_remove range_of l j) ∙ map_remove g (distances_of l) j

-- ---- an edit that asks about a new distance d: e makes of l the list k, with d at the place

record Asks (σ : Solver) (p : Point) (e : Edit) (place : ℕ) (d : Requested) (l k : List Requested) (j : ℕ) : Type 0 where
  pub at : place ≡ suc j
  pub room : leb (length k) 64 ≡ true
  pub edits : edited e l ≡ k
  pub faulty : sound_requested_of d ≡ false → first_at faulty_requested k ≡ suc j
  pub sound : sound_requested_of d ≡ true → first_at faulty_requested k ≡ 0
  pub gap : lacks σ p d.range_yd ≡ true → gap_at σ p k ≡ suc j
  pub whole : lacks σ p d.range_yd ≡ false → gap_at σ p k ≡ 0
  pub rows : edited_rows e (rows_over σ p (d.range_yd ∷ [])) (rows_with σ p (distances_of l) 0) ≡ rows_with σ p (distances_of k) 0

asks : (σ : Solver) (o : Opening) (l : List Requested) (c : Finished) (w : Came σ o l c) (e : Edit) (place : ℕ) (d : Requested) (k : List Requested) (j : ℕ)
    → Asks σ w.fit.point e place d l k j
    → play (host_of σ (with_list o l)) (bind (require (sound_requested_of d) 7 place) (λ u. edit_questions c e place d)) ≡ fresh σ o k
unfolding edit_questions
asks σ o l c w e place d k j a = by_test (sound_requested_of d) refl
  where
    one : Rows
    one = rows_over σ w.fit.point (d.range_yd ∷ [])

    before : Finished
    before = finished_at σ o l w.fit w.rows

    after : Finished
    after = finished_at σ o k w.fit w.rows

    same : after ≡ renewed before e one
    same = λ i. record {
      measured = after.measured;
      fit = after.fit;
      evaluation = after.evaluation;
      predicted = after.predicted;
      requested = sym a.edits i;
      band_rows = sym a.rows i;
      baseline = after.baseline;
    }

    by_row : (t : Bool) → lacks σ w.fit.point d.range_yd ≡ t → first_at faulty_requested k ≡ 0
        → play (host_of σ (with_list o l)) (bind (unless_missing (cond t 1 (next zero)) place) (λ u. done (renewed before e one))) ≡ fresh σ o k
    by_row true t z = ap (refuses 13) a.at ∙ sym (again σ o l c w k a.room z ∙ ap (λ (n : ℕ). closing n after) (a.gap t))
    by_row false t z = sym (again σ o l c w k a.room z ∙ ap (λ (n : ℕ). closing n after) (a.whole t) ∙ ap (λ (f : Finished). ends f) same)

    by_test : (t : Bool) → sound_requested_of d ≡ t → play (host_of σ (with_list o l)) (bind (require t 7 place) (λ u. edit_questions c e place d)) ≡ fresh σ o k
    by_test true t =
        ap (λ (x : Finished). play (host_of σ (with_list o l)) (edit_questions x e place d)) w.is
        ∙ play_then (host_of σ (with_list o l)) (truing_jacobian_rows w.fit.point (new d.range_yd))
        (λ one. bind (unless_missing one.gap place) (λ u. done (renewed before e one))) one
        (five σ (host_of σ (with_list o l)) (new d.range_yd) (d.range_yd ∷ []) (λ q. refl) w.fit.point w.served)
        ∙ by_row (lacks σ w.fit.point d.range_yd) refl (a.sound t)
    by_test false t = ap (refuses 7) a.at ∙ sym (again_faulty σ o l c w k j a.room (a.faulty t))

module _ (σ : Solver) (p : Point) (i : ℕ) (d : Requested) (l : List Requested) (ok : first_at faulty_requested l ≡ 0) (hits : gap_at σ p l ≡ 0) (lo : 1 ≤ i) where
  put_asks : i ≤ length l + 1 → length l < 64 → Asks σ p (put_in i d) i d l (insert_at (i - 1) d l) (i - 1)
  put_asks hi short =
      let j = i - 1 in
      let ds = distances_of l in
      let len : length ds ≡ length l = length-map l range_of in
      record {
        at = omega arith;
        room = le-leb (length (insert_at j d l)) 64 (omega (arith, insert_length d l j));
        edits = refl;
        faulty = λ b. insert_hit faulty_requested d l j (omega arith) ok (ap not b);
        sound = λ b. insert_miss faulty_requested d l j ok (ap not b);
        gap = λ b. ap (first_at (lacks σ p)) (map_insert range_of d l j) ∙ insert_hit (lacks σ p) d.range_yd ds j (omega arith) hits b;
        whole = λ b. ap (first_at (lacks σ p)) (map_insert range_of d l j) ∙ insert_miss (lacks σ p) d.range_yd ds j hits b;
        rows = λ t. record {
          predicted = sym (over_insert (drop_at σ p) d l j) t;
          by_mv = sym (over_insert (mv_slope_at σ p) d l j) t;
          by_bc = sym (over_insert (bc_slope_at σ p) d l j) t;
          gap = 0;
        };
      }

  exchange_asks : i ≤ length l → length l ≤ 64 → Asks σ p (exchange i d) i d l (set l (i - 1) d) (i - 1)
  exchange_asks hi short =
      let j = i - 1 in
      let ds = distances_of l in
      let len : length ds ≡ length l = length-map l range_of in
      record {
        at = omega arith;
        room = le-leb (length (set l j d)) 64 (omega (arith, length-set l j d));
        edits = refl;
        faulty = λ b. set_hit faulty_requested d l j (omega arith) ok (ap not b);
        sound = λ b. set_miss faulty_requested d l j ok (ap not b);
        gap = λ b. ap (first_at (lacks σ p)) (map-set range_of l j d) ∙ set_hit (lacks σ p) d.range_yd ds j (omega arith) hits b;
        whole = λ b. ap (first_at (lacks σ p)) (map-set range_of l j d) ∙ set_miss (lacks σ p) d.range_yd ds j hits b;
        rows = λ t. record {
          predicted = sym (over_set (drop_at σ p) d l j) t;
          by_mv = sym (over_set (mv_slope_at σ p) d l j) t;
          by_bc = sym (over_set (bc_slope_at σ p) d l j) t;
          gap = 0;
        };
      }

and_true : (a b : Bool) → (a && b) ≡ true → (a ≡ true) × (b ≡ true)
and_true true b e = (refl, e)
and_true false b e = absurd (grind arith)

-- ---- the theorems

pub list_kept : ListKept
list_kept σ o l c e =
    let w = came σ o l c e in
    (ap (λ (x : Finished). x.requested) w.is, ap (λ (x : Finished). x.measured) w.is)

module _ (σ : Solver) (o : Opening) (l : List Requested) (c : Finished) (w : Came σ o l c) where
  put_fresh : (i : ℕ) (d : Requested) → placed (put_in i d) (length l) ≡ true
      → play (host_of σ (with_list o l)) (edit c (put_in i d)) ≡ fresh σ o (insert_at (i - 1) d l)
  unfolding edit
  put_fresh i d p = by_room (ltb (length c.requested) 64) refl
    where
      same : length c.requested ≡ length l
      same = ap (λ (x : Finished). length x.requested) w.is

      inside : (leb 1 i ≡ true) × (leb i (length l + 1) ≡ true)
      inside = and_true (leb 1 i) (leb i (length l + 1)) p

      by_room : (t : Bool) → ltb (length c.requested) 64 ≡ t
          → play (host_of σ (with_list o l)) (bind (require t 6 0) (λ u. bind (require (sound_requested_of d) 7 i) (λ v. edit_questions c (put_in i d) i d)))
          ≡ fresh σ o (insert_at (i - 1) d l)
      by_room true t =
          asks σ o l c w (put_in i d) i d (insert_at (i - 1) d l) (i - 1)
          (put_asks σ w.fit.point i d l w.sound w.whole (leb-true 1 i inside.0) (leb-true i (length l + 1) inside.1)
          (omega (arith, ltb-true (length c.requested) 64 t, same)))
      by_room false t =
          sym (again_long σ o l c w (insert_at (i - 1) d l)
          (lt-leb (length (insert_at (i - 1) d l)) 64 (omega (arith, insert_length d l (i - 1), ltb-false (length c.requested) 64 t, same))))

  exchange_fresh : (i : ℕ) (d : Requested) → placed (exchange i d) (length l) ≡ true
      → play (host_of σ (with_list o l)) (edit c (exchange i d)) ≡ fresh σ o (set l (i - 1) d)
  unfolding edit
  exchange_fresh i d p =
      let inside = and_true (leb 1 i) (leb i (length l)) p in
      asks σ o l c w (exchange i d) i d (set l (i - 1) d) (i - 1)
      (exchange_asks σ w.fit.point i d l w.sound w.whole (leb-true 1 i inside.0) (leb-true i (length l) inside.1)
      (leb-true (length l) 64 w.room))

  taken : (i : ℕ) → fresh σ o (remove_at (i - 1) l) ≡ ends (renewed c (take_out i) no_rows)
  taken i =
      let j = i - 1 in
      let k = remove_at j l in
      let q = w.fit.point in
      let whole : gap_at σ q k ≡ 0 = ap (first_at (lacks σ q)) (map_remove range_of l j) ∙ remove_miss (lacks σ q) (distances_of l) j w.whole in
      let after = finished_at σ o k w.fit w.rows in
      let same : after ≡ renewed (finished_at σ o l w.fit w.rows) (take_out i) no_rows = λ t. record {
        measured = after.measured;
        fit = after.fit;
        evaluation = after.evaluation;
        predicted = after.predicted;
        requested = k;
        band_rows =
            record
            { predicted = over_remove (drop_at σ q) l j t; by_mv = over_remove (mv_slope_at σ q) l j t; by_bc = over_remove (bc_slope_at σ q) l j t; gap = 0 };
        baseline = after.baseline;
      } in
      again σ o l c w k (le-leb (length k) 64 (omega (arith, remove_shorter l j, leb-true (length l) 64 w.room)))
      (remove_miss faulty_requested l j w.sound)
      ∙ ap (λ (n : ℕ). closing n after) whole
      ∙ ap (λ (x : Finished). ends x) same
      ∙ ap (λ (x : Finished). ends (renewed x (take_out i) no_rows)) (sym w.is)

pub edit_fresh : EditFresh
unfolding edit
edit_fresh σ o l c (put_in i d) e p = put_fresh σ o l c (came σ o l c e) i d p
edit_fresh σ o l c (take_out i) e p = sym (taken σ o l c (came σ o l c e) i)
edit_fresh σ o l c (exchange i d) e p = exchange_fresh σ o l c (came σ o l c e) i d p

pub take_out_fresh : TakeOutFresh
take_out_fresh σ o l c i e p = (renewed c (take_out i) no_rows, taken σ o l c (came σ o l c e) i)
