-- The five questions over plain values: the rows with one reply more, and what is left of the run then. Assumes nothing.
use Rattle.std.proofs.Common.{ℕ, zero, suc, ◌≤◌, ◌≡◌, refl, ap, ◌∙◌, List, [], ◌∷◌, map, length, take, Option, None, Some, arith}
use Rattle.std.proofs.Math.ListN.{length-map}
use Rattle.std.specs.Prelude.{Float}
use Rattle.definition.specs.Run.{Run, done, refuse, ask, bind, unless, answered, Entry, reading_of, drop_or0, Which}
use Rattle.definition.specs.Likelihood as likelihood
use Rattle.definition.specs.Likelihood.{Rows}
use Rattle.definition.specs.declared.Point.{Point}
use Rattle.slices.specs.Slices.{laid_over}
use Rattle.likelihood.proofs.Laws.{over_take, over_zip}
use Rattle.stencil.specs.Stencil.{stencil, stencil_next, point_at, next_of, after_reply, rows_next, laid_rows}
use Rattle.stencil.specs.declared.StencilPoint.{StencilPoint}
use Rattle.stencil.specs.declared.StencilPoint.TheVariants.{Nominal, MvPlus, MvMinus, BcPlus, BcMinus}

-- ---- the rows with a reply of n entries

-- the first n places of each
abbrev pub take_rows : ℕ → Rows → Rows
take_rows n r = record { predicted = take n r.predicted; by_mv = take n r.by_mv; by_bc = take n r.by_bc; gap = r.gap }

pub drops_length : (es : List Entry) → length (map drop_or0 es) ≡ length es
drops_length es = length-map es drop_or0

module _ (es : List Entry) where
  -- a reply's drops, laid over a list with a place for each, are its first places
  pub laid : (a : List Float) → length es ≤ length a → take (length es) (laid_over (map drop_or0 es) a) ≡ (reading_of es).drops
  laid a l = over_take (map drop_or0 es) a (length es) (drops_length es) l

  sloped : (step : Float) (a : List Float) → length es ≤ length a
      → take (length es) (laid_over (likelihood.slopes step a (map drop_or0 es)) a) ≡ likelihood.slopes step (take (length es) a) (reading_of es).drops
  sloped step a l = over_zip (likelihood.slope step) a (map drop_or0 es) (length es) (drops_length es) l

  pub rows_laid : (k : StencilPoint) (p : Point) (r : Rows) → length es ≤ length r.predicted → length es ≤ length r.by_mv → length es ≤ length r.by_bc
      → take_rows (length es) (laid_rows k p es r) ≡ rows_next k p (take_rows (length es) r) (reading_of es)
  rows_laid Nominal p r x y z =
      ap (λ (l : List Float). rows_next Nominal p (take_rows (length es) r) (record { drops = l; gap = (reading_of es).gap })) (laid r.predicted x)
  rows_laid MvPlus p r x y z =
      ap (λ (l : List Float). rows_next MvPlus p (take_rows (length es) r) (record { drops = l; gap = (reading_of es).gap })) (laid r.by_mv y)
  rows_laid MvMinus p r x y z = λ i. record {
    predicted = take (length es) r.predicted;
    by_mv = sloped (likelihood.mv_step_of p.mv) r.by_mv y i;
    by_bc = take (length es) r.by_bc;
    gap = (rows_next MvMinus p r (reading_of es)).gap;
  }
  rows_laid BcPlus p r x y z =
      ap (λ (l : List Float). rows_next BcPlus p (take_rows (length es) r) (record { drops = l; gap = (reading_of es).gap })) (laid r.by_bc z)
  rows_laid BcMinus p r x y z = λ i. record {
    predicted = take (length es) r.predicted;
    by_mv = take (length es) r.by_mv;
    by_bc = sloped (likelihood.bc_step_of p.bc) r.by_bc z i;
    gap = (rows_next BcMinus p r (reading_of es)).gap;
  }

laid_one : (d : Float) (l : List Float) → length l ≡ 1 → laid_over (d ∷ []) l ≡ d ∷ []
laid_one d [] e = absurd (omega arith)
laid_one d (x ∷ []) e = refl
laid_one d (x ∷ y ∷ l) e = absurd (omega arith)

sloped_one : (step d : Float) (l : List Float) → length l ≡ 1 → laid_over (likelihood.slopes step l (d ∷ [])) l ≡ likelihood.slopes step l (d ∷ [])
sloped_one step d [] e = absurd (omega arith)
sloped_one step d (x ∷ []) e = refl
sloped_one step d (x ∷ y ∷ l) e = absurd (omega arith)

-- a reply of one entry, laid over the row of one distance, is read
pub one_next : (k : StencilPoint) (p : Point) (es : List Entry) → length es ≡ 1 → (r : Rows) → length r.predicted ≡ 1 → length r.by_mv ≡ 1 → length r.by_bc ≡ 1
    → laid_rows k p es r ≡ rows_next k p r (reading_of es)
one_next k p [] n r x y z = absurd (omega arith)
one_next k p (e ∷ f ∷ es) n r x y z = absurd (omega arith)
one_next Nominal p (e ∷ []) n r x y z =
    ap (λ (l : List Float). rows_next Nominal p r (record { drops = l; gap = (reading_of (e ∷ [])).gap })) (laid_one (drop_or0 e) r.predicted x)
one_next MvPlus p (e ∷ []) n r x y z =
    ap (λ (l : List Float). rows_next MvPlus p r (record { drops = l; gap = (reading_of (e ∷ [])).gap })) (laid_one (drop_or0 e) r.by_mv y)
one_next MvMinus p (e ∷ []) n r x y z = λ i. record {
  predicted = r.predicted;
  by_mv = sloped_one (likelihood.mv_step_of p.mv) (drop_or0 e) r.by_mv y i;
  by_bc = r.by_bc;
  gap = (rows_next MvMinus p r (reading_of (e ∷ []))).gap;
}
one_next BcPlus p (e ∷ []) n r x y z =
    ap (λ (l : List Float). rows_next BcPlus p r (record { drops = l; gap = (reading_of (e ∷ [])).gap })) (laid_one (drop_or0 e) r.by_bc z)
one_next BcMinus p (e ∷ []) n r x y z = λ i. record {
  predicted = r.predicted;
  by_mv = r.by_mv;
  by_bc = sloped_one (likelihood.bc_step_of p.bc) (drop_or0 e) r.by_bc z i;
  gap = (rows_next BcMinus p r (reading_of (e ∷ []))).gap;
}

-- ---- one reply more of the five

pub stencil_asks : (k : StencilPoint) (p : Point) (w : Which) (r : Rows)
    → stencil k p w r ≡ ask (point_at k p) w (λ reply. bind (answered reply) (λ d. stencil_next k p w (rows_next k p r d)))
unfolding likelihood.truing_jacobian_rows likelihood.mv_plus likelihood.mv_minus likelihood.bc_plus likelihood.bc_minus
stencil_asks Nominal p w r = refl
stencil_asks MvPlus p w r = refl
stencil_asks MvMinus p w r = refl
stencil_asks BcPlus p w r = refl
stencil_asks BcMinus p w r = refl

-- ---- what is left of a run after a reply to one of the five: a gap is judged after the fifth

module _ {A : Type 0} (k : StencilPoint) (p : Point) (w : Which) (r : Rows) (number : ℕ) (f : Rows → Run A) where
  abbrev pub left : Run A
  left = bind (bind (stencil_next k p w r) (likelihood.complete number)) f

  pub left_more : (q : StencilPoint) → next_of k ≡ Some q → left ≡ bind (bind (stencil q p w r) (likelihood.complete number)) f
  left_more q e = ap (λ (n : Option StencilPoint). bind (bind (after_reply n p w r) (likelihood.complete number)) f) e

  left_last : next_of k ≡ None → left ≡ bind (likelihood.complete number r) f
  left_last e = ap (λ (n : Option StencilPoint). bind (bind (after_reply n p w r) (likelihood.complete number)) f) e

  complete_gap : (g : ℕ) → r.gap ≡ g → (g ≡ 0 → ⊥) → likelihood.complete number r ≡ refuse number g
  unfolding likelihood.complete
  complete_gap zero e h = absurd (h refl)
  complete_gap (suc g) e h = ap (λ (x : ℕ). bind (unless x number) (λ u. done r)) e

  complete_whole : r.gap ≡ 0 → likelihood.complete number r ≡ done r
  unfolding likelihood.complete
  complete_whole e = ap (λ (x : ℕ). bind (unless x number) (λ u. done r)) e

  pub left_gap : (g : ℕ) → next_of k ≡ None → r.gap ≡ g → (g ≡ 0 → ⊥) → left ≡ refuse number g
  left_gap g h e n = left_last h ∙ ap (λ (t : Run Rows). bind t f) (complete_gap g e n)

  pub left_whole : next_of k ≡ None → r.gap ≡ 0 → left ≡ f r
  left_whole h e = left_last h ∙ ap (λ (t : Run Rows). bind t f) (complete_whole e)

-- the question that is open before the reply to one of the five
pub stencil_left : {A : Type 0} (k : StencilPoint) (p : Point) (w : Which) (r : Rows) (number : ℕ) (f : Rows → Run A)
    → bind (bind (stencil k p w r) (likelihood.complete number)) f
    ≡ ask (point_at k p) w (λ reply. bind (bind (bind (answered reply) (λ d. stencil_next k p w (rows_next k p r d))) (likelihood.complete number)) f)
stencil_left k p w r number f = ap (λ (t : Run Rows). bind (bind t (likelihood.complete number)) f) (stencil_asks k p w r)
