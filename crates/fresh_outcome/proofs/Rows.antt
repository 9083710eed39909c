-- The five questions under a solver. Where it refuses none of the five points, the rows are maps over the distances, and the gap is at the first distance
-- where one of the five is missing. Assumes nothing.
use Prim.Native.Nat.{ℕ}
use mathlib.Core.Path.{◌≡◌, refl, sym, ap, ap₂, ◌∙◌}
use mathlib.Core.Bool.{Bool, true, false, cond, ◌||◌}
use mathlib.Core.List.{List, map, map-map}
use native.Mathlib.Omega.{arith}
use lib.Ieee.{Float}
use Rattle.definition.specs.Lists.{first_of, first_at}
use Rattle.definition.specs.Run.{Run, done, refuse, ask, bind, Reply, refused, entries, Which, Reading, reading_of, is_missing, drop_or0, answered, read}
use Rattle.definition.specs.Host.{Outcome, ends, refuses, Host, play}
use Rattle.definition.specs.Likelihood.{Rows, mv_step_of, bc_step_of, slope, slopes, mv_plus_at, mv_minus_at, bc_plus_at, bc_minus_at, bc_minus, bc_plus, mv_minus, mv_plus}
use Rattle.definition.specs.Likelihood.{truing_jacobian_rows}
use Rattle.definition.specs.declared.Point.{Point}
use Rattle.fresh_outcome.specs.Solver.{Solver, reply_at}
use Rattle.fresh_outcome.proofs.Lists.{zip_maps, first_map, first_either}

-- ---- outcomes

pub not_ends : {A B : Type 0} (a : A) (n i : ℕ) → ◌≡◌ {A = Outcome A} (refuses n i) (ends a) → B
not_ends a n i e = absurd (grind arith)

-- what comes of an outcome
abbrev pub and_then : {A B : Type 0} → Outcome A → (A → Outcome B) → Outcome B
and_then (ends a) f = f a
and_then (refuses n i) f = refuses n i

pub play_bind : {A B : Type 0} (h : Host) (t : Run A) (f : A → Run B) → play h (bind t f) ≡ and_then (play h t) (λ a. play h (f a))
play_bind h (done a) f = refl
play_bind h (refuse n i) f = refl
play_bind h (ask p w k) f = play_bind h (k (h p w)) f

-- ---- one row

module _ (σ : Solver) where
  -- the drop at a point and a distance
  abbrev pub drop_at : Point → Float → Float
  drop_at p d = drop_or0 (σ.drops p d)

  abbrev lacking : Point → Float → Bool
  lacking p d = is_missing (σ.drops p d)

  abbrev pub mv_slope_at : Point → Float → Float
  mv_slope_at p d = slope (mv_step_of p.mv) (drop_at (mv_plus_at p) d) (drop_at (mv_minus_at p) d)

  abbrev pub bc_slope_at : Point → Float → Float
  bc_slope_at p d = slope (bc_step_of p.bc) (drop_at (bc_plus_at p) d) (drop_at (bc_minus_at p) d)

  -- one of the five is missing
  abbrev pub lacks : Point → Float → Bool
  lacks p d = (((lacking p d || lacking (mv_plus_at p) d) || lacking (mv_minus_at p) d) || lacking (bc_plus_at p) d) || lacking (bc_minus_at p) d

  abbrev pub rows_with : Point → List Float → ℕ → Rows
  rows_with p ds gap = record { predicted = map (drop_at p) ds; by_mv = map (mv_slope_at p) ds; by_bc = map (bc_slope_at p) ds; gap = gap }

  abbrev pub rows_over : Point → List Float → Rows
  rows_over p ds = rows_with p ds (first_at (lacks p) ds)

  -- none of the five points is refused
  pub record Served (p : Point) : Type 0 where
    pub nominal : σ.refuses p ≡ false
    pub mv_plus : σ.refuses (mv_plus_at p) ≡ false
    pub mv_minus : σ.refuses (mv_minus_at p) ≡ false
    pub bc_plus : σ.refuses (bc_plus_at p) ≡ false
    pub bc_minus : σ.refuses (bc_minus_at p) ≡ false

  abbrev reading_at : Point → List Float → Reading
  reading_at p ds = reading_of (map (σ.drops p) ds)

  module _ {A : Type 0} (h : Host) (w : Which) (ds : List Float) (replies : (p : Point) → h p w ≡ reply_at σ p ds) where
    -- one question
    read_play : (p : Point) (f : Reading → Run A) → σ.refuses p ≡ false → play h (bind (read p w) f) ≡ play h (f (reading_at p ds))
    read_play p f e = ap (λ (r : Reply). play h (bind (answered r) f)) (replies p ∙ ap (λ (b : Bool). cond b refused (entries (map (σ.drops p) ds))) e)

    read_passed :
        (a : A) (p : Point) (f : Reading → Run A) → play h (bind (read p w) f) ≡ ends a → (σ.refuses p ≡ false) × (play h (f (reading_at p ds)) ≡ ends a)
    read_passed a p f e = go (σ.refuses p) refl (sym (ap (λ (r : Reply). play h (bind (answered r) f)) (replies p)) ∙ e)
      where
        go : (b : Bool) → σ.refuses p ≡ b → play h (bind (answered (cond b refused (entries (map (σ.drops p) ds)))) f) ≡ ends a
            → (σ.refuses p ≡ false) × (play h (f (reading_at p ds)) ≡ ends a)
        go true q e = not_ends a 10 0 e
        go false q e = (q, e)

  -- ---- the five

  abbrev rows_read : Point → List Float → Rows
  rows_read p ds = record {
    predicted = (reading_at p ds).drops;
    by_mv = slopes (mv_step_of p.mv) (reading_at (mv_plus_at p) ds).drops (reading_at (mv_minus_at p) ds).drops;
    by_bc = slopes (bc_step_of p.bc) (reading_at (bc_plus_at p) ds).drops (reading_at (bc_minus_at p) ds).drops;
    gap = first_of (first_of (first_of (first_of
        (reading_at p ds).gap (reading_at (mv_plus_at p) ds).gap) (reading_at (mv_minus_at p) ds).gap) (reading_at (bc_plus_at
        p) ds).gap) (reading_at (bc_minus_at p) ds).gap;
  }

  slopes_over : (step : Float) (p q : Point) (ds : List Float)
      → slopes step (reading_at p ds).drops (reading_at q ds).drops ≡ map (λ d. slope step (drop_at p d) (drop_at q d)) ds
  slopes_over step p q ds =
      ap₂ (λ (a b : List Float). slopes step a b) (map-map drop_or0 (σ.drops p) ds) (map-map drop_or0 (σ.drops q) ds)
      ∙ zip_maps (slope step) (drop_at p) (drop_at q) ds

  gap_over :
      (t : Float → Bool) (n : ℕ) (p : Point) (ds : List Float) → n ≡ first_at t ds → first_of n (reading_at p ds).gap ≡ first_at (λ d. t d || lacking p d) ds
  gap_over t n p ds e = ap₂ first_of e (first_map (σ.drops p) is_missing ds) ∙ first_either t (lacking p) ds

  rows_over_lem : (p : Point) (ds : List Float) → rows_read p ds ≡ rows_over p ds
  rows_over_lem p ds = λ i. record {
    predicted = map-map drop_or0 (σ.drops p) ds i;
    by_mv = slopes_over (mv_step_of p.mv) (mv_plus_at p) (mv_minus_at p) ds i;
    by_bc = slopes_over (bc_step_of p.bc) (bc_plus_at p) (bc_minus_at p) ds i;
    gap =
        gap_over _ _ (bc_minus_at p) ds
        (gap_over _ _ (bc_plus_at p) ds (gap_over _ _ (mv_minus_at p) ds (gap_over _ _ (mv_plus_at p) ds (first_map (σ.drops p) is_missing ds)))) i;
  }

  module _ (h : Host) (w : Which) (ds : List Float) (replies : (p : Point) → h p w ≡ reply_at σ p ds) where
    pub five : (p : Point) → Served p → play h (truing_jacobian_rows p w) ≡ ends (rows_over p ds)
    unfolding truing_jacobian_rows mv_plus mv_minus bc_plus bc_minus
    five p s =
        read_play h w ds replies p _ s.nominal
        ∙ read_play h w ds replies (mv_plus_at p) _ s.mv_plus
        ∙ read_play h w ds replies (mv_minus_at p) _ s.mv_minus
        ∙ read_play h w ds replies (bc_plus_at p) _ s.bc_plus
        ∙ read_play h w ds replies (bc_minus_at p) _ s.bc_minus
        ∙ ap (λ (r : Rows). ends r) (rows_over_lem p ds)

    -- rows are there only where none of the five points is refused
    pub five_served : (p : Point) (rows : Rows) → play h (truing_jacobian_rows p w) ≡ ends rows → Served p
    unfolding truing_jacobian_rows mv_plus mv_minus bc_plus bc_minus
    five_served p rows e =
        let a = read_passed h w ds replies rows p _ e in
        let b = read_passed h w ds replies rows (mv_plus_at p) _ a.1 in
        let c = read_passed h w ds replies rows (mv_minus_at p) _ b.1 in
        let d = read_passed h w ds replies rows (bc_plus_at p) _ c.1 in
        let f = read_passed h w ds replies rows (bc_minus_at p) _ d.1 in
        record { nominal = a.0; mv_plus = b.0; mv_minus = c.0; bc_plus = d.0; bc_minus = f.0 }
