-- A reply laid in a body, from what each step gives to what the run stands for afterwards. Assumes nothing.
use Rattle.std.proofs.Common.{ℕ, zero, suc, ◌≤◌, ◌≡◌, refl, ap, ◌∙◌, subst, Bool, true, false, List, length, take, Option, None, Some, arith}
use Rattle.std.proofs.Math.ListN.{length-map, length-take}
use Rattle.std.specs.Prelude.{Float, cond, eqb, ◌&&◌, replicate, option_map}
use lib.Dec.{eqb-suc-zero}
use Rattle.numeric.specs.Numeric.{zero64, finite}
use Rattle.definition.specs.Lists.{first_at}
use Rattle.definition.specs.Run.{Entry, entries, reading_of, is_missing}
use Rattle.definition.specs.Meaning.{observation_of}
use Rattle.definition.specs.Likelihood as likelihood
use Rattle.definition.specs.Summary.{baseline_at}
use Rattle.definition.specs.Summary as summary
use Rattle.definition.specs.declared.Distances.{Distances}
use Rattle.definition.specs.declared.Evaluation.{Evaluation as Evaluated}
use Rattle.definition.specs.declared.Point.{Point}
use Rattle.definition.specs.declared.Row.{Row}
use Rattle.likelihood.proofs.Laws.{over_take, sums_take, zip3_take, zip3_within}
use Rattle.lists.specs.Lists.{HasWanted, places_of, drops_in, observations_at}
use Rattle.stencil.specs.Stencil.{rows_at, all_rows, laid_rows, rows_next, next_of}
use Rattle.stencil.specs.declared.StencilPoint.{StencilPoint}
use Rattle.stencil.specs.declared.StencilRows.{StencilRows}
use Rattle.stencil.proofs.Laws.{take_rows, rows_laid}
use Rattle.phases.specs.Phases.{plan_of, at_last, valued_from}
use Rattle.phases.specs.declared.Lays.TheVariants.{Baseline as Drops}
use Rattle.phases.specs.declared.Phase.{Phase}
use Rattle.phases.specs.declared.Phase.TheVariants.{Over, Start, Evaluation, Trial, Look, Bands, Ended}
use Rattle.phases.specs.declared.Plan.{Plan}
use Rattle.phases.proofs.Taken.{Laid}
use Rattle.run_body.specs.Meaning.{measured_of, baseline_from, baseline_in, held_of, within_of, wanted_by}
use Rattle.run_body.specs.Meaning.{laid_by, sum_by, evaluation_by, kept_by, baseline_by}
use Rattle.run_body.specs.declared.Body.{Body}
use Rattle.run_body.proofs.Laws.{shots_within, wanted_within}

-- the body with a reply laid in, before the fit goes on: each part is what its step gives, by what the open question wants
abbrev pub laid_in : Body → Plan → List Entry → StencilRows 64 → Body
laid_in b plan es t = record b {
  rows = t;
  predicted = kept_by plan.evaluates b.predicted t;
  baseline = baseline_by plan.lays b.baseline (first_at is_missing es) b.shots (places_of (drops_in es)) (length es);
}

abbrev pub evaluation_at : Body → Plan → StencilRows 64 → Evaluated
evaluation_at b plan t = evaluation_by plan.evaluates b.progress.evaluation b.priors b.progress.point b.shots t

abbrev pub sum_at : Body → Plan → List Entry → Float
sum_at b plan es = sum_by plan.objective b.shots b.priors (drops_in es)

-- the arrays of the rows have their 64 places
abbrev pub Full : StencilRows 64 → Type 0
Full t = (length t.predicted ≡ 64) × (length t.by_mv ≡ 64) × (length t.by_bc ≡ 64)

-- how many entries the open question wants
abbrev pub wants_all : Body → Option Distances → ℕ
wants_all b None = 0
wants_all b (Some list) = wanted_by list b.shots.n b.wanted.n

module _ (b : Body) (es : List Entry) (t : StencilRows 64) (requested : Bool) (has : HasWanted b.wanted requested) (h : within_of b ≡ true)
    (l : Full b.rows) where
  abbrev pub LaidAt : Phase → Type 0
  LaidAt ph = let plan = plan_of ph b.entered in
      Laid (held_of b) es (rows_at b.shots.n t) (rows_at b.wanted.n t) (take b.shots.n (laid_in b plan es t).predicted) (baseline_in (laid_in b plan es t))
      (evaluation_at b plan t) (first_at is_missing es) (sum_at b plan es) t.gap requested ph

  -- ---- an objective

  -- the drops of a reply are the first places of the array that they go into
  drops_at : length es ≤ 64 → take (length es) (places_of (drops_in es)) ≡ drops_in es
  drops_at n = over_take (drops_in es) (replicate 64 zero64) (length es) (length-map es _) (omega arith)

  value_is : (q : Point) → valued_from (first_at is_missing es) (sum_by (Some q) b.shots b.priors (drops_in es))
      ≡ likelihood.valued (measured_of b) q (reading_of es)
  unfolding likelihood.valued
  value_is q = refl

  -- ---- the rows

  rows_are : (k : StencilPoint) (n : ℕ) → length es ≡ n → n ≤ 64 → all_rows t ≡ laid_rows k b.progress.point es (all_rows b.rows)
      → rows_at n t ≡ rows_next k b.progress.point (rows_at n b.rows) (reading_of es)
  rows_are k n e m is =
      ap (take_rows n) is
      ∙ subst (λ (j : ℕ). take_rows j (laid_rows k b.progress.point es (all_rows b.rows)) ≡ rows_next k b.progress.point (rows_at j b.rows) (reading_of es)) e
      (rows_laid es k b.progress.point (all_rows b.rows) (omega arith) (omega arith) (omega arith))

  -- the evaluation is that of the rows
  rows_evaluation : likelihood.evaluation_of (measured_of b) b.progress.point (rows_at b.shots.n t)
      ≡ likelihood.from_sums b.priors b.progress.point (likelihood.sums_of b.progress.point (observations_at b.shots) (likelihood.rows_of (all_rows t)))
  rows_evaluation =
      let n = b.shots.n in
      let w = zip3_within observation_of (take n b.shots.ranges) (take n b.shots.drops) (take n b.shots.sigmas) in
      let r = length-take n b.shots.ranges in
      ap (λ (rows : List Row). likelihood.from_sums b.priors b.progress.point (likelihood.sums_of b.progress.point (observations_at b.shots) rows))
      (zip3_take likelihood.row_of t.predicted t.by_mv t.by_bc n)
      ∙ ap (likelihood.from_sums b.priors b.progress.point)
      (sums_take b.progress.point (observations_at b.shots) (likelihood.rows_of (all_rows t)) n (omega arith))

  -- ---- the baseline

  -- there is one where no drop is missing and the sum is finite
  judged : (gap : ℕ) (drops places : List Float) (f : Bool) → take b.shots.n places ≡ drops
      → finite (likelihood.chi_square_of (observations_at b.shots) drops) ≡ f
      → baseline_from (measured_of b) (option_map (take b.shots.n) (cond (eqb gap 0 && f) (Some places) None)) ≡ baseline_at (measured_of b) gap drops
  judged zero drops places true e f = rw (f, e)
  judged zero drops places false e f = rw f
  judged (suc gap) drops places f e i = rw eqb-suc-zero

  baseline_is : length es ≡ b.shots.n
      → baseline_from (measured_of b) (option_map (take b.shots.n) (baseline_by (Some Drops) b.baseline (first_at is_missing es) b.shots (places_of (drops_in es))
      (length es))) ≡ summary.baseline_of (measured_of b) (entries es)
  unfolding summary.baseline_of
  baseline_is n =
      let few : length es ≤ 64 = omega (arith, shots_within b h) in
      rw (drops_at few) (judged (first_at is_missing es) (drops_in es) (places_of (drops_in es)) _ (rw (← n) (drops_at few)) refl)

  -- ---- by which question was open

  kept_is : (o : Option StencilPoint) → kept_by (at_last o None) b.predicted t ≡ b.predicted
  kept_is None = refl
  kept_is (Some q) = refl

  pub laid_at : (ph : Phase) (list : Distances) → (plan_of ph b.entered).asks ≡ Some list → length es ≡ wants_all b (plan_of ph b.entered).asks
      → all_rows t ≡ laid_by (plan_of ph b.entered).lays b.progress.point es (all_rows b.rows) → LaidAt ph
  laid_at Over list a n is = absurd (cc)
  laid_at Start list a n is = value_is b.entered
  laid_at (Evaluation stage k) list a n is = record {
    laid = rows_are k b.shots.n n (shots_within b h) is;
    gap_is = refl;
    evaluated = λ o z. rw (o, z) rows_evaluation;
    fitted = λ o z s. rw (o, s, z);
    some_requested = λ e z. has.some_of e (wanted_within b h) z;
    none_requested = λ e z. (rw (has.none_of e), rw (has.none_of e, z));
  }
  laid_at (Trial q) list a n is = value_is q
  laid_at (Look c) list a n is = value_is c
  laid_at (Bands k) list a n is = record {
    laid = rows_are k b.wanted.n n (wanted_within b h) is;
    gap_is = refl;
    kept = ap (take b.shots.n) (kept_is (next_of k));
  }
  laid_at Phase.Baseline list a n is = record {
    bands_kept = ap (take_rows b.wanted.n) is;
    kept = refl;
    laid = baseline_is n;
  }
  laid_at Ended list a n is = absurd (cc)
