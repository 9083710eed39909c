-- The questions that the definition puts: one walk over its named pieces says of each how many they are at most and that each has a property. From it: `count`,
-- `count_without_distances`, `count_of_edit`, `empty_list`, and that hosts play a run alike if they reply alike to its questions. Assumes nothing.
use Prim.Native.Nat.{ℕ, zero, suc, ◌+◌, ◌*◌, ◌≤◌}
use mathlib.Core.Path.{◌≡◌, refl, ap, ◌∙◌}
use mathlib.Core.Bool.{Bool, true, false, cond}
use mathlib.Core.List.{List, [], ◌∷◌}
use native.Mathlib.Nat.{suc-add}
use native.Mathlib.Numerals.{one-add}
use native.Mathlib.Omega.{arith}
use lib.Dec.{leb, ltb}
use lib.ListN.{length}
use lib.Ieee.{Float}
use Rattle.numeric.specs.Numeric.{within_of, finite}
use Rattle.criteria.specs.Criteria.{mv_min, mv_max, bc_min, bc_max, material_of}
use Rattle.definition.specs.Lists.{first_at}
use Rattle.definition.specs.Laws.{Asks, finishes, stops, asks, put, Count, CountWithoutDistances, CountOfEdit, EmptyList}
use Rattle.definition.specs.Request.{Observation, Requested, Measured, Opening}
use Rattle.definition.specs.Run.{Run, ask, bind, Reply, refused, entries, Which, shots, distances, new, Reading, answered, read, unless, require}
use Rattle.definition.specs.Host.{Host, play}
use Rattle.definition.specs.Likelihood.{Rows, objective_of, valued, objective, bc_minus, bc_plus, mv_minus, mv_plus, truing_jacobian_rows, complete}
use Rattle.definition.specs.Likelihood.{evaluate, evaluation_of}
use Rattle.definition.specs.Mesh.{Poll, Pass, PollStep, evaluates, ended, poll_step, on_poll_step, poll}
use Rattle.definition.specs.Fit.{Fit, Trial, accepted, exhausted, Step, unfit, to, step_of, flat_of, on_step, trials, meshed, verified, verify, on_trial}
use Rattle.definition.specs.Fit.{evaluated, iterate, fit_map}
use Rattle.definition.specs.Summary.{Finished}
use Rattle.definition.specs.Whole.{faulty_observation, sound_prior_of, sound_requested_of, faulty_requested, checked_point, checked_count}
use Rattle.definition.specs.Whole.{checked_measured, checked_requested}
use Rattle.definition.specs.Whole.{band_rows, baseline, concluded, banded, fitted, run, whole, Edit, put_in, take_out, exchange, unless_missing}
use Rattle.definition.specs.Whole.{edit_questions, edit}
use Rattle.definition.specs.declared.Point.{Point}
use Rattle.definition.specs.declared.Evaluation.{Evaluation}

-- ---- in general

module _ {Q : Point → Which → Type 0} {A : Type 0} where
  -- a larger bound is a bound
  asks_more : {m n : ℕ} {t : Run A} → Asks Q m t → m ≤ n → Asks Q n t
  asks_more finishes h = finishes
  asks_more stops h = stops
  asks_more {n = zero} (asks q k) h = absurd (omega arith)
  asks_more {n = suc n} (asks q k) h = asks {n = n} q (λ r. asks_more (k r) (omega arith))

  -- what is put is within the bound
  asks_put : {n : ℕ} {t : Run A} (rs : List Reply) → Asks Q n t → put t rs ≤ n
  asks_put rs finishes = omega arith
  asks_put rs stops = omega arith
  asks_put [] (asks q k) = omega arith
  asks_put (r ∷ rs) (asks q k) = omega (arith, asks_put rs (k r))

  -- the open question, and what its reply leads to
  pub asks_now : {n : ℕ} {p : Point} {w : Which} {k : Reply → Run A} → Asks Q n (ask p w k) → Q p w
  asks_now (asks q k) = q

  pub asks_next : {n : ℕ} {p : Point} {w : Which} {k : Reply → Run A} → Asks Q n (ask p w k) → (r : Reply) → Asks Q n (k r)
  asks_next (asks q k) r = asks_more (k r) (omega arith)

  asks_if : {n : ℕ} (b : Bool) {t u : Run A} → Asks Q n t → Asks Q n u → Asks Q n (cond b t u)
  asks_if true h k = h
  asks_if false h k = k

module _ {Q : Point → Which → Type 0} {A B : Type 0} where
  -- one run after another: the bounds add up
  asks_bind : {m n : ℕ} {t : Run A} {f : A → Run B} → Asks Q m t → ((a : A) → Asks Q n (f a)) → Asks Q (m + n) (bind t f)
  asks_bind (finishes {a = a}) k = asks_more (k a) (omega arith)
  asks_bind stops k = stops
  asks_bind (asks q g) k = rw suc-add (asks q (λ r. asks_bind (g r) k))

  -- the first puts none
  asks_after : {n : ℕ} {t : Run A} {f : A → Run B} → Asks Q 0 t → ((a : A) → Asks Q n (f a)) → Asks Q n (bind t f)
  asks_after (finishes {a = a}) k = k a
  asks_after stops k = stops

-- hosts that reply alike to every question play alike
pub same_play : {A : Type 0} (g h : Host) {n : ℕ} {t : Run A} → Asks (λ p w. g p w ≡ h p w) n t → play g t ≡ play h t
same_play g h finishes = refl
same_play g h stops = refl
same_play g h (asks {p = p} {w = w} {k = k} e s) = same_play g h (s (g p w)) ∙ ap (λ (r : Reply). play h (k r)) e

-- ---- no question: the tests of a reply and of an opening

module _ {Q : Point → Which → Type 0} where
  asks_require : (b : Bool) (c i : ℕ) → Asks Q 0 (require b c i)
  asks_require true c i = finishes
  asks_require false c i = stops

  asks_unless : (i c : ℕ) → Asks Q 0 (unless i c)
  asks_unless zero c = finishes
  asks_unless (suc i) c = stops

  asks_missing : (gap place : ℕ) → Asks Q 0 (unless_missing gap place)
  asks_missing zero place = finishes
  asks_missing (suc gap) place = stops

  asks_answered : (r : Reply) → Asks Q 0 (answered r)
  asks_answered refused = stops
  asks_answered (entries es) = finishes

  asks_valued : (m : Measured) (p : Point) (r : Reading) → Asks Q 0 (valued m p r)
  unfolding valued
  asks_valued m p r = asks_after (asks_unless r.gap 11) (λ u. asks_after (asks_require (finite (objective_of m p r.drops)) 12 0) (λ v. finishes))

  asks_complete : (number : ℕ) (r : Rows) → Asks Q 0 (complete number r)
  unfolding complete
  asks_complete number r = asks_after (asks_unless r.gap number) (λ u. finishes)

  asks_point : (p : Point) → Asks Q 0 (checked_point p)
  unfolding checked_point
  asks_point p = asks_after (asks_require (within_of mv_min mv_max p.mv) 1 1) (λ u. asks_require (within_of bc_min bc_max p.bc) 1 2)

  asks_count : (obs : List Observation) → Asks Q 0 (checked_count obs)
  unfolding checked_count
  asks_count obs = asks_after (asks_require (leb 2 (length obs)) 2 0) (λ u. asks_require (leb (length obs) 64) 3 0)

  pub asks_measured : (m : Measured) → Asks Q 0 (checked_measured m)
  unfolding checked_measured
  asks_measured m =
      asks_after (asks_point m.entered)
      (λ u. asks_after (asks_count m.observations)
      (λ v. asks_after (asks_unless (first_at faulty_observation m.observations) 4)
      (λ w. asks_after (asks_require (sound_prior_of mv_min mv_max m.priors.muzzle_velocity_fps) 5 1)
      (λ x. asks_require (sound_prior_of bc_min bc_max m.priors.ballistic_coefficient) 5 2))))

  asks_requested : (ds : List Requested) → Asks Q 0 (checked_requested ds)
  unfolding checked_requested
  asks_requested ds = asks_after (asks_require (leb (length ds) 64) 6 0) (λ u. asks_unless (first_at faulty_requested ds) 7)

-- ---- the five questions about one list

module _ {Q : Point → Which → Type 0} (w : Which) (h : (p : Point) → Q p w) where
  asks_read : (p : Point) → Asks Q 1 (read p w)
  asks_read p = asks (h p) asks_answered

  asks_bc_minus : (p : Point) (nominal by_mv plus : List Float) (gap : ℕ) → Asks Q 1 (bc_minus p w nominal by_mv plus gap)
  unfolding bc_minus
  asks_bc_minus p nominal by_mv plus gap = asks_bind {n = 0} (asks_read _) (λ r. finishes)

  asks_bc_plus : (p : Point) (nominal by_mv : List Float) (gap : ℕ) → Asks Q 2 (bc_plus p w nominal by_mv gap)
  unfolding bc_plus
  asks_bc_plus p nominal by_mv gap = asks_bind (asks_read _) (λ r. asks_bc_minus p nominal by_mv _ _)

  asks_mv_minus : (p : Point) (nominal plus : List Float) (gap : ℕ) → Asks Q 3 (mv_minus p w nominal plus gap)
  unfolding mv_minus
  asks_mv_minus p nominal plus gap = asks_bind (asks_read _) (λ r. asks_bc_plus p nominal _ _)

  asks_mv_plus : (p : Point) (nominal : List Float) (gap : ℕ) → Asks Q 4 (mv_plus p w nominal gap)
  unfolding mv_plus
  asks_mv_plus p nominal gap = asks_bind (asks_read _) (λ r. asks_mv_minus p nominal _ _)

  asks_rows : (p : Point) → Asks Q 5 (truing_jacobian_rows p w)
  unfolding truing_jacobian_rows
  asks_rows p = asks_bind (asks_read p) (λ r. asks_mv_plus p _ _)

-- ---- the fit asks about the observations

module _ {Q : Point → Which → Type 0} (s : (p : Point) → Q p shots) where
  asks_objective : (m : Measured) (p : Point) → Asks Q 1 (objective m p)
  unfolding objective
  asks_objective m p = asks_bind (asks_read shots s p) (asks_valued m p)

  pub asks_evaluate : (p : Point) → Asks Q 5 (evaluate p)
  unfolding evaluate
  asks_evaluate p = asks_bind (asks_rows shots s p) (asks_complete 11)

  module _ (m : Measured) where
    module _ (p : Point) (current : Float) (e : Evaluation) where
      asks_step : (n : ℕ) (further : Float → Run Trial) (damping : Float) (x : Step) → ((l : Float) → Asks Q n (further l))
          → Asks Q (1 + n) (on_step m p current e further damping x)
      asks_step n further damping unfit h = asks_more (h _) (omega arith)
      asks_step n further damping (to q) h = asks_bind (asks_objective m q) (λ value. asks_if (material_of current value) finishes (h _))

      asks_trials : (n : ℕ) (damping : Float) → Asks Q n (trials m p current e n damping)
      unfolding trials
      asks_trials zero damping = finishes
      asks_trials (suc n) damping = rw (← one-add) (asks_step n _ damping (step_of p e damping) (asks_trials n))

    asks_turn : (n : ℕ) (go : Pass → Run Poll) (t : PollStep) → ((x : Pass) → Asks Q n (go x)) → Asks Q (1 + n) (on_poll_step m go t)
    asks_turn n go (ended r) h = finishes
    asks_turn n go (evaluates c x) h = asks_bind (asks_objective m c) (λ value. h _)

    asks_poll : (n : ℕ) (x : Pass) → Asks Q n (poll m n x)
    unfolding poll
    asks_poll zero x = finishes
    asks_poll (suc n) x = rw (← one-add) (asks_turn n _ (poll_step x) (asks_poll n))

    asks_meshed : (p : Point) (current : Float) (iterations : ℕ) (rows : Rows) → Asks Q 1024 (meshed m p current iterations rows)
    unfolding meshed
    asks_meshed p current iterations rows = asks_bind {n = 0} (asks_poll 1024 _) (λ r. finishes)

    asks_verified : (p : Point) (current : Float) (iterations : ℕ) (rows : Rows) → Asks Q 1029 (verified m p current iterations rows)
    unfolding verified
    asks_verified p current iterations rows =
        asks_if (flat_of (evaluation_of m p rows)) finishes (asks_bind (asks_evaluate p) (asks_meshed p current iterations))

    asks_verify : (p : Point) (current : Float) (iterations : ℕ) → Asks Q 1034 (verify m p current iterations)
    unfolding verify
    asks_verify p current iterations = asks_bind (asks_evaluate p) (asks_verified p current iterations)

    asks_trial : (n : ℕ) (go : Point → Float → Float → Run Fit) (none : Run Fit) (t : Trial)
        → ((q : Point) (value l : Float) → Asks Q n (go q value l)) → Asks Q n none → Asks Q n (on_trial m go none t)
    asks_trial n go none (accepted q value l) h k = h q value l
    asks_trial n go none exhausted h k = k

    asks_evaluated : (n : ℕ) (go : Point → Float → Float → Run Fit) (p : Point) (current damping : Float) (iterations : ℕ) (rows : Rows)
        → 1034 ≤ n → ((q : Point) (value l : Float) → Asks Q n (go q value l)) → Asks Q (30 + n) (evaluated m go p current damping iterations rows)
    unfolding evaluated
    asks_evaluated n go p current damping iterations rows h k =
        asks_if (flat_of (evaluation_of m p rows)) finishes
        (asks_bind (asks_trials p current (evaluation_of m p rows) 30 damping)
        (λ t. asks_trial n go _ t k (asks_more (asks_verify p current iterations) h)))

    asks_iterate : (n : ℕ) (p : Point) (current damping : Float) (iterations : ℕ) → Asks Q (n * 35 + 1034) (iterate m n p current damping iterations)
    unfolding iterate
    asks_iterate zero p current damping iterations = asks_verify p current iterations
    asks_iterate (suc n) p current damping iterations =
        let e : suc n * 35 + 1034 ≡ 5 + (30 + (n * 35 + 1034)) = omega arith in
        rw e (asks_bind (asks_evaluate p)
        (λ rows. asks_evaluated (n * 35 + 1034) _ p current damping (suc iterations) rows (omega arith)
        (λ q value l. asks_iterate n q value l (suc iterations))))

    pub asks_fit : Asks Q 4535 (fit_map m)
    unfolding fit_map
    asks_fit = asks_bind (asks_objective m _) (λ current. asks_iterate 100 _ current _ 0)

  -- ---- the run asks about the observations, and about the distances where there are any

  asks_baseline : (m : Measured) → Asks Q 1 (baseline m)
  unfolding baseline
  asks_baseline m = asks (s _) (λ r. finishes)

  -- n is 5 with distances and 0 without
  asks_run : (n : ℕ) (o : Opening) → ((p : Point) → Asks Q n (band_rows p o.requested)) → Asks Q (4535 + (5 + (n + 1))) (whole o)
  unfolding whole run fitted banded concluded
  asks_run n o h =
      asks_after (asks_measured o.measured)
      (λ u. asks_after (asks_requested o.requested)
      (λ v. asks_bind (asks_fit o.measured)
      (λ f. asks_bind (asks_evaluate f.point)
      (λ rows. asks_bind (h f.point)
      (λ bands. asks_bind {n = 0} (asks_baseline o.measured) (λ b. finishes))))))

asks_bands : {Q : Point → Which → Type 0} → ((p : Point) → Q p distances) → (p : Point) (ds : List Requested) → Asks Q 5 (band_rows p ds)
unfolding band_rows
asks_bands h p [] = finishes
asks_bands h p (d ∷ ds) = asks_bind (asks_rows distances h p) (asks_complete 13)

pub asks_whole : {Q : Point → Which → Type 0} → ((p : Point) → Q p shots) → ((p : Point) → Q p distances) → (o : Opening) → Asks Q 4546 (whole o)
asks_whole s h o = asks_run s 5 o (λ p. asks_bands h p o.requested)

pub empty_list : EmptyList
unfolding band_rows
empty_list p = refl

pub count : Count
count o rs = asks_put {Q = λ p w. Unit {0}} rs (asks_whole (λ p. tt) (λ p. tt) o)

pub count_without_distances : CountWithoutDistances
count_without_distances m rs = asks_put {Q = λ p w. Unit {0}} rs (asks_run (λ p. tt) 0 _ (λ p. rw empty_list finishes))

-- ---- an edit asks about its new distance

-- the property, for questions about the edit's new distance
abbrev pub OfNew : (Point → Which → Type 0) → Edit → Type 0
OfNew Q (put_in i d) = (p : Point) → Q p (new d.range_yd)
OfNew Q (take_out i) = Unit {0}
OfNew Q (exchange i d) = (p : Point) → Q p (new d.range_yd)

pub every_new : (Q : Point → Which → Type 0) → ((p : Point) (x : Float) → Q p (new x)) → (e : Edit) → OfNew Q e
every_new Q h (put_in i d) = λ p. h p d.range_yd
every_new Q h (take_out i) = tt
every_new Q h (exchange i d) = λ p. h p d.range_yd

module _ {Q : Point → Which → Type 0} where
  asks_asked : (c : Finished) (e : Edit) (place : ℕ) (d : Requested) → ((p : Point) → Q p (new d.range_yd)) → Asks Q 5 (edit_questions c e place d)
  unfolding edit_questions
  asks_asked c e place d h =
      asks_bind {n = 0} (asks_rows (new d.range_yd) h c.fit.point) (λ one. asks_after (asks_missing one.gap place) (λ u. finishes))

  pub asks_edit : (c : Finished) (e : Edit) → OfNew Q e → Asks Q 5 (edit c e)
  unfolding edit
  asks_edit c (put_in i d) h =
      asks_after (asks_require (ltb (length c.requested) 64) 6 0)
      (λ u. asks_after (asks_require (sound_requested_of d) 7 i) (λ v. asks_asked c (put_in i d) i d h))
  asks_edit c (take_out i) h = finishes
  asks_edit c (exchange i d) h = asks_after (asks_require (sound_requested_of d) 7 i) (λ v. asks_asked c (exchange i d) i d h)

pub count_of_edit : CountOfEdit
count_of_edit c e rs = asks_put {Q = λ p w. Unit {0}} rs (asks_edit c e (every_new (λ p w. Unit {0}) (λ p x. tt {0}) e))
