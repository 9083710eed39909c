-- What a finished fresh run tells, and what a fresh run with another list then comes to. Assumes nothing.
use Prim.Native.Nat.{ℕ, zero, suc}
use mathlib.Core.Path.{◌≡◌, refl, sym, ap, ◌∙◌}
use mathlib.Core.Bool.{Bool, true, false}
use mathlib.Core.List.{List, [], ◌∷◌}
use lib.Dec.{leb}
use lib.ListN.{length}
use Rattle.definition.specs.Lists.{first_at}
use Rattle.definition.specs.Request.{Requested, Opening}
use Rattle.definition.specs.Run.{Run, bind, shots, distances, require, unless}
use Rattle.definition.specs.Host.{Outcome, ends, refuses, Host, play}
use Rattle.definition.specs.Likelihood.{Rows, truing_jacobian_rows, complete, evaluate, evaluation_of}
use Rattle.definition.specs.Fit.{Fit, fit_map}
use Rattle.definition.specs.Summary.{Finished, baseline_of, ranges_of}
use Rattle.definition.specs.Whole.{faulty_requested, checked_measured, checked_requested, band_rows, baseline, concluded, banded, fitted, run, whole}
use Rattle.definition.specs.Laws.{Asks}
use Rattle.definition.specs.declared.Point.{Point}
use Rattle.definition.proofs.Questions.{same_play, asks_measured, asks_evaluate, asks_fit}
use Rattle.fresh_outcome.specs.Solver.{Solver, distances_of, host_of, with_list, fresh}
use Rattle.fresh_outcome.proofs.Rows.{not_ends, and_then, play_bind, lacks, rows_with, Served, five, five_served}

-- what an outcome that goes on to an end went through
then_ends : {A B : Type 0} (x : Outcome A) (f : A → Outcome B) (b : B) → and_then x f ≡ ends b → (a : A) × (x ≡ ends a) × (f a ≡ ends b)
then_ends (ends a) f b e = (a, refl, e)
then_ends (refuses n i) f b e = not_ends b n i e

pub play_then : {A B : Type 0} (h : Host) (t : Run A) (f : A → Run B) (a : A) → play h t ≡ ends a → play h (bind t f) ≡ play h (f a)
play_then h t f a e = play_bind h t f ∙ ap (λ (x : Outcome _). and_then x (λ a. play h (f a))) e

ends_same : {A : Type 0} (a b : A) → ◌≡◌ {A = Outcome A} (ends a) (ends b) → a ≡ b
ends_same a b e = cc

-- the finished run with the list l, by the fit and the rows at it
abbrev pub finished_at : Solver → Opening → List Requested → Fit → Rows → Finished
finished_at σ o l f rows = record {
  measured = o.measured;
  fit = f;
  evaluation = evaluation_of o.measured f.point rows;
  predicted = rows.predicted;
  requested = l;
  band_rows = rows_with σ f.point (distances_of l) 0;
  baseline = baseline_of o.measured (host_of σ o o.measured.entered shots);
}

-- a gap refuses by 13
abbrev pub closing : ℕ → Finished → Outcome Finished
closing zero c = ends c
closing (suc i) c = refuses 13 (suc i)

-- where the first of the five at a distance of the list is missing
abbrev pub gap_at : Solver → Point → List Requested → ℕ
gap_at σ p l = first_at (lacks σ p) (distances_of l)

module _ (σ : Solver) (o : Opening) where
  abbrev with : List Requested → Host
  with l = host_of σ (with_list o l)

  by_gap : (l : List Requested) (f : Fit) (rows : Rows) (k : ℕ)
      → and_then (play (with l) (complete 13 (rows_with σ f.point (distances_of l) k)))
      (λ b. play (with l) (concluded o.measured l f (evaluation_of o.measured f.point rows) rows.predicted b))
      ≡ closing k (finished_at σ o l f rows)
  unfolding concluded baseline complete
  by_gap l f rows zero = refl
  by_gap l f rows (suc k) = refl

  banded_play : (l : List Requested) (f : Fit) (rows : Rows) → Served σ f.point
      → play (with l) (banded o.measured l f (evaluation_of o.measured f.point rows) rows.predicted)
      ≡ closing (gap_at σ f.point l) (finished_at σ o l f rows)
  unfolding banded band_rows concluded baseline complete
  banded_play [] f rows s = refl
  banded_play (d ∷ l) f rows s =
      let h = with (d ∷ l) in
      let m = o.measured in
      let ended : Rows → Run Finished = concluded m (d ∷ l) f (evaluation_of m f.point rows) rows.predicted in
      play_bind h (bind (truing_jacobian_rows f.point distances) (complete 13)) ended
      ∙ ap (λ (x : Outcome Rows). and_then x (λ b. play h (ended b)))
      (play_then h (truing_jacobian_rows f.point distances) (complete 13) _ (five σ h distances (distances_of (d ∷ l)) (λ p. refl) f.point s))
      ∙ by_gap (d ∷ l) f rows (gap_at σ f.point (d ∷ l))

  -- the finished run that a fresh run with the list l came to
  pub record Came (l : List Requested) (c : Finished) : Type 0 where
    pub checked : play (with l) (checked_measured o.measured) ≡ ends tt
    pub room : leb (length l) 64 ≡ true
    pub sound : first_at faulty_requested l ≡ 0
    pub fit : Fit
    pub fits : play (with l) (fit_map o.measured) ≡ ends fit
    pub rows : Rows
    pub evaluated : play (with l) (evaluate fit.point) ≡ ends rows
    pub served : Served σ fit.point
    pub whole : gap_at σ fit.point l ≡ 0
    pub is : c ≡ finished_at σ o l fit rows

  -- the list's checks were passed
  checked_ends : {A : Type 0} (h : Host) (l : List Requested) (t : Run A) (a : A) → play h (bind (checked_requested l) (λ u. t)) ≡ ends a
      → (leb (length l) 64 ≡ true) × (first_at faulty_requested l ≡ 0) × (play h t ≡ ends a)
  unfolding checked_requested
  checked_ends {A} h l t a e = go (leb (length l) 64) (first_at faulty_requested l) e
    where
      go : (b : Bool) (k : ℕ) → play h (bind (bind (require b 6 0) (λ u. unless k 7)) (λ u. t)) ≡ ends a → (b ≡ true) × (k ≡ 0) × (play h t ≡ ends a)
      go false k e = not_ends a 6 0 e
      go true zero e = (refl, refl, e)
      go true (suc k) e = not_ends a 7 (suc k) e

  closing_ends : (k : ℕ) (f c : Finished) → closing k f ≡ ends c → (k ≡ 0) × (c ≡ f)
  closing_ends zero f c e = (refl, ends_same c f (sym e))
  closing_ends (suc k) f c e = not_ends c 13 (suc k) e

  -- an evaluation is there only where none of the five points is refused
  evaluate_served : (l : List Requested) (p : Point) (rows : Rows) → play (with l) (evaluate p) ≡ ends rows → Served σ p
  unfolding evaluate
  evaluate_served l p rows e =
      let a = then_ends _ _ rows (sym (play_bind (with l) (truing_jacobian_rows p shots) (complete 11)) ∙ e) in
      five_served σ (with l) shots (ranges_of o.measured.observations) (λ q. refl) p a.0 a.1

  pub came : (l : List Requested) (c : Finished) → fresh σ o l ≡ ends c → Came l c
  unfolding fresh whole run fitted
  came l c e =
      let h = with l in
      let m = o.measured in
      let a = then_ends _ _ c (sym (play_bind h (checked_measured m) (λ u. bind (checked_requested l) (λ v. run m l))) ∙ e) in
      let b = checked_ends h l (run m l) c a.2 in
      let f = then_ends _ _ c (sym (play_bind h (fit_map m) (fitted m l)) ∙ b.2) in
      let r =
      then_ends _ _ c (sym (play_bind h (evaluate f.0.point) (λ rows. banded m l f.0 (evaluation_of m f.0.point rows) rows.predicted)) ∙ f.2)
      in
      let s = evaluate_served l f.0.point r.0 r.1 in
      let z = closing_ends _ _ c (sym (banded_play l f.0 r.0 s) ∙ r.2) in
      record { checked = a.1; room = b.0; sound = b.1; fit = f.0; fits = f.1; rows = r.0; evaluated = r.1; served = s; whole = z.0; is = z.1 }

  -- ---- another list

  module _ (l : List Requested) (c : Finished) (w : Came l c) (k : List Requested) where
    -- what asks about the observations alone comes to the same: the hosts reply alike there
    moved : {A : Type 0} {n : ℕ} {t : Run A} {a : A} → Asks (λ p w. with k p w ≡ with l p w) n t → play (with l) t ≡ ends a → play (with k) t ≡ ends a
    moved s e = same_play (with k) (with l) s ∙ e

    entered : fresh σ o k ≡ play (with k) (bind (checked_requested k) (λ v. run o.measured k))
    unfolding fresh whole
    entered = play_then (with k) (checked_measured o.measured) _ tt (moved (asks_measured o.measured) w.checked)

    pub again :
        leb (length k) 64 ≡ true → first_at faulty_requested k ≡ 0 → fresh σ o k ≡ closing (gap_at σ w.fit.point k) (finished_at σ o k w.fit w.rows)
    unfolding run fitted checked_requested
    again room sound =
        let m = o.measured in
        entered
        ∙ rw (room, sound)
        (play_then (with k) (fit_map m) (fitted m k) w.fit (moved (asks_fit (λ p. refl) m) w.fits)
        ∙ play_then (with k) (evaluate w.fit.point) _ w.rows (moved (asks_evaluate (λ p. refl) _) w.evaluated)
        ∙ banded_play k w.fit w.rows w.served)

    pub again_faulty : (j : ℕ) → leb (length k) 64 ≡ true → first_at faulty_requested k ≡ suc j → fresh σ o k ≡ refuses 7 (suc j)
    unfolding checked_requested
    again_faulty j room faulty = entered ∙ rw (room, faulty)

    pub again_long : leb (length k) 64 ≡ false → fresh σ o k ≡ refuses 6 0
    unfolding checked_requested
    again_long room = entered ∙ rw room

    -- two lists whose fresh runs finish: the same fit, and the same rows at it
    pub again_ends : (d : Finished) → fresh σ o k ≡ ends d → d ≡ finished_at σ o k w.fit w.rows
    again_ends d e =
        let v = came k d e in
        (closing_ends (gap_at σ w.fit.point k) _ d (sym (again v.room v.sound) ∙ e)).1
