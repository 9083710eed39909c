-- How each fit of a run was verified, and after how many evaluations: `fit_shown`, with the radius that the source tests: `radius_tested`. Assumes nothing.
use Prim.Native.Nat.{ℕ, zero, suc, ◌+◌, ◌≤◌}
use mathlib.Core.Path.{◌≡◌, refl, sym, ap, ◌∙◌, subst}
use mathlib.Core.Bool.{Bool, true, false, cond}
use mathlib.Core.List.{List}
use native.Mathlib.Omega.{arith}
use lib.Dec.{eqb}
use lib.Ieee.{Float, le}
use borrow.Author.Tests.{ne_eqb}
use Rattle.numeric.specs.declared.Direction.{Direction}
use Rattle.criteria.specs.Criteria.{material_of}
use Rattle.definition.specs.Constants.{least_radius}
use Rattle.definition.specs.Request.{Requested, Measured}
use Rattle.definition.specs.Run.{Run, done, refuse, ask, bind}
use Rattle.definition.specs.Likelihood.{Rows, objective, evaluate, evaluation_of}
use Rattle.definition.specs.Mesh.{not_converged, Poll, Pass, PollStep, evaluates, ended, Looked, moved, none_moved, look, directions, on_look, ungained}
use Rattle.definition.specs.Mesh.{begin, judged, poll_step, seen, stopped_at, stopped, on_poll_step, poll, quartered_of}
use Rattle.definition.specs.Fit.{Fit, Trial, accepted, exhausted, flat_of, trials, meshed, verified, verify, on_trial, evaluated, iterate, fit_map}
use Rattle.definition.specs.Summary.{Finished}
use Rattle.definition.specs.Whole.{checked_measured, checked_requested, band_rows, baseline, concluded, banded, fitted, run, whole}
use Rattle.definition.specs.Laws.{Every, Shown, FitShown, radius_after, Level, RadiusTested}
use Rattle.definition.specs.declared.Point.{Point}
use Rattle.definition.specs.declared.Evaluation.{Evaluation}
use Rattle.definition.proofs.Polls.{ten_radii}

-- ---- properties of results

module _ {A B : Type 0} (Q : A → Type 0) (P : B → Type 0) where
  every_then : (t : Run A) (f : A → Run B) → Every Q t → ((a : A) → Q a → Every P (f a)) → Every P (bind t f)
  unfolding Every
  every_then (done a) f h k = k a h
  every_then (refuse c i) f h k = tt
  every_then (ask p w g) f h k = λ r. every_then (g r) f (h r) k

module _ {A B : Type 0} (P : B → Type 0) where
  every_after : (t : Run A) (f : A → Run B) → ((a : A) → Every P (f a)) → Every P (bind t f)
  unfolding Every
  every_after (done a) f k = k a
  every_after (refuse c i) f k = tt
  every_after (ask p w g) f k = λ r. every_after (g r) f k

module _ {B : Type 0} (P : B → Type 0) where
  every_done : (b : B) → P b → Every P (done b)
  unfolding Every
  every_done b h = h

  every_if : (b : Bool) (t u : Run B) → Every P t → Every P u → Every P (cond b t u)
  every_if true t u h k = h
  every_if false t u h k = k

-- ---- the poll

level_last : (radius : Float) → Level radius 0 → radius ≡ least_radius
level_last radius l =
    let s = l.sum in
    let e : l.before ≡ 9 = omega arith in
    l.is ∙ ap radius_after e ∙ ten_radii.last

level_next : (radius : Float) (smaller : ℕ) → Level radius (suc smaller) → Level (quartered_of radius) smaller
level_next radius smaller l =
    let s = l.sum in
    record { before = suc l.before; sum = omega arith; is = ap quartered_of l.is }

abbrev ShownPoll : Poll → Type 0
ShownPoll r = Shown r.convergence r.evaluations

-- a turn after n evaluations
abbrev TurnShown : ℕ → PollStep → Type 0
TurnShown n (evaluates c s) = Level s.radius s.smaller × (s.evaluations ≡ n)
TurnShown n (ended r) = n ≤ 1024 → ShownPoll r

on_look_shown : (l : Looked) (n : ℕ) (none : PollStep) (some : Point → List Point → PollStep) → TurnShown n none
    → ((c : Point) (ds : List Point) → TurnShown n (some c ds)) → TurnShown n (on_look l none some)
on_look_shown none_moved n none some h k = h
on_look_shown (moved c ds) n none some h k = k c ds

ungained_shown : (axis : Direction) (radius : Float) (smaller : ℕ) (centre : Point) (current best : Float) (n : ℕ) → Level radius smaller
    → TurnShown n (ungained axis radius smaller centre current best n)
unfolding ungained
ungained_shown axis radius zero centre current best n l = λ h. (level_last radius l, h)
ungained_shown axis radius (suc smaller) centre current best n l =
    let m = level_next radius smaller l in
    on_look_shown (look (quartered_of radius) centre (directions axis)) n _ _ (ungained_shown axis (quartered_of radius) smaller centre current current n m)
    (λ c ds. (m, refl))

begin_shown : (axis : Direction) (radius : Float) (smaller : ℕ) (centre : Point) (current : Float) (n : ℕ) → Level radius smaller
    → TurnShown n (begin axis radius smaller centre current n)
unfolding begin
begin_shown axis radius smaller centre current n l =
    on_look_shown (look radius centre (directions axis)) n _ _ (ungained_shown axis radius smaller centre current current n l) (λ c ds. (l, refl))

judged_shown : (s : Pass) → Level s.radius s.smaller → TurnShown s.evaluations (judged s)
unfolding judged
judged_shown s l = go (material_of s.current s.best)
  where
    go : (b : Bool)
        → TurnShown s.evaluations (cond b
        (begin s.axis s.radius s.smaller s.best_point s.best s.evaluations)
        (ungained s.axis s.radius s.smaller s.centre s.current s.best s.evaluations))
    go true = begin_shown s.axis s.radius s.smaller s.best_point s.best s.evaluations l
    go false = ungained_shown s.axis s.radius s.smaller s.centre s.current s.best s.evaluations l

turn_shown : (s : Pass) → Level s.radius s.smaller → TurnShown s.evaluations (poll_step s)
unfolding poll_step
turn_shown s l = on_look_shown (look s.radius s.centre s.remaining) s.evaluations _ _ (judged_shown s l) (λ c ds. (l, refl))

stopped_at_shown : (k : ℕ) (s : Pass) → Level s.radius k → s.evaluations ≡ 1024 → ShownPoll (stopped_at k s)
stopped_at_shown zero s l e = (level_last s.radius l, omega arith)
stopped_at_shown (suc k) s l e = e

stopped_shown : (s : Pass) → Level s.radius s.smaller → s.evaluations ≡ 1024 → ShownPoll (stopped s)
unfolding stopped
stopped_shown s l e = go (material_of s.current s.best)
  where
    go : (b : Bool)
        → ShownPoll (cond b (record { point = s.best_point; convergence = not_converged; evaluations = s.evaluations }) (stopped_at s.smaller s))
    go true = e
    go false = stopped_at_shown s.smaller s l e

-- ---- the radius is tested

level_tested : (radius : Float) (smaller : ℕ) → Level radius smaller → le radius least_radius ≡ eqb smaller 0
level_tested radius smaller l =
    let s = l.sum in
    ap (λ (r : Float). le r least_radius) l.is ∙ ten_radii.tested l.before (omega arith) ∙ by smaller s
  where
    by : (k : ℕ) → l.before + k ≡ 9 → eqb l.before 9 ≡ eqb k 0
    by zero e = ap (λ (n : ℕ). eqb n 9) (is_nine e)
      where
        is_nine : l.before + 0 ≡ 9 → l.before ≡ 9
        is_nine q = omega arith
    by (suc k) e = ne_eqb l.before 9 (λ q. omega arith) ∙ sym (ne_eqb (suc k) 0 (λ q. omega arith))

turn_level : (s t : Pass) (c : Point) → Level s.radius s.smaller → poll_step s ≡ evaluates c t → Level t.radius t.smaller
turn_level s t c l e = (subst (TurnShown s.evaluations) e (turn_shown s l)).0

pub radius_tested : RadiusTested
unfolding seen
radius_tested = record {
  first = λ information centre current. record { before = 0; sum = refl; is = refl };
  next = turn_level;
  seen_same = λ s c value l. l;
  quartered = level_next;
  tested = level_tested;
}

module _ (m : Measured) where
  on_turn_shown : (n : ℕ) (go : Pass → Run Poll) (t : PollStep) → TurnShown n t → n ≤ 1024
      → ((s : Pass) → Level s.radius s.smaller → s.evaluations ≡ suc n → Every ShownPoll (go s)) → Every ShownPoll (on_poll_step m go t)
  unfolding seen
  on_turn_shown n go (ended r) h l k = every_done ShownPoll r (h l)
  on_turn_shown n go (evaluates c s) h l k = every_after ShownPoll (objective m c) _ (λ value. k (seen c value s) h.0 (ap suc h.1))

  poll_shown : (left : ℕ) (s : Pass) → Level s.radius s.smaller → left + s.evaluations ≡ 1024 → Every ShownPoll (poll m left s)
  unfolding poll
  poll_shown zero s l e = every_done ShownPoll _ (stopped_shown s l (omega arith))
  poll_shown (suc left) s l e =
      on_turn_shown s.evaluations (poll m left) (poll_step s) (turn_shown s l) (omega arith) (λ t k h. poll_shown left t k (omega arith))

  -- ---- the fit

  abbrev ShownFit : Fit → Type 0
  ShownFit f = Shown f.convergence f.evaluations

  meshed_shown : (p : Point) (current : Float) (iterations : ℕ) (rows : Rows) → Every ShownFit (meshed m p current iterations rows)
  unfolding meshed
  meshed_shown p current iterations rows =
      every_then ShownPoll ShownFit _ _ (poll_shown 1024 _ (record { before = 0; sum = refl; is = refl }) refl) (λ r h. every_done ShownFit _ h)

  verified_shown : (p : Point) (current : Float) (iterations : ℕ) (rows : Rows) → Every ShownFit (verified m p current iterations rows)
  unfolding verified
  verified_shown p current iterations rows =
      every_if ShownFit (flat_of (evaluation_of m p rows)) _ _ (every_done ShownFit _ refl)
      (every_after ShownFit (evaluate p) _ (λ again. meshed_shown p current iterations again))

  verify_shown : (p : Point) (current : Float) (iterations : ℕ) → Every ShownFit (verify m p current iterations)
  unfolding verify
  verify_shown p current iterations = every_after ShownFit (evaluate p) _ (λ rows. verified_shown p current iterations rows)

  on_trial_shown : (go : Point → Float → Float → Run Fit) (none : Run Fit) (t : Trial) → ((q : Point) (value l : Float) → Every ShownFit (go q value l))
      → Every ShownFit none → Every ShownFit (on_trial m go none t)
  on_trial_shown go none (accepted q value l) h k = h q value l
  on_trial_shown go none exhausted h k = k

  evaluated_shown : (go : Point → Float → Float → Run Fit) (p : Point) (current damping : Float) (iterations : ℕ) (rows : Rows)
      → ((q : Point) (value l : Float) → Every ShownFit (go q value l)) → Every ShownFit (evaluated m go p current damping iterations rows)
  unfolding evaluated
  evaluated_shown go p current damping iterations rows h =
      every_if ShownFit (flat_of (evaluation_of m p rows)) _ _ (every_done ShownFit _ refl)
      (every_after ShownFit (trials m p current (evaluation_of m p rows) 30 damping) _ (λ t. on_trial_shown go _ t h (verify_shown p current iterations)))

  iterate_shown : (n : ℕ) (p : Point) (current damping : Float) (iterations : ℕ) → Every ShownFit (iterate m n p current damping iterations)
  unfolding iterate
  iterate_shown zero p current damping iterations = verify_shown p current iterations
  iterate_shown (suc n) p current damping iterations =
      every_after ShownFit (evaluate p) _
      (λ rows. evaluated_shown _ p current damping (suc iterations) rows (λ q value l. iterate_shown n q value l (suc iterations)))

  fit_map_shown : Every ShownFit (fit_map m)
  unfolding fit_map
  fit_map_shown = every_after ShownFit (objective m m.entered) _ (λ current. iterate_shown 100 _ current _ 0)

-- ---- the run

abbrev ShownFinished : Finished → Type 0
ShownFinished c = Shown c.fit.convergence c.fit.evaluations

module _ (m : Measured) (ds : List Requested) where
  concluded_shown : (f : Fit) (e : Evaluation) (drops : List Float) (bands : Rows) → Shown f.convergence f.evaluations
      → Every ShownFinished (concluded m ds f e drops bands)
  unfolding concluded
  concluded_shown f e drops bands h = every_after ShownFinished (baseline m) _ (λ b. every_done ShownFinished _ h)

  fitted_shown : (f : Fit) → Shown f.convergence f.evaluations → Every ShownFinished (fitted m ds f)
  unfolding fitted banded
  fitted_shown f h =
      every_after ShownFinished (evaluate f.point) _
      (λ rows. every_after ShownFinished (band_rows f.point ds) _ (λ bands. concluded_shown f _ _ bands h))

  run_shown : Every ShownFinished (run m ds)
  unfolding run
  run_shown = every_then (ShownFit m) ShownFinished (fit_map m) (fitted m ds) (fit_map_shown m) fitted_shown

pub fit_shown : FitShown
unfolding whole
fit_shown o =
    every_after ShownFinished (checked_measured o.measured) _
    (λ u. every_after ShownFinished (checked_requested o.requested) _ (λ v. run_shown o.measured o.requested))
