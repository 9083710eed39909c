-- The poll's evaluations are its questions, and its ten radii: `poll_counted`, `fit_evaluations`, `ten_radii`. Assumes nothing.
use Prim.Native.Nat.{ℕ, zero, suc, ◌≤◌}
use mathlib.Core.Path.{◌≡◌, refl, ap, ◌∙◌}
use mathlib.Core.Bool.{Bool, true, false, cond}
use mathlib.Core.List.{List}
use native.Mathlib.Omega.{arith}
use lib.Dec.{eqb}
use lib.Ieee.{Float, mul, is_nan, lt, eq, le, of_bits}
use Rattle.definition.specs.Constants.{least_radius}
use Rattle.numeric.specs.Numeric.{finite, max_of}
use Rattle.numeric.specs.declared.Direction.{Direction}
use Rattle.criteria.specs.Criteria.{material_of}
use Rattle.definition.specs.Request.{Measured}
use Rattle.definition.specs.Run.{Run, done, bind, Reply, refused, entries, reading_of, answered, unless, require}
use Rattle.definition.specs.Likelihood.{objective_of, valued, objective}
use Rattle.definition.specs.Mesh.{Poll, not_converged, Pass, PollStep, evaluates, ended, Looked, moved, none_moved, look, directions, ungained, begin}
use Rattle.definition.specs.Mesh.{judged, poll_step, seen, stopped_at, stopped, on_poll_step, on_look, poll, quartered_of}
use Rattle.definition.specs.Summary.{diagnostics_of, report_of}
use Rattle.definition.specs.Laws.{Counted, PollCounted, FitEvaluations, radius_after, TenRadii}
use Rattle.definition.specs.declared.Point.{Point}

-- ---- what a turn does not change

-- the evaluations at a turn
abbrev pub evaluations_of : PollStep → ℕ
evaluations_of (evaluates c s) = s.evaluations
evaluations_of (ended r) = r.evaluations

on_look_lem : (l : Looked) (n : ℕ) (none : PollStep) (some : Point → List Point → PollStep) → evaluations_of none ≡ n
    → ((c : Point) (ds : List Point) → evaluations_of (some c ds) ≡ n)
    → evaluations_of (on_look l none some) ≡ n
on_look_lem none_moved n none some h k = h
on_look_lem (moved c ds) n none some h k = k c ds

ungained_same : (axis : Direction) (radius : Float) (smaller : ℕ) (centre : Point) (current best : Float) (n : ℕ)
    → evaluations_of (ungained axis radius smaller centre current best n) ≡ n
unfolding ungained
ungained_same axis radius zero centre current best n = refl
ungained_same axis radius (suc smaller) centre current best n =
    on_look_lem (look (quartered_of radius) centre (directions axis)) n _ _ (ungained_same axis (quartered_of radius) smaller centre current current n) (λ c ds. refl)

begin_same : (axis : Direction) (radius : Float) (smaller : ℕ) (centre : Point) (current : Float) (n : ℕ)
    → evaluations_of (begin axis radius smaller centre current n) ≡ n
unfolding begin
begin_same axis radius smaller centre current n =
    on_look_lem (look radius centre (directions axis)) n _ _ (ungained_same axis radius smaller centre current current n) (λ c ds. refl)

judged_same : (s : Pass) → evaluations_of (judged s) ≡ s.evaluations
unfolding judged
judged_same s = go (material_of s.current s.best)
  where
    go : (b : Bool) → evaluations_of (cond b
        (begin s.axis s.radius s.smaller s.best_point s.best s.evaluations)
        (ungained s.axis s.radius s.smaller s.centre s.current s.best s.evaluations)) ≡ s.evaluations
    go true = begin_same s.axis s.radius s.smaller s.best_point s.best s.evaluations
    go false = ungained_same s.axis s.radius s.smaller s.centre s.current s.best s.evaluations

pub turn_same : (s : Pass) → evaluations_of (poll_step s) ≡ s.evaluations
unfolding poll_step
turn_same s = on_look_lem (look s.radius s.centre s.remaining) s.evaluations _ _ (judged_same s) (λ c ds. refl)

stopped_at_same : (n : ℕ) (s : Pass) → (stopped_at n s).evaluations ≡ s.evaluations
stopped_at_same zero s = refl
stopped_at_same (suc n) s = refl

stopped_same : (s : Pass) → (stopped s).evaluations ≡ s.evaluations
unfolding stopped
stopped_same s = go (material_of s.current s.best) (stopped_at_same s.smaller s)
  where
    go : (b : Bool) → (stopped_at s.smaller s).evaluations ≡ s.evaluations
        → (cond {A = Poll} b (record { point = s.best_point; convergence = not_converged; evaluations = s.evaluations })
        (stopped_at s.smaller s)).evaluations ≡ s.evaluations
    go true h = refl
    go false h = h

-- ---- the poll

-- a candidate's question, whose reply is judged without another
valued_counted : (m : Measured) (p : Point) (r : Reply) (n : ℕ) (f : Float → Run Poll) → ((x : Float) → Counted n (f x))
    → Counted n (bind (bind (answered r) (valued m p)) f)
unfolding valued
valued_counted m p refused n f h = tt
valued_counted m p (entries es) n f h = go (reading_of es).gap (finite (objective_of m p (reading_of es).drops))
  where
    go : (i : ℕ) (b : Bool)
        → Counted n (bind (bind (unless i 11) (λ u. bind (require b 12 0) (λ v. done (objective_of m p (reading_of es).drops)))) f)
    go zero true = h _
    go zero false = tt
    go (suc i) b = tt

module _ (m : Measured) where
  on_turn_counted : (n : ℕ) (go : Pass → Run Poll) (t : PollStep) → evaluations_of t ≡ n → ((s : Pass) → s.evaluations ≡ suc n → Counted (suc n) (go s))
      → Counted n (on_poll_step m go t)
  unfolding objective seen
  on_turn_counted n go (ended r) e h = e
  on_turn_counted n go (evaluates c s) e h = λ r. valued_counted m c r (suc n) _ (λ x. h _ (ap suc e))

  poll_from : (left : ℕ) (s : Pass) (n : ℕ) → s.evaluations ≡ n → Counted n (poll m left s)
  unfolding poll
  poll_from zero s n e = stopped_same s ∙ e
  poll_from (suc left) s n e = on_turn_counted n (poll m left) (poll_step s) (turn_same s ∙ e) (λ t h. poll_from left t (suc n) h)

pub poll_counted : PollCounted
poll_counted m information centre current = poll_from m 1024 _ 0 refl

pub fit_evaluations : FitEvaluations
unfolding report_of diagnostics_of
fit_evaluations = record { of_poll = λ i r. refl; without_poll = λ p i c. refl; reported = λ c. refl }

ten_tested : (n : ℕ) → n ≤ 9 → le (radius_after n) least_radius ≡ eqb n 9
unfolding quartered_of max_of is_nan lt eq le mul of_bits
ten_tested zero h = refl
ten_tested (suc zero) h = refl
ten_tested (suc (suc zero)) h = refl
ten_tested (suc (suc (suc zero))) h = refl
ten_tested (suc (suc (suc (suc zero)))) h = refl
ten_tested (suc (suc (suc (suc (suc zero))))) h = refl
ten_tested (suc (suc (suc (suc (suc (suc zero)))))) h = refl
ten_tested (suc (suc (suc (suc (suc (suc (suc zero))))))) h = refl
ten_tested (suc (suc (suc (suc (suc (suc (suc (suc zero)))))))) h = refl
ten_tested (suc (suc (suc (suc (suc (suc (suc (suc (suc zero))))))))) h = refl
ten_tested (suc (suc (suc (suc (suc (suc (suc (suc (suc (suc n)))))))))) h = absurd (omega arith)

last_radius : radius_after 9 ≡ least_radius
unfolding quartered_of max_of is_nan lt mul of_bits
last_radius = refl

pub ten_radii : TenRadii
ten_radii = record { last = last_radius; tested = ten_tested }
