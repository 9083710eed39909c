-- A session within its limits and beyond them, over plain values. The functions' proofs cite these. Assumes nothing.
use Rattle.std.proofs.Common.{ℕ, ◌≡◌, refl, sym, ap, ◌∙◌, subst, Bool, true, false, Option, None, Some}
use Rattle.std.specs.Prelude.{cond}
use Rattle.definition.specs.Run.{Run, done, refuse, ask, Which, shots, distances, new}
use Rattle.definition.specs.Summary.{Finished}
use Rattle.definition.specs.Session.{standing, over, head, Said, counted, list_of, wants}
use Rattle.definition.specs.declared.Distances.{Distances}
use Rattle.definition.proofs.Calls.{Closed}
use Rattle.phases.specs.Phases.{state_at, plan_of, finished_of}
use Rattle.phases.specs.declared.Phase.TheVariants.{Over}
use Rattle.phases.proofs.Taken.{Open, open_state, closed_state}
use Rattle.run_body.specs.Meaning.{held_of, within_of, sizes_of}
use Rattle.run_body.specs.declared.Body.{Body}
use Rattle.run_body.specs.Meaning.{wanted_by}
use Rattle.session.specs.Meaning.{state, counted_by}
use Rattle.session.specs.declared.Session.{Session}

-- ---- the limits

pub state_within : (s : Session) → within_of s.body ≡ true → state s ≡ state_at (held_of s.body) s.phase
state_within s h = rw h

pub state_beyond : (s : Session) → within_of s.body ≡ false → state s ≡ over
state_beyond s h = rw h

-- a run that was refused is over, within its limits or not
pub state_over : (b : Body) (n : ℕ) → state (record { body = b; phase = Over; asked = n }) ≡ over
state_over b n = same (within_of b)
  where
    same : (w : Bool) → cond w over over ≡ over
    same true = refl
    same false = refl

-- ---- the open question

-- the distances that it is about, if one is open
abbrev pub asks_in : Session → Option Distances
asks_in s = cond (within_of s.body) (plan_of s.phase s.body.entered).asks None

-- a session with no question open is over, or its report stands
pub closed : (s : Session) → asks_in s ≡ None → Closed (state s)
closed s e = by (within_of s.body) refl
  where
    ended : (stands : Bool) → Closed (cond stands (standing (finished_of (held_of s.body))) over)
    ended true = tt
    ended false = tt

    by : (w : Bool) → within_of s.body ≡ w → Closed (state s)
    by false h = subst Closed (sym (state_beyond s h)) tt
    by true h =
        subst Closed (sym (state_within s h ∙ closed_state (held_of s.body) s.phase s.body.entered (rw h at e)))
        (ended (plan_of s.phase s.body.entered).stands)

-- and one with a question open is within its limits
pub open_within : (s : Session) (list : Distances) → asks_in s ≡ Some list → (within_of s.body ≡ true) × ((plan_of s.phase s.body.entered).asks ≡ Some list)
open_within s list e = by (within_of s.body) refl
  where
    by : (w : Bool) → within_of s.body ≡ w → (within_of s.body ≡ true) × ((plan_of s.phase s.body.entered).asks ≡ Some list)
    by true h = (h, rw h at e)
    by false h = absurd (let f = rw h at e in cc)

pub open_in : (s : Session) (list : Distances) → asks_in s ≡ Some list → Open (held_of s.body) s.phase list
open_in s list e = open_state (held_of s.body) s.phase s.body.entered list (open_within s list e).1

-- how many entries it wants
pub wants_by : (b : Body) (w : Which) → wants (sizes_of b) w ≡ wanted_by (list_of w) b.shots.n b.wanted.n
wants_by b shots = refl
wants_by b distances = refl
wants_by b (new d) = refl

-- ---- the count

-- one more exactly where the answer is a question
pub count_is : (said : Said) (n : ℕ) (t : Run Finished) → said ≡ head t → counted_by said n ≡ counted None n t
count_is said n t e = ap (λ (x : Said). counted_by x n) e ∙ by t
  where
    by : (u : Run Finished) → counted_by (head u) n ≡ counted None n u
    by (done c) = refl
    by (refuse m i) = refl
    by (ask p w k) = refl
