-- The opening of the first 65 is refused as that of all is, or they are all. Assumes nothing.
use Prim.Native.Nat.{ℕ, zero, suc, ◌<◌}
use mathlib.Core.Path.{◌≡◌, refl, sym, ap, ◌∙◌, subst}
use mathlib.Core.Bool.{Bool, true, false}
use mathlib.Core.List.{List}
use mathlib.Core.Logic.{◌⊎◌, inl, inr}
use native.Mathlib.Omega.{arith}
use borrow.Author.Tests.{leb-true, leb-false, le-leb}
use lib.Dec.{leb}
use lib.ListN.{length, take, length-take}
use lib.Seq.{take_all}
use Rattle.definition.specs.Lists.{first_at}
use Rattle.definition.specs.Request.{Observation, Requested, Measured, Opening}
use Rattle.definition.specs.Run.{Run, done, refuse, bind, require, unless}
use Rattle.definition.specs.Whole.{faulty_observation, faulty_requested, sound_prior_of, checked_point, checked_count, checked_measured, checked_requested}
use Rattle.numeric.specs.Numeric.{within_of}
use Rattle.definition.specs.Whole.{whole}
use Rattle.criteria.specs.Criteria.{mv_min, mv_max, bc_min, bc_max}
use Rattle.requests.specs.Kept.{kept}

-- ---- the count of the first 65

module _ {A : Type 0} where
  below : (l : List A) → leb (length l) 64 ≡ true → take 65 l ≡ l
  below l h = take_all 65 l (omega (arith, leb-true (length l) 64 h))

  same_above : (l : List A) → leb (length (take 65 l)) 64 ≡ leb (length l) 64
  same_above l = by (leb (length l) 64) refl
    where
      by : (b : Bool) → leb (length l) 64 ≡ b → leb (length (take 65 l)) 64 ≡ b
      by true h = ap (λ (m : List A). leb (length m) 64) (below l h) ∙ h
      by false h = not_le (length (take 65 l)) (omega (arith, length-take 65 l, leb-false (length l) 64 h))
        where
          not_le : (n : ℕ) → 64 < n → leb n 64 ≡ false
          not_le n g = of (leb n 64) refl
            where
              of : (b : Bool) → leb n 64 ≡ b → b ≡ false
              of true e = absurd (omega (arith, leb-true n 64 e))
              of false e = refl

  above : (l : List A) → leb (length l) 64 ≡ false → leb 2 (length (take 65 l)) ≡ true
  above l h = le-leb 2 (length (take 65 l)) (omega (arith, length-take 65 l, leb-false (length l) 64 h))

-- ---- checks put no question: they pass or refuse

data Checks : Run (Unit {0}) → Type 0 where
  passes : Checks (done tt)
  fails : (n i : ℕ) → Checks (refuse n i)

checks_require : (b : Bool) (n i : ℕ) → Checks (require b n i)
checks_require true n i = passes
checks_require false n i = fails n i

checks_unless : (i n : ℕ) → Checks (unless i n)
checks_unless zero n = passes
checks_unless (suc i) n = fails n (suc i)

checks_bind : {t u : Run (Unit {0})} → Checks t → Checks u → Checks (bind t (λ a. u))
checks_bind passes d = d
checks_bind (fails n i) d = fails n i

checks_point : (m : Measured) → Checks (checked_point m.entered)
unfolding checked_point
checks_point m = checks_bind (checks_require (within_of mv_min mv_max m.entered.mv) 1 1) (checks_require (within_of bc_min bc_max m.entered.bc) 1 2)

checks_count : (l : List Observation) → Checks (checked_count l)
unfolding checked_count
checks_count l = checks_bind (checks_require (leb 2 (length l)) 2 0) (checks_require (leb (length l) 64) 3 0)

checks_measured : (m : Measured) → Checks (checked_measured m)
unfolding checked_measured
checks_measured m =
    checks_bind (checks_point m)
    (checks_bind (checks_count m.observations)
    (checks_bind (checks_unless (first_at faulty_observation m.observations) 4)
    (checks_bind (checks_require (sound_prior_of mv_min mv_max m.priors.muzzle_velocity_fps) 5 1)
    (checks_require (sound_prior_of bc_min bc_max m.priors.ballistic_coefficient) 5 2))))

-- two runs are refused by the same number and position
pub record Both {A B : Type 0} (t : Run A) (u : Run B) : Type 0 where
  pub number : ℕ
  pub position : ℕ
  pub one : t ≡ refuse number position
  pub other : u ≡ refuse number position

module _ {A B : Type 0} where
  both_first : (t u : Run (Unit {0})) → Both t u → (f : Unit {0} → Run A) (g : Unit {0} → Run B) → Both (bind t f) (bind u g)
  both_first t u h f g =
      record {
        number = h.number;
        position = h.position;
        one = ap (λ (x : Run (Unit {0})). bind x f) h.one;
        other = ap (λ (x : Run (Unit {0})). bind x g) h.other;
      }

  both_then : {t : Run (Unit {0})} → Checks t → {u : Run A} {v : Run B} → Both u v → Both (bind t (λ a. u)) (bind t (λ a. v))
  both_then passes d = d
  both_then (fails n i) d = record { number = n; position = i; one = refl; other = refl }

too_many : (l : List Observation) → leb 2 (length l) ≡ true → leb (length l) 64 ≡ false → checked_count l ≡ refuse 3 0
unfolding checked_count
too_many l e f = ap (λ (b : Bool). bind (require b 2 0) (λ a. require (leb (length l) 64) 3 0)) e ∙ ap (λ (b : Bool). require b 3 0) f

too_far : (l : List Requested) → leb (length l) 64 ≡ false → checked_requested l ≡ refuse 6 0
unfolding checked_requested
too_far l e = ap (λ (b : Bool). bind (require b 6 0) (λ a. unless (first_at faulty_requested l) 7)) e

count_both : (l : List Observation) → leb (length l) 64 ≡ false → Both (checked_count l) (checked_count (take 65 l))
count_both l e = record {
  number = 3;
  position = 0;
  one = too_many l (le-leb 2 (length l) (omega (arith, leb-false (length l) 64 e))) e;
  other = too_many (take 65 l) (above l e) (same_above l ∙ e);
}

requested_both : (l : List Requested) → leb (length l) 64 ≡ false → Both (checked_requested l) (checked_requested (take 65 l))
requested_both l e = record { number = 6; position = 0; one = too_far l e; other = too_far (take 65 l) (same_above l ∙ e) }

pub many_shots : (o : Opening) → leb (length o.measured.observations) 64 ≡ false → Both (whole o) (whole (kept o))
unfolding whole checked_measured
many_shots o e =
    both_first (checked_measured o.measured) (checked_measured (kept o).measured)
    (both_then (checks_point o.measured)
    (both_first (checked_count o.measured.observations) (checked_count (take 65 o.measured.observations)) (count_both o.measured.observations e) _
    _)) _ _

pub many_distances :
    (o : Opening) → leb (length o.measured.observations) 64 ≡ true → leb (length o.requested) 64 ≡ false → Both (whole o) (whole (kept o))
unfolding whole
many_distances o f e =
    subst (λ (l : List Observation). Both (whole o)
    (whole
    (record { measured = record { entered = o.measured.entered; observations = l; priors = o.measured.priors }; requested = take 65 o.requested })))
    (sym (below o.measured.observations f))
    (both_then (checks_measured o.measured)
    (both_first (checked_requested o.requested) (checked_requested (take 65 o.requested)) (requested_both o.requested e) _ _))

-- the first 65 are all, or the opening is refused, and that of all is too
pub kept_all : (o : Opening) → (kept o ≡ o) ⊎ Both (whole o) (whole (kept o))
kept_all o = by (leb (length o.measured.observations) 64) refl (leb (length o.requested) 64) refl
  where
    by : (u : Bool) → leb (length o.measured.observations) 64 ≡ u → (v : Bool) → leb (length o.requested) 64 ≡ v
        → (kept o ≡ o) ⊎ Both (whole o) (whole (kept o))
    by false e v f = inr (many_shots o e)
    by true e false f = inr (many_distances o e f)
    by true e true f =
        inl (λ i. record {
          measured = record { entered = o.measured.entered; observations = below o.measured.observations e i; priors = o.measured.priors };
          requested = below o.requested f i;
        })

pub kept_whole : (o : Opening) → whole (kept o) ≡ whole o
kept_whole o = by (kept_all o)
  where
    by : (kept o ≡ o) ⊎ Both (whole o) (whole (kept o)) → whole (kept o) ≡ whole o
    by (inl e) = ap whole e
    by (inr h) = h.other ∙ sym h.one
