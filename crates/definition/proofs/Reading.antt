-- A list read from an index on, as a loop reads it: laws for a fold, for `any`, for `first_at`, and for three lists read together.
-- `d` is what `get_or` gives past the end; none of the laws reads it.
use Prim.Native.Nat.{ℕ, zero, suc, ◌+◌, ◌<◌, ◌≤◌}
use mathlib.Core.Path.{◌≡◌, refl, ap, ◌∙◌}
use mathlib.Core.Bool.{Bool, true, false, cond, ◌||◌}
use mathlib.Core.List.{List, [], ◌∷◌, foldl}
use native.Mathlib.Nat.{not-suc-le-zero, le_of_suc-le-suc}
use native.Mathlib.Omega.{arith}
use lib.ListN.{length, drop, get_or}
use lib.Seq.{drop-nil, drop-cons}
use Rattle.definition.specs.Lists.{next, first_at, any, zip_with3}

-- nothing is left past the end
pub rest_none : {A : Type 0} (l : List A) (i : ℕ) → length l ≤ i → drop i l ≡ []
rest_none {A} [] i h = drop-nil {A = A} i
rest_none (x ∷ l) zero h = absurd (not-suc-le-zero h)
rest_none (x ∷ l) (suc i) h = rest_none l i (le_of_suc-le-suc h)

module _ {A S : Type 0} (f : S → A → S) (d : A) where
  pub fold_next : (s : S) (l : List A) (i : ℕ) → i < length l → foldl f s (drop i l) ≡ foldl f (f s (get_or l i d)) (drop (suc i) l)
  fold_next s l i h = ap (λ (r : List A). foldl f s r) (drop-cons l i d h)

  pub fold_end : (s : S) (l : List A) (i : ℕ) → length l ≤ i → foldl f s (drop i l) ≡ s
  fold_end s l i h = ap (λ (r : List A). foldl f s r) (rest_none l i h)

-- the position of the first among those from an index on, as a position of the whole list
abbrev pub from : ℕ → ℕ → ℕ
from i zero = zero
from i (suc k) = suc (i + k)

from_next : (i k : ℕ) → from i (next k) ≡ from (suc i) k
from_next i zero = refl
from_next i (suc k) = omega arith

module _ {A : Type 0} (t : A → Bool) where
  -- where a is the one at the index
  pub any_here : (l : List A) (i : ℕ) {a : A} {r : List A} → drop i l ≡ a ∷ r → t a ≡ true → any t (drop i l) ≡ true
  any_here l i {a} {r} e h = ap (λ (q : List A). any t q) e ∙ ap (λ (b : Bool). b || any t r) h

  pub any_next : (l : List A) (i : ℕ) {a : A} {r : List A} → drop i l ≡ a ∷ r → t a ≡ false → any t (drop i l) ≡ any t r
  any_next l i {a} {r} e h = ap (λ (q : List A). any t q) e ∙ ap (λ (b : Bool). b || any t r) h

  pub any_none : (l : List A) (i : ℕ) → drop i l ≡ [] → any t (drop i l) ≡ false
  any_none l i e = ap (λ (q : List A). any t q) e

  pub first_here : (l : List A) (i : ℕ) {a : A} {r : List A} → drop i l ≡ a ∷ r → t a ≡ true → from i (first_at t (drop i l)) ≡ suc i
  first_here l i {a} {r} e h =
      ap (λ (q : List A). from i (first_at t q)) e ∙ ap (λ (b : Bool). from i (cond b 1 (next (first_at t r)))) h ∙ omega arith

  pub first_next : (l : List A) (i : ℕ) {a : A} {r : List A} → drop i l ≡ a ∷ r → t a ≡ false → from i (first_at t (drop i l)) ≡ from (suc i) (first_at t r)
  first_next l i {a} {r} e h =
      ap (λ (q : List A). from i (first_at t q)) e ∙ ap (λ (b : Bool). from i (cond b 1 (next (first_at t r)))) h ∙ from_next i (first_at t r)

  pub first_none : (l : List A) (i : ℕ) → drop i l ≡ [] → from i (first_at t (drop i l)) ≡ 0
  first_none l i e = ap (λ (q : List A). from i (first_at t q)) e

  pub first_start : (l : List A) → first_at t l ≡ from 0 (first_at t (drop 0 l))
  first_start l = start (first_at t l)
    where
      start : (k : ℕ) → k ≡ from 0 k
      start zero = refl
      start (suc k) = omega arith

module _ {A B C D : Type 0} (f : A → B → C → D) where
  pub zip_cons :
      (x : A) (y : B) (z : C) (l : List A) (m : List B) (n : List C) (i : ℕ) → i < length l → i < length m → i < length n
      → drop i (zip_with3 f l m n) ≡ f (get_or l i x) (get_or m i y) (get_or n i z) ∷ drop (suc i) (zip_with3 f l m n)
  zip_cons x y z [] m n i g h k = absurd (not-suc-le-zero g)
  zip_cons x y z (a ∷ l) [] n i g h k = absurd (not-suc-le-zero h)
  zip_cons x y z (a ∷ l) (b ∷ m) [] i g h k = absurd (not-suc-le-zero k)
  zip_cons x y z (a ∷ l) (b ∷ m) (c ∷ n) zero g h k = refl
  zip_cons x y z (a ∷ l) (b ∷ m) (c ∷ n) (suc i) g h k = zip_cons x y z l m n i (le_of_suc-le-suc g) (le_of_suc-le-suc h) (le_of_suc-le-suc k)

  -- at most as long as each of the three
  pub zip_first : (l : List A) (m : List B) (n : List C) → length (zip_with3 f l m n) ≤ length l
  zip_first [] m n = omega arith
  zip_first (a ∷ l) [] n = omega arith
  zip_first (a ∷ l) (b ∷ m) [] = omega arith
  zip_first (a ∷ l) (b ∷ m) (c ∷ n) = omega (arith, zip_first l m n)

  pub zip_second : (l : List A) (m : List B) (n : List C) → length (zip_with3 f l m n) ≤ length m
  zip_second [] m n = omega arith
  zip_second (a ∷ l) [] n = omega arith
  zip_second (a ∷ l) (b ∷ m) [] = omega arith
  zip_second (a ∷ l) (b ∷ m) (c ∷ n) = omega (arith, zip_second l m n)

  pub zip_third : (l : List A) (m : List B) (n : List C) → length (zip_with3 f l m n) ≤ length n
  zip_third [] m n = omega arith
  zip_third (a ∷ l) [] n = omega arith
  zip_third (a ∷ l) (b ∷ m) [] = omega arith
  zip_third (a ∷ l) (b ∷ m) (c ∷ n) = omega (arith, zip_third l m n)
