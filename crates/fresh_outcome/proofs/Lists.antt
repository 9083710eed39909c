-- What an edit of a list does to the first that passes a test, to a map and to a length; and maps read together. Assumes nothing.
use Prim.Native.Nat.{ℕ, zero, suc, ◌≤◌, ◌<◌, min}
use mathlib.Core.Path.{◌≡◌, refl, ap, ◌∙◌}
use mathlib.Core.Bool.{Bool, true, false, cond, ◌||◌}
use mathlib.Core.List.{List, [], ◌∷◌, map}
use native.Mathlib.Nat.{not-suc-le-zero}
use native.Mathlib.Omega.{arith}
use lib.ListN.{length, set}
use Rattle.definition.specs.Lists.{next, first_of, first_at, insert_at, remove_at, zip_with, zip_with3}

next_zero : (n : ℕ) → next n ≡ 0 → n ≡ 0
next_zero zero e = refl
next_zero (suc n) e = absurd (omega arith)

-- none passes: the head does not, and none of the rest does
cond_zero : (b : Bool) (n : ℕ) → cond b 1 (next n) ≡ 0 → (b ≡ false) × (n ≡ 0)
cond_zero true n e = absurd (omega arith)
cond_zero false n e = (refl, next_zero n e)

next_first : (i j : ℕ) → first_of (next i) (next j) ≡ next (first_of i j)
next_first zero zero = refl
next_first zero (suc j) = refl
next_first (suc i) zero = refl
next_first (suc i) (suc j) =
    let e : min (suc i) (suc j) ≡ suc (min i j) = omega arith in
    ap suc e

module _ {A : Type 0} (t : A → Bool) where
  pub insert_hit : (a : A) (l : List A) (j : ℕ) → j ≤ length l → first_at t l ≡ 0 → t a ≡ true → first_at t (insert_at j a l) ≡ suc j
  insert_hit a l zero h z e = rw e
  insert_hit a [] (suc j) h z e = absurd (not-suc-le-zero h)
  insert_hit a (x ∷ l) (suc j) h z e = grind (arith, cond_zero, insert_hit a l j)

  pub insert_miss : (a : A) (l : List A) (j : ℕ) → first_at t l ≡ 0 → t a ≡ false → first_at t (insert_at j a l) ≡ 0
  insert_miss a l zero z e = rw (e, z)
  insert_miss a [] (suc j) z e = rw e
  insert_miss a (x ∷ l) (suc j) z e = grind (arith, cond_zero, insert_miss a l j)

  pub set_hit : (a : A) (l : List A) (j : ℕ) → j < length l → first_at t l ≡ 0 → t a ≡ true → first_at t (set l j a) ≡ suc j
  set_hit a [] j h z e = absurd (not-suc-le-zero h)
  set_hit a (x ∷ l) zero h z e = rw e
  set_hit a (x ∷ l) (suc j) h z e = grind (arith, cond_zero, set_hit a l j)

  pub set_miss : (a : A) (l : List A) (j : ℕ) → first_at t l ≡ 0 → t a ≡ false → first_at t (set l j a) ≡ 0
  set_miss a [] j z e = refl
  set_miss a (x ∷ l) zero z e = grind (arith, cond_zero)
  set_miss a (x ∷ l) (suc j) z e = grind (arith, cond_zero, set_miss a l j)

  pub remove_miss : (l : List A) (j : ℕ) → first_at t l ≡ 0 → first_at t (remove_at j l) ≡ 0
  remove_miss [] j z = refl
  remove_miss (x ∷ l) zero z = grind (arith, cond_zero)
  remove_miss (x ∷ l) (suc j) z = grind (arith, cond_zero, remove_miss l j)

  -- the first of two tests is the first of either
  pub first_either : (u : A → Bool) (l : List A) → first_of (first_at t l) (first_at u l) ≡ first_at (λ a. t a || u a) l
  first_either u [] = refl
  first_either u (a ∷ l) = go (t a) (u a) (first_at t l) (first_at u l) ∙ ap (λ (n : ℕ). cond (t a || u a) 1 (next n)) (first_either u l)
    where
      go : (x y : Bool) (m n : ℕ) → first_of (cond x 1 (next m)) (cond y 1 (next n)) ≡ cond (x || y) 1 (next (first_of m n))
      go true true m n = refl
      go true false m zero = refl
      go true false m (suc n) =
          let e : min 0 (suc n) ≡ 0 = omega arith in
          ap suc e
      go false true zero n = refl
      go false true (suc m) n =
          let e : min (suc m) 0 ≡ 0 = omega arith in
          ap suc e
      go false false m n = next_first m n

module _ {A B : Type 0} (f : A → B) where
  pub map_insert : (a : A) (l : List A) (j : ℕ) → map f (insert_at j a l) ≡ insert_at j (f a) (map f l)
  map_insert a l zero = refl
  map_insert a [] (suc j) = refl
  map_insert a (x ∷ l) (suc j) = ap (λ (r : List B). f x ∷ r) (map_insert a l j)

  pub map_remove : (l : List A) (j : ℕ) → map f (remove_at j l) ≡ remove_at j (map f l)
  map_remove [] j = refl
  map_remove (x ∷ l) zero = refl
  map_remove (x ∷ l) (suc j) = ap (λ (r : List B). f x ∷ r) (map_remove l j)

  -- the first entry of a map that passes a test
  pub first_map : (t : B → Bool) (l : List A) → first_at t (map f l) ≡ first_at (λ a. t (f a)) l
  first_map t [] = refl
  first_map t (a ∷ l) = ap (λ (n : ℕ). cond (t (f a)) 1 (next n)) (first_map t l)

pub zip_maps : {A B C D : Type 0} (h : B → C → D) (f : A → B) (g : A → C) (l : List A) → zip_with h (map f l) (map g l) ≡ map (λ a. h (f a) (g a)) l
zip_maps h f g [] = refl
zip_maps h f g (a ∷ l) = ap (λ r. h (f a) (g a) ∷ r) (zip_maps h f g l)

pub zip3_maps : {A B C D E : Type 0} (k : B → C → D → E) (f : A → B) (g : A → C) (h : A → D) (l : List A)
    → zip_with3 k (map f l) (map g l) (map h l) ≡ map (λ a. k (f a) (g a) (h a)) l
zip3_maps k f g h [] = refl
zip3_maps k f g h (a ∷ l) = ap (λ r. k (f a) (g a) (h a) ∷ r) (zip3_maps k f g h l)

pub zip_map : {A B C : Type 0} (h : A → B → C) (f : A → B) (l : List A) → zip_with h l (map f l) ≡ map (λ a. h a (f a)) l
zip_map h f [] = refl
zip_map h f (a ∷ l) = ap (λ r. h a (f a) ∷ r) (zip_map h f l)

pub insert_length : {A : Type 0} (a : A) (l : List A) (j : ℕ) → length (insert_at j a l) ≡ suc (length l)
insert_length a l zero = refl
insert_length a [] (suc j) = refl
insert_length a (x ∷ l) (suc j) = ap suc (insert_length a l j)

pub remove_shorter : {A : Type 0} (l : List A) (j : ℕ) → length (remove_at j l) ≤ length l
remove_shorter [] j = omega arith
remove_shorter (x ∷ l) zero = omega arith
remove_shorter (x ∷ l) (suc j) = omega (arith, remove_shorter l j)
