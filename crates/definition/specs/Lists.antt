-- Lists as the scope speaks of them: positions and places are counted from 1.
use Rattle.std.specs.Prelude.{ℕ, zero, suc, min, Bool, false, cond, ◌||◌, List, [], ◌∷◌}

-- one more than a position, where there is one: 0 is none
abbrev pub next : ℕ → ℕ
next zero = zero
next (suc i) = suc (suc i)

-- the first of two positions, where 0 is none
abbrev pub first_of : ℕ → ℕ → ℕ
first_of zero j = j
first_of (suc i) zero = suc i
first_of (suc i) (suc j) = suc (min i j)

module _ {A : Type 0} where
  -- the position of the first that passes the test, 0 where none does
  abbrev pub first_at : (A → Bool) → List A → ℕ
  first_at t [] = zero
  first_at t (a ∷ xs) = cond (t a) 1 (next (first_at t xs))

  abbrev pub any : (A → Bool) → List A → Bool
  any t [] = false
  any t (a ∷ xs) = t a || any t xs

  -- a goes in at an index, later ones moving up
  abbrev pub insert_at : ℕ → A → List A → List A
  insert_at zero a xs = a ∷ xs
  insert_at (suc i) a [] = a ∷ []
  insert_at (suc i) a (b ∷ ys) = b ∷ insert_at i a ys

  -- the one at an index goes out
  abbrev pub remove_at : ℕ → List A → List A
  remove_at i [] = []
  remove_at zero (a ∷ xs) = xs
  remove_at (suc i) (a ∷ xs) = a ∷ remove_at i xs

module _ {A B S : Type 0} where
  -- two lists read together from the left, up to the end of the shorter
  abbrev pub fold_pairs : (S → A → B → S) → S → List A → List B → S
  fold_pairs f s [] ys = s
  fold_pairs f s (a ∷ xs) [] = s
  fold_pairs f s (a ∷ xs) (b ∷ ys) = fold_pairs f (f s a b) xs ys

  abbrev pub zip_with : (A → B → S) → List A → List B → List S
  zip_with f [] ys = []
  zip_with f (a ∷ xs) [] = []
  zip_with f (a ∷ xs) (b ∷ ys) = f a b ∷ zip_with f xs ys

module _ {A B C D : Type 0} where
  abbrev pub zip_with3 : (A → B → C → D) → List A → List B → List C → List D
  zip_with3 f [] ys zs = []
  zip_with3 f (a ∷ xs) [] zs = []
  zip_with3 f (a ∷ xs) (b ∷ ys) [] = []
  zip_with3 f (a ∷ xs) (b ∷ ys) (c ∷ zs) = f a b c ∷ zip_with3 f xs ys zs
