-- Laws of the lists that slices and arrays stand for: folds and zips up to an index, a list laid over another, the first that passes a test, a reply's entries.
use Rattle.std.specs.Prelude.{Option, None, Some}
use Rattle.std.specs.List.{position, prefix_len}
use Rattle.std.specs.Prelude.{ltb, not, unwrap_or, slice_get}
use Rattle.std.proofs.lemmas.Option.{slice_get_past}
use Rattle.definition.specs.Run.{Entry, is_missing, drop_or0}
use Rattle.std.proofs.lemmas.Bool.Decides.{nat_tests}
use Prim.Native.Nat.{ℕ, zero, suc, ◌+◌, ◌≤◌, ◌<◌, min}
use mathlib.Core.Path.{◌≡◌, refl, sym, ap, ◌∙◌}
use mathlib.Core.Bool.{Bool, true, false, cond, ◌||◌}
use mathlib.Core.List.{List, [], ◌∷◌, ◌++◌, map, foldl}
use native.Mathlib.Nat.{not-suc-le-zero, le_of_suc-le-suc}
use native.Mathlib.Omega.{arith}
use native.Mathlib.Numerals.{add-one}
use Rattle.std.proofs.Common.{add_comm}
use lib.ListN.{length, take, get_or, set, length-take, get_or-map}
use lib.Seq.{take-nil}
use lib.Ieee.{Float}
use Rattle.definition.specs.Lists.{next, first_at, fold_pairs, zip_with, zip_with3}
use Rattle.numeric.specs.Numeric.{zero64}
use Rattle.definition.specs.Request.{Observation}
use Rattle.definition.specs.Likelihood.{with_shot, chi_square_of, row_of, no_sums, with_row, sums_of}
use Rattle.definition.specs.declared.Point.{Point}
use Rattle.definition.specs.declared.Row.{Row}
use Rattle.definition.specs.Meaning.{observation_of, observations_of}
use Rattle.slices.specs.Slices.{shortest_of, laid_over}

-- ---- two lists read together

module _ {A B S : Type 0} (f : S → A → B → S) where
  -- one turn more
  pub fold_suc : (s : S) (xs : List A) (ys : List B) (i : ℕ) (d : A) (e : B) → i < length xs → i < length ys
      → fold_pairs f s (take (suc i) xs) (take (suc i) ys) ≡ f (fold_pairs f s (take i xs) (take i ys)) (get_or xs i d) (get_or ys i e)
  fold_suc s [] ys i d e g h = absurd (not-suc-le-zero g)
  fold_suc s (x ∷ xs) [] i d e g h = absurd (not-suc-le-zero h)
  fold_suc s (x ∷ xs) (y ∷ ys) zero d e g h = refl
  fold_suc s (x ∷ xs) (y ∷ ys) (suc i) d e g h = fold_suc (f s x y) xs ys i d e (le_of_suc-le-suc g) (le_of_suc-le-suc h)

  -- up to the end of the shorter is all
  pub fold_all : (s : S) (xs : List A) (ys : List B) (i : ℕ) → min (length xs) (length ys) ≤ i → fold_pairs f s (take i xs) (take i ys) ≡ fold_pairs f s xs ys
  fold_all s [] ys i h = rw (take-nil {A = A} i)
  fold_all s (x ∷ xs) [] zero h = refl
  fold_all s (x ∷ xs) [] (suc i) h = refl
  fold_all s (x ∷ xs) (y ∷ ys) zero h = absurd (omega arith)
  fold_all s (x ∷ xs) (y ∷ ys) (suc i) h = fold_all (f s x y) xs ys i (omega arith)

  -- what lies past the end of the shorter is not read
  pub fold_take_left : (s : S) (xs : List A) (ys : List B) (n : ℕ) → length ys ≤ n → fold_pairs f s (take n xs) ys ≡ fold_pairs f s xs ys
  fold_take_left s [] ys n h = rw (take-nil {A = A} n)
  fold_take_left s (x ∷ xs) [] zero h = refl
  fold_take_left s (x ∷ xs) [] (suc n) h = refl
  fold_take_left s (x ∷ xs) (y ∷ ys) zero h = absurd (not-suc-le-zero h)
  fold_take_left s (x ∷ xs) (y ∷ ys) (suc n) h = fold_take_left (f s x y) xs ys n (le_of_suc-le-suc h)

  pub fold_take_right : (s : S) (xs : List A) (ys : List B) (n : ℕ) → length xs ≤ n → fold_pairs f s xs (take n ys) ≡ fold_pairs f s xs ys
  fold_take_right s [] ys n h = refl
  fold_take_right s (x ∷ xs) [] n h = rw (take-nil {A = B} n)
  fold_take_right s (x ∷ xs) (y ∷ ys) zero h = absurd (not-suc-le-zero h)
  fold_take_right s (x ∷ xs) (y ∷ ys) (suc n) h = fold_take_right (f s x y) xs ys n (le_of_suc-le-suc h)

module _ {A B S : Type 0} (f : A → B → S) where
  pub zip_length : (xs : List A) (ys : List B) → length (zip_with f xs ys) ≡ min (length xs) (length ys)
  zip_length [] ys = omega arith
  zip_length (x ∷ xs) [] = omega arith
  zip_length (x ∷ xs) (y ∷ ys) = omega (arith, zip_length xs ys)

  pub zip_at : (xs : List A) (ys : List B) (i : ℕ) (s : S) (d : A) (e : B) → i < length xs → i < length ys
      → get_or (zip_with f xs ys) i s ≡ f (get_or xs i d) (get_or ys i e)
  zip_at [] ys i s d e g h = absurd (not-suc-le-zero g)
  zip_at (x ∷ xs) [] i s d e g h = absurd (not-suc-le-zero h)
  zip_at (x ∷ xs) (y ∷ ys) zero s d e g h = refl
  zip_at (x ∷ xs) (y ∷ ys) (suc i) s d e g h = zip_at xs ys i s d e (le_of_suc-le-suc g) (le_of_suc-le-suc h)

  pub zip_take : (xs : List A) (ys : List B) (i : ℕ) → zip_with f (take i xs) (take i ys) ≡ take i (zip_with f xs ys)
  zip_take xs ys zero = refl
  zip_take [] ys (suc i) = refl
  zip_take (x ∷ xs) [] (suc i) = refl
  zip_take (x ∷ xs) (y ∷ ys) (suc i) = ap (λ (r : List S). f x y ∷ r) (zip_take xs ys i)

  -- what lies past the end of the second is not read
  pub zip_take_left : (xs : List A) (ys : List B) (n : ℕ) → length ys ≤ n → zip_with f (take n xs) ys ≡ zip_with f xs ys
  zip_take_left [] ys n h = rw (take-nil {A = A} n)
  zip_take_left (x ∷ xs) [] zero h = refl
  zip_take_left (x ∷ xs) [] (suc n) h = refl
  zip_take_left (x ∷ xs) (y ∷ ys) zero h = absurd (not-suc-le-zero h)
  zip_take_left (x ∷ xs) (y ∷ ys) (suc n) h = ap (λ (r : List S). f x y ∷ r) (zip_take_left xs ys n (le_of_suc-le-suc h))

  pub zip_over : (xs zs : List A) (ys : List B) → length ys ≤ length xs → length xs ≤ length zs → zip_with f (laid_over xs zs) ys ≡ zip_with f xs ys
  zip_over [] [] ys g h = refl
  zip_over [] (z ∷ zs) [] g h = refl
  zip_over [] (z ∷ zs) (y ∷ ys) g h = absurd (not-suc-le-zero g)
  zip_over (x ∷ xs) [] ys g h = absurd (not-suc-le-zero h)
  zip_over (x ∷ xs) (z ∷ zs) [] g h = refl
  zip_over (x ∷ xs) (z ∷ zs) (y ∷ ys) g h = ap (λ (r : List S). f x y ∷ r) (zip_over xs zs ys (le_of_suc-le-suc g) (le_of_suc-le-suc h))

module _ {A B C D : Type 0} (f : A → B → C → D) where
  pub zip3_length : (xs : List A) (ys : List B) (zs : List C) → length (zip_with3 f xs ys zs) ≡ min (length xs) (min (length ys) (length zs))
  zip3_length [] ys zs = omega arith
  zip3_length (x ∷ xs) [] zs = omega arith
  zip3_length (x ∷ xs) (y ∷ ys) [] = omega arith
  zip3_length (x ∷ xs) (y ∷ ys) (z ∷ zs) = omega (arith, zip3_length xs ys zs)

  pub zip3_shortest : (xs : List A) (ys : List B) (zs : List C) → length (zip_with3 f xs ys zs) ≡ shortest_of (length xs) (length ys) (length zs)
  zip3_shortest xs ys zs = zip3_length xs ys zs

  pub zip3_within : (xs : List A) (ys : List B) (zs : List C)
      → (length (zip_with3 f xs ys zs) ≤ length xs) × (length (zip_with3 f xs ys zs) ≤ length ys) × (length (zip_with3 f xs ys zs) ≤ length zs)
  zip3_within xs ys zs = let e = zip3_length xs ys zs in (omega arith, omega arith, omega arith)

  pub zip3_at : (xs : List A) (ys : List B) (zs : List C) (i : ℕ) (q : D) (d : A) (e : B) (g : C) → i < length xs → i < length ys → i < length zs
      → get_or (zip_with3 f xs ys zs) i q ≡ f (get_or xs i d) (get_or ys i e) (get_or zs i g)
  zip3_at [] ys zs i q d e g h k l = absurd (not-suc-le-zero h)
  zip3_at (x ∷ xs) [] zs i q d e g h k l = absurd (not-suc-le-zero k)
  zip3_at (x ∷ xs) (y ∷ ys) [] i q d e g h k l = absurd (not-suc-le-zero l)
  zip3_at (x ∷ xs) (y ∷ ys) (z ∷ zs) zero q d e g h k l = refl
  zip3_at (x ∷ xs) (y ∷ ys) (z ∷ zs) (suc i) q d e g h k l = zip3_at xs ys zs i q d e g (le_of_suc-le-suc h) (le_of_suc-le-suc k) (le_of_suc-le-suc l)

  pub zip3_take : (xs : List A) (ys : List B) (zs : List C) (i : ℕ) → zip_with3 f (take i xs) (take i ys) (take i zs) ≡ take i (zip_with3 f xs ys zs)
  zip3_take xs ys zs zero = refl
  zip3_take [] ys zs (suc i) = refl
  zip3_take (x ∷ xs) [] zs (suc i) = refl
  zip3_take (x ∷ xs) (y ∷ ys) [] (suc i) = refl
  zip3_take (x ∷ xs) (y ∷ ys) (z ∷ zs) (suc i) = ap (λ (r : List D). f x y z ∷ r) (zip3_take xs ys zs i)

  -- one place more
  pub zip3_suc : (xs : List A) (ys : List B) (zs : List C) (i : ℕ) (d : A) (e : B) (g : C) → i < length xs → i < length ys → i < length zs
      → zip_with3 f (take (suc i) xs) (take (suc i) ys) (take (suc i) zs)
      ≡ zip_with3 f (take i xs) (take i ys) (take i zs) ++ (f (get_or xs i d) (get_or ys i e) (get_or zs i g) ∷ [])
  zip3_suc [] ys zs i d e g h k l = absurd (not-suc-le-zero h)
  zip3_suc (x ∷ xs) [] zs i d e g h k l = absurd (not-suc-le-zero k)
  zip3_suc (x ∷ xs) (y ∷ ys) [] i d e g h k l = absurd (not-suc-le-zero l)
  zip3_suc (x ∷ xs) (y ∷ ys) (z ∷ zs) zero d e g h k l = refl
  zip3_suc (x ∷ xs) (y ∷ ys) (z ∷ zs) (suc i) d e g h k l =
      ap (λ (r : List D). f x y z ∷ r) (zip3_suc xs ys zs i d e g (le_of_suc-le-suc h) (le_of_suc-le-suc k) (le_of_suc-le-suc l))

  -- one of the three cut is all three cut
  pub zip3_take_first : (xs : List A) (ys : List B) (zs : List C) (i : ℕ) → zip_with3 f (take i xs) ys zs ≡ take i (zip_with3 f xs ys zs)
  zip3_take_first xs ys zs zero = refl
  zip3_take_first [] ys zs (suc i) = refl
  zip3_take_first (x ∷ xs) [] zs (suc i) = refl
  zip3_take_first (x ∷ xs) (y ∷ ys) [] (suc i) = refl
  zip3_take_first (x ∷ xs) (y ∷ ys) (z ∷ zs) (suc i) = ap (λ (r : List D). f x y z ∷ r) (zip3_take_first xs ys zs i)

  -- the one at a place, by those at the place of each
  pub zip3_get : (xs : List A) (ys : List B) (zs : List C) (i : ℕ) (a : A) (b : B) (c : C)
      → slice_get xs i ≡ Some a → slice_get ys i ≡ Some b → slice_get zs i ≡ Some c → slice_get (zip_with3 f xs ys zs) i ≡ Some (f a b c)
  zip3_get [] ys zs i a b c g h k = cc
  zip3_get (x ∷ xs) [] zs i a b c g h k = cc
  zip3_get (x ∷ xs) (y ∷ ys) [] i a b c g h k = cc
  zip3_get (x ∷ xs) (y ∷ ys) (z ∷ zs) zero a b c g h k = cc
  zip3_get (x ∷ xs) (y ∷ ys) (z ∷ zs) (suc i) a b c g h k = zip3_get xs ys zs i a b c g h k

  pub zip3_past : (xs : List A) (ys : List B) (zs : List C) (i : ℕ) → min (length xs) (min (length ys) (length zs)) ≤ i
      → slice_get (zip_with3 f xs ys zs) i ≡ None
  zip3_past xs ys zs i h = let e = zip3_length xs ys zs in slice_get_past (zip_with3 f xs ys zs) i (omega arith)

-- ---- a list laid over another

module _ {A : Type 0} where
  pub over_length : (xs ys : List A) → length (laid_over xs ys) ≡ length ys
  over_length [] ys = refl
  over_length (x ∷ xs) [] = refl
  over_length (x ∷ xs) (y ∷ ys) = ap suc (over_length xs ys)

  -- its first places are the list that was laid there
  pub over_take : (xs ys : List A) (n : ℕ) → length xs ≡ n → n ≤ length ys → take n (laid_over xs ys) ≡ xs
  over_take [] ys zero e h = refl
  over_take [] ys (suc n) e h = absurd (omega arith)
  over_take (x ∷ xs) ys zero e h = absurd (omega arith)
  over_take (x ∷ xs) [] (suc n) e h = absurd (not-suc-le-zero h)
  over_take (x ∷ xs) (y ∷ ys) (suc n) e h = ap (λ (r : List A). x ∷ r) (over_take xs ys n (omega arith) (le_of_suc-le-suc h))

  pub over_at : (xs ys : List A) (i : ℕ) (d : A) → i < length xs → i < length ys → get_or (laid_over xs ys) i d ≡ get_or xs i d
  over_at [] ys i d g h = absurd (not-suc-le-zero g)
  over_at (x ∷ xs) [] i d g h = absurd (not-suc-le-zero h)
  over_at (x ∷ xs) (y ∷ ys) zero d g h = refl
  over_at (x ∷ xs) (y ∷ ys) (suc i) d g h = over_at xs ys i d (le_of_suc-le-suc g) (le_of_suc-le-suc h)

  -- and the places past it are as they were
  pub over_past : (xs ys : List A) (i : ℕ) (d : A) → length xs ≤ i → get_or (laid_over xs ys) i d ≡ get_or ys i d
  over_past [] ys i d h = refl
  over_past (x ∷ xs) [] i d h = refl
  over_past (x ∷ xs) (y ∷ ys) zero d h = absurd (not-suc-le-zero h)
  over_past (x ∷ xs) (y ∷ ys) (suc i) d h = over_past xs ys i d (le_of_suc-le-suc h)

  -- what is covered whole leaves nothing
  pub over_over : (xs ys zs : List A) → length ys ≤ length xs → laid_over xs (laid_over ys zs) ≡ laid_over xs zs
  over_over xs [] zs h = refl
  over_over [] (y ∷ ys) zs h = absurd (not-suc-le-zero h)
  over_over (x ∷ xs) (y ∷ ys) [] h = refl
  over_over (x ∷ xs) (y ∷ ys) (z ∷ zs) h = ap (λ (r : List A). x ∷ r) (over_over xs ys zs (le_of_suc-le-suc h))

  -- one place more
  pub over_suc : (xs ys : List A) (i : ℕ) (d : A) → i < length xs → i < length ys
      → set (laid_over (take i xs) ys) i (get_or xs i d) ≡ laid_over (take (suc i) xs) ys
  over_suc [] ys i d g h = absurd (not-suc-le-zero g)
  over_suc (x ∷ xs) [] i d g h = absurd (not-suc-le-zero h)
  over_suc (x ∷ xs) (y ∷ ys) zero d g h = refl
  over_suc (x ∷ xs) (y ∷ ys) (suc i) d g h = ap (λ (r : List A). x ∷ r) (over_suc xs ys i d (le_of_suc-le-suc g) (le_of_suc-le-suc h))

  pub over_all : (xs ys : List A) (i : ℕ) → min (length xs) (length ys) ≤ i → laid_over (take i xs) ys ≡ laid_over xs ys
  over_all [] ys i h = rw (take-nil {A = A} i)
  over_all (x ∷ xs) [] zero h = refl
  over_all (x ∷ xs) [] (suc i) h = refl
  over_all (x ∷ xs) (y ∷ ys) zero h = absurd (omega arith)
  over_all (x ∷ xs) (y ∷ ys) (suc i) h = ap (λ (r : List A). x ∷ r) (over_all xs ys i (omega arith))

-- of an array that is zipped with a list of n, and the outcome laid over it: its first n places are the outcome
pub over_zip : {A B : Type 0} (f : A → B → A) (xs : List A) (ys : List B) (n : ℕ) → length ys ≡ n → n ≤ length xs
    → take n (laid_over (zip_with f xs ys) xs) ≡ zip_with f (take n xs) ys
over_zip f xs ys n e h =
    let l = zip_length f xs ys in
    over_take (zip_with f xs ys) xs n (omega arith) h ∙ sym (zip_take_left f xs ys n (omega arith))

-- ---- the first that passes a test

pub cond_none : (b : Bool) (k : ℕ) → cond b 1 (next k) ≡ 0 → (b ≡ false) × (k ≡ 0)
cond_none true k e = absurd (omega arith)
cond_none false zero e = (refl, refl)
cond_none false (suc k) e = absurd (omega arith)

module _ {A : Type 0} (t : A → Bool) where
  -- none up to an index, and not there
  pub first_suc : (l : List A) (i : ℕ) (d : A) → i < length l → first_at t (take i l) ≡ 0 → t (get_or l i d) ≡ false → first_at t (take (suc i) l) ≡ 0
  first_suc [] i d h z e = absurd (not-suc-le-zero h)
  first_suc (x ∷ l) zero d h z e = rw e
  first_suc (x ∷ l) (suc i) d h z e =
      let b = cond_none (t x) (first_at t (take i l)) z in
      rw (b.0, first_suc l i d (le_of_suc-le-suc h) b.1 e)

  -- none up to an index, and there
  pub first_here : (l : List A) (i : ℕ) (d : A) → i < length l → first_at t (take i l) ≡ 0 → t (get_or l i d) ≡ true → first_at t l ≡ suc i
  first_here [] i d h z e = absurd (not-suc-le-zero h)
  first_here (x ∷ l) zero d h z e = rw e
  first_here (x ∷ l) (suc i) d h z e =
      let b = cond_none (t x) (first_at t (take i l)) z in
      rw (b.0, first_here l i d (le_of_suc-le-suc h) b.1 e)

-- ---- a reply's drops

-- one place more of a list that is laid over another, by what stands there
pub laid_suc : (xs ys : List Float) (i : ℕ) (x : Float) → i < length xs → i < length ys → x ≡ get_or xs i zero64
    → set (laid_over (take i xs) ys) i x ≡ laid_over (take (i + 1) xs) ys
laid_suc xs ys i x g h e = rw (e, add-one) (over_suc xs ys i zero64 g h)

-- an entry's drop, or 0
pub drop_or_zero : (e : Option Float) → unwrap_or e zero64 ≡ drop_or0 e
drop_or_zero None = refl
drop_or_zero (Some x) = refl

pub drop_at : (es : List (Option Float)) (i : ℕ) → unwrap_or (get_or es i None) zero64 ≡ get_or (map drop_or0 es) i zero64
drop_at es i = drop_or_zero (get_or es i None) ∙ sym (get_or-map drop_or0 es i None)

-- where none is missing, the drops are the reply's
pub entries_drops : (es : List Entry) → first_at is_missing es ≡ 0 → map (λ (d : Float). Some d) (map drop_or0 es) ≡ es
entries_drops [] z = refl
entries_drops (None ∷ es) z = absurd (omega arith)
entries_drops (Some d ∷ es) z = ap (λ (r : List Entry). Some d ∷ r) (entries_drops es (cond_none false (first_at is_missing es) z).1)

-- ---- the sums over arrays of which the first n places are in use

pub chi_square_take : (obs : List Observation) (drops : List Float) (n : ℕ) → length drops ≤ n → chi_square_of (take n obs) drops ≡ chi_square_of obs drops
unfolding chi_square_of
chi_square_take obs drops n h = fold_take_left with_shot zero64 obs drops n h

pub sums_take : (p : Point) (obs : List Observation) (rows : List Row) (n : ℕ) → length obs ≤ n → sums_of p obs (take n rows) ≡ sums_of p obs rows
unfolding sums_of
sums_take p obs rows n h = fold_take_right (with_row p) no_sums obs rows n h

-- arrays hold n observations, and a reply has n drops: what lies past them does not count
pub chi_square_places : (ranges drops sigmas predicted : List Float) (n : ℕ) → length predicted ≤ n
    → chi_square_of (observations_of ranges drops sigmas) predicted ≡ chi_square_of (observations_of (take n ranges) (take n drops) (take n sigmas)) predicted
chi_square_places ranges drops sigmas predicted n h =
    sym (chi_square_take (observations_of ranges drops sigmas) predicted n h)
    ∙ ap (λ (o : List Observation). chi_square_of o predicted) (sym (zip3_take observation_of ranges drops sigmas n))

-- arrays hold n observations and n rows
pub sums_places : (p : Point) (ranges drops sigmas predicted by_mv by_bc : List Float) (n : ℕ)
    → sums_of p (observations_of (take n ranges) drops sigmas) (zip_with3 row_of predicted by_mv by_bc)
    ≡ sums_of p (observations_of (take n ranges) (take n drops) (take n sigmas)) (zip_with3 row_of (take n predicted) (take n by_mv) (take n by_bc))
sums_places p ranges drops sigmas predicted by_mv by_bc n =
    let obs = observations_of ranges drops sigmas in
    let rows = zip_with3 row_of predicted by_mv by_bc in
    let l = length-take n obs in
    ap (λ (o : List Observation). sums_of p o rows) (zip3_take_first observation_of ranges drops sigmas n)
    ∙ sym (sums_take p (take n obs) rows n (omega arith))
    ∙ ap (λ (o : List Observation). sums_of p o (take n rows)) (sym (zip3_take observation_of ranges drops sigmas n))
    ∙ ap (λ (r : List Row). sums_of p (observations_of (take n ranges) (take n drops) (take n sigmas)) r) (sym (zip3_take row_of predicted by_mv by_bc n))

-- ---- the first that passes a test, by the library's index of it

-- one more than an index, where there is one
abbrev pub counted : Option ℕ → ℕ
counted None = 0
counted (Some i) = suc i

-- an index below a length, counted from 1, and 0 at the length
abbrev below : ℕ → ℕ → ℕ
below n m = counted (cond (ltb n m) (Some n) None)

below_suc : (n m : ℕ) → below (suc n) (suc m) ≡ next (below n m)
below_suc n m = grind (arith, nat_tests)

module _ {A : Type 0} (t : A → Bool) where
  by_test : (b : Bool) (n m : ℕ) → below (cond (not b) (1 + n) 0) (suc m) ≡ cond b 1 (next (below n m))
  by_test true n m = grind (arith, nat_tests)
  by_test false n m = rw (add_comm 1 n, add-one) (below_suc n m)

  pub first_at_position : (l : List A) → first_at t l ≡ counted (position t l)
  first_at_position [] = refl
  first_at_position (x ∷ l) =
      ap (λ (k : ℕ). cond (t x) 1 (next k)) (first_at_position l) ∙ sym (by_test (t x) (prefix_len (λ y. not (t y)) l) (length l))

  inside : (n m i : ℕ) → cond (ltb n m) (Some n) None ≡ Some i → i < m
  inside n m i e = grind (arith, nat_tests, e)

  pub position_within : (l : List A) (i : ℕ) → position t l ≡ Some i → i < length l
  position_within l i e = inside (prefix_len (λ y. not (t y)) l) (length l) i e

-- ---- whether any passes a test, without an early end

module _ {A : Type 0} (t : A → Bool) where
  found_stays : (l : List A) → foldl (λ (found : Bool) (x : A). found || t x) true l ≡ true
  found_stays [] = refl
  found_stays (x ∷ l) = found_stays l

  none_next : (b : Bool) (l : List A) → foldl (λ (found : Bool) (x : A). found || t x) b l ≡ false
      → (foldl (λ (found : Bool) (x : A). found || t x) false l ≡ false → first_at t l ≡ 0) → cond b 1 (next (first_at t l)) ≡ 0
  none_next true l e f = let s = found_stays l in absurd (cc)
  none_next false l e f = rw (f e)

  -- none is found, so none is the first
  pub none_found : (l : List A) → foldl (λ (found : Bool) (x : A). found || t x) false l ≡ false → first_at t l ≡ 0
  none_found [] e = refl
  none_found (x ∷ l) e = none_next (t x) l e (none_found l)
