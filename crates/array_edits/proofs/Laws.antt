-- Lists with one put in or taken out, read place by place, and the arrays over which they are laid. Assumes nothing.
use Rattle.std.proofs.Common.{◌≡◌, ℕ, zero, suc, ◌≤◌, ◌<◌, ◌+◌, ◌-◌, List, [], ◌∷◌, ◌++◌, length, take, drop, get_or, set, refl, sym, ap, arith}
use Rattle.std.specs.List.{copy_within}
use native.Mathlib.Nat.{not-suc-le-zero, le_of_suc-le-suc}
use native.Mathlib.Numerals.{add-one}
use borrow.Author.Tests.{lt-ltb, le-ltb, le-leb, lt-leb}
use lib.ListN.{length-take}
use Rattle.definition.specs.Lists.{insert_at, remove_at}
use Rattle.slices.specs.Slices.{laid_over}
use Rattle.likelihood.proofs.Laws.{over_take}
use Rattle.array_edits.specs.Places.{inserted_of, removed_of}

module _ {A : Type 0} where
  pub insert_length : (a : A) (l : List A) (j : ℕ) → length (insert_at j a l) ≡ suc (length l)
  insert_length a l zero = refl
  insert_length a [] (suc j) = refl
  insert_length a (x ∷ l) (suc j) = ap suc (insert_length a l j)

  -- below the place nothing moves
  pub insert_start : (a : A) (l : List A) (j : ℕ) → j ≤ length l → laid_over (take j (insert_at j a l)) l ≡ l
  insert_start a l zero h = refl
  insert_start a [] (suc j) h = absurd (not-suc-le-zero h)
  insert_start a (x ∷ l) (suc j) h = ap (λ (r : List A). x ∷ r) (insert_start a l j (le_of_suc-le-suc h))

  pub insert_at_lem : (a : A) (l : List A) (j : ℕ) (d : A) → j ≤ length l → get_or (insert_at j a l) j d ≡ a
  insert_at_lem a l zero d h = refl
  insert_at_lem a [] (suc j) d h = absurd (not-suc-le-zero h)
  insert_at_lem a (x ∷ l) (suc j) d h = insert_at_lem a l j d (le_of_suc-le-suc h)

  pub insert_past : (a : A) (l : List A) (j i : ℕ) (d : A) → j ≤ i → i < length l → get_or (insert_at j a l) (suc i) d ≡ get_or l i d
  insert_past a l zero i d g h = refl
  insert_past a [] (suc j) i d g h = absurd (not-suc-le-zero h)
  insert_past a (x ∷ l) (suc j) zero d g h = absurd (not-suc-le-zero g)
  insert_past a (x ∷ l) (suc j) (suc i) d g h = insert_past a l j i d (le_of_suc-le-suc g) (le_of_suc-le-suc h)

  pub insert_take : (a : A) (l : List A) (j n : ℕ) → j ≤ n → n ≤ length l → take (suc n) (insert_at j a l) ≡ insert_at j a (take n l)
  insert_take a l zero n g h = refl
  insert_take a l (suc j) zero g h = absurd (not-suc-le-zero g)
  insert_take a [] (suc j) (suc n) g h = absurd (not-suc-le-zero h)
  insert_take a (x ∷ l) (suc j) (suc n) g h = ap (λ (r : List A). x ∷ r) (insert_take a l j n (le_of_suc-le-suc g) (le_of_suc-le-suc h))

  pub remove_length : (l : List A) (j : ℕ) → j < length l → suc (length (remove_at j l)) ≡ length l
  remove_length [] j h = absurd (not-suc-le-zero h)
  remove_length (x ∷ l) zero h = refl
  remove_length (x ∷ l) (suc j) h = ap suc (remove_length l j (le_of_suc-le-suc h))

  pub remove_start : (l : List A) (j : ℕ) → j < length l → laid_over (take j (remove_at j l)) l ≡ l
  remove_start [] j h = absurd (not-suc-le-zero h)
  remove_start (x ∷ l) zero h = refl
  remove_start (x ∷ l) (suc j) h = ap (λ (r : List A). x ∷ r) (remove_start l j (le_of_suc-le-suc h))

  pub remove_past : (l : List A) (j i : ℕ) (d : A) → j ≤ i → get_or (remove_at j l) i d ≡ get_or l (suc i) d
  remove_past [] j i d g = refl
  remove_past (x ∷ l) zero i d g = refl
  remove_past (x ∷ l) (suc j) zero d g = absurd (not-suc-le-zero g)
  remove_past (x ∷ l) (suc j) (suc i) d g = remove_past l j i d (le_of_suc-le-suc g)

  pub remove_take : (l : List A) (j n : ℕ) → j ≤ n → n < length l → take n (remove_at j l) ≡ remove_at j (take (suc n) l)
  remove_take [] j n g h = absurd (not-suc-le-zero h)
  remove_take (x ∷ l) zero n g h = refl
  remove_take (x ∷ l) (suc j) zero g h = absurd (not-suc-le-zero g)
  remove_take (x ∷ l) (suc j) (suc n) g h = ap (λ (r : List A). x ∷ r) (remove_take l j n (le_of_suc-le-suc g) (le_of_suc-le-suc h))

  -- a list laid over one that is no shorter
  over_is : (xs ys : List A) (n : ℕ) → length xs ≡ n → n ≤ length ys → laid_over xs ys ≡ xs ++ drop n ys
  over_is [] ys zero e h = refl
  over_is [] ys (suc n) e h = absurd (omega arith)
  over_is (x ∷ xs) ys zero e h = absurd (omega arith)
  over_is (x ∷ xs) [] (suc n) e h = absurd (not-suc-le-zero h)
  over_is (x ∷ xs) (y ∷ ys) (suc n) e h = ap (λ (r : List A). x ∷ r) (over_is xs ys n (omega arith) (omega arith))

  moved_up : (a : A) (l : List A) (i k m n : ℕ) → k + i ≡ n → m ≡ suc n → n < length l
      → set (take (suc i) l ++ take k (drop i l) ++ drop m l) i a ≡ laid_over (insert_at i a (take n l)) l
  moved_up a [] i k m n e f h = absurd (not-suc-le-zero h)
  moved_up a (x ∷ l) zero k m n e f h =
      let g : k ≡ n = omega arith in
      let t = length-take n (x ∷ l) in
      rw (f, g) (ap (λ (r : List A). a ∷ r) (sym (over_is (take n (x ∷ l)) l n (omega arith) (omega arith))))
  moved_up a (x ∷ l) (suc i) k m zero e f h = absurd (omega arith)
  moved_up a (x ∷ l) (suc i) k zero (suc n) e f h = absurd (omega arith)
  moved_up a (x ∷ l) (suc i) k (suc m) (suc n) e f h = ap (λ (r : List A). x ∷ r) (moved_up a l i k m n (omega arith) (omega arith) (omega arith))

  moved_down : (l : List A) (i k m n : ℕ) → suc (k + i) ≡ n → m ≡ k + i → n ≤ length l
      → take i l ++ take k (drop (suc i) l) ++ drop m l ≡ laid_over (remove_at i (take n l)) l
  moved_down l i k m zero e f h = absurd (omega arith)
  moved_down [] i k m (suc n) e f h = absurd (not-suc-le-zero h)
  moved_down (x ∷ l) zero k m (suc n) e f h =
      let g : k ≡ n = omega arith in
      let j : m ≡ n = omega arith in
      let t = length-take n l in
      rw (j, g) (sym (over_is (take n l) (x ∷ l) n (omega arith) (omega arith)))
  moved_down (x ∷ l) (suc i) k zero (suc n) e f h = absurd (omega arith)
  moved_down (x ∷ l) (suc i) k (suc m) (suc n) e f h = ap (λ (r : List A). x ∷ r) (moved_down l i k m n (omega arith) (omega arith) (omega arith))

  -- what the code does
  pub put_in : (a : A) (l : List A) (i n : ℕ) → i ≤ n → n < length l → set (copy_within l i n (i + 1)) i a ≡ laid_over (insert_at i a (take n l)) l
  put_in a l i n g h = rw add-one (moved_up a l i (n - i) (suc i + (n - i)) n (omega arith) (omega arith) h)

  pub taken_out : (l : List A) (i n : ℕ) → i < n → n ≤ length l → copy_within l (i + 1) n i ≡ laid_over (remove_at i (take n l)) l
  taken_out l i n g h = rw add-one (moved_down l i (n - suc i) (i + (n - suc i)) n (omega arith) (omega arith) h)

  -- beyond the end nothing is exchanged
  pub set_past : (l : List A) (i : ℕ) (x : A) → length l ≤ i → set l i x ≡ l
  set_past [] i x h = refl
  set_past (y ∷ l) zero x h = absurd (not-suc-le-zero h)
  set_past (y ∷ l) (suc i) x h = ap (λ (r : List A). y ∷ r) (set_past l i x (le_of_suc-le-suc h))

  -- ---- the cases of the arrays with one put in or taken out

  module _ (n i : ℕ) (old : List A) where
    module _ (x : A) where
      pub inserted_is : i ≤ n → n < 64 → inserted_of n i x old ≡ laid_over (insert_at i x (take n old)) old
      unfolding inserted_of
      inserted_is g h = simp (le-leb i n g, lt-ltb n 64 h)

      pub inserted_beyond : n < i → inserted_of n i x old ≡ old
      unfolding inserted_of
      inserted_beyond h = simp (lt-leb i n h)

      pub inserted_full : i ≤ n → 64 ≤ n → inserted_of n i x old ≡ old
      unfolding inserted_of
      inserted_full g h = simp (le-leb i n g, le-ltb n 64 h)

    pub removed_is : i < n → n ≤ 64 → removed_of n i old ≡ laid_over (remove_at i (take n old)) old
    unfolding removed_of
    removed_is g h = simp (lt-ltb i n g, le-leb n 64 h)

    pub removed_beyond : n ≤ i → removed_of n i old ≡ old
    unfolding removed_of
    removed_beyond h = simp (le-ltb i n h)

    pub removed_full : i < n → 64 < n → removed_of n i old ≡ old
    unfolding removed_of
    removed_full g h = simp (lt-ltb i n g, lt-leb n 64 h)

  -- ---- the places in use

  pub inserted_places : (n i : ℕ) (old : List A) (x : A) → length old ≡ 64 → i ≤ n → n < 64
      → take (n + 1) (inserted_of n i x old) ≡ insert_at i x (take n old)
  unfolding inserted_of
  inserted_places n i old x l g h =
      let t = length-take n old in
      let m = insert_length x (take n old) i in
      rw (le-leb i n g, lt-ltb n 64 h) (over_take (insert_at i x (take n old)) old (n + 1) (omega arith) (omega arith))

  pub removed_places : (n i : ℕ) (old : List A) → length old ≡ 64 → i < n → n ≤ 64 → take (n - 1) (removed_of n i old) ≡ remove_at i (take n old)
  unfolding removed_of
  removed_places n i old l g h =
      let t = length-take n old in
      let m = remove_length (take n old) i (omega arith) in
      rw (lt-ltb i n g, le-leb n 64 h) (over_take (remove_at i (take n old)) old (n - 1) (omega arith) (omega arith))
