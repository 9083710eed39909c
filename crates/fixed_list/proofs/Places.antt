-- An item goes to the first place that holds none. Assumes nothing.
use Rattle.std.proofs.Common.{◌≡◌, ℕ, suc, ◌+◌, ◌-◌, ◌<◌, List, [], ◌∷◌, ◌++◌, length, take, replicate, slice_set, refl, sym, ap, ◌∙◌, arith}
use mathlib.Core.List.{append_assoc}
use lib.Seq.{length-take-le}

module _ {A : Type 0} (x : A) where
  set_first : (p : List A) (y : A) (ys : List A) → slice_set (p ++ (y ∷ ys)) (length p) x ≡ p ++ (x ∷ ys)
  set_first [] y ys = refl
  set_first (z ∷ p) y ys = ap (λ zs. z ∷ zs) (set_first p y ys)

  take_first : (p ys : List A) → take (suc (length p)) (p ++ (x ∷ ys)) ≡ p ++ (x ∷ [])
  take_first [] ys = refl
  take_first (z ∷ p) ys = ap (λ zs. z ∷ zs) (take_first p ys)

  set_by : (c p : List A) (b : A) (k m r : ℕ) → c ≡ p ++ replicate r b → r ≡ suc m → length p ≡ k → slice_set c k x ≡ p ++ (x ∷ replicate m b)
  set_by c p b k m r e f g = rw (e, f, ← g) (set_first p b (replicate m b))

  take_by : (c p ys : List A) (k : ℕ) → c ≡ p ++ (x ∷ ys) → length p ≡ k → take (k + 1) c ≡ p ++ (x ∷ [])
  take_by c p ys k e g = let h : k + 1 ≡ suc (length p) = omega (arith, g) in rw (h, e) (take_first p ys)

  module _ (c : List A) (b : A) (k n : ℕ) (h : k < n) (l : length c ≡ n) (e : c ≡ take k c ++ replicate (n - k) b) where
    set_next : slice_set c k x ≡ take k c ++ (x ∷ replicate (n - (k + 1)) b)
    set_next = set_by c (take k c) b k (n - (k + 1)) (n - k) e (omega arith) (length-take-le k c (omega arith))

    -- the items with one more
    pub items_next : take (k + 1) (slice_set c k x) ≡ take k c ++ (x ∷ [])
    items_next = take_by (slice_set c k x) (take k c) (replicate (n - (k + 1)) b) k set_next (length-take-le k c (omega arith))

    -- the places behind the new item hold what they held
    pub blank_behind : slice_set c k x ≡ take (k + 1) (slice_set c k x) ++ replicate (n - (k + 1)) b
    blank_behind = rw items_next (set_next ∙ sym (append_assoc (take k c) (x ∷ []) (replicate (n - (k + 1)) b)))
