-- Squares, whole roots and what the definition's rounding gives, over whole numbers alone. Assumes nothing.
use mathlib.Core.Path.{◌≡◌, sym, ap, ◌∙◌, subst}
use Prim.Native.Nat.{ℕ, zero, suc, ◌+◌, ◌-◌, ◌*◌, ◌/◌, ◌^◌, ◌≤◌, ◌<◌, compare, Ordering}
use native.Mathlib.Nat.{le_antisymm, lt_of_lt_of_le, lt_of_le_of_lt, lt_of_not-le, not-le_of_lt, le_of_suc-le-suc, lt_irrefl, mul-le-mul, pow-succ'}
use native.Mathlib.Nat.{pow-le-pow_left, eq_of_mul-eq-mul_right, lt_of_mul-lt-mul_right}
use native.Mathlib.Omega.{arith}
use mathlib.Core.Bool.{Bool, true, false, not, cond}
use lib.Dec.{T, leb, is_le, compare_is_eq, eqb, leb→le, nleb→lt, eqb→eq, eqb_refl}
use lib.Arith.{lt_of_le-ne}
use lib.Pow.{pow_mono}
use lib.Ieee.{size, nearest}
use lib.Ieee.Digits.{size-lt, size-le}
use Rattle.root.specs.Root.{whole_root, isqrt}
use Rattle.root.specs.Steps.{Rounds}

pub square_lt : (a b : ℕ) → a * a < b * b → a < b
square_lt a b h = lt_of_not-le (λ (g : b ≤ a). not-le_of_lt h (mul-le-mul g g))

-- ---- w is the whole part of the root of n

abbrev pub Whole : ℕ → ℕ → Type 0
Whole n w = (w * w ≤ n) × (n < suc w * suc w)

digit : (v n : ℕ) → Whole (n / 4) v → (b : Bool) → (T b → suc (2 * v) * suc (2 * v) ≤ n) → (T (not b) → n < suc (2 * v) * suc (2 * v))
    → Whole n (cond b (suc (2 * v)) (2 * v))
digit v n h true yes-fits not-fits = let g = yes-fits tt in omega arith
digit v n h false yes-fits not-fits = let g = not-fits tt in omega arith

quarter : (d n : ℕ) → n < 4 ^ suc d → n / 4 < 4 ^ d
quarter d n h = omega arith

below_one : (n : ℕ) → n < 1 → Whole n 0
below_one n h = omega arith

whole_root_is : (d n : ℕ) → n < 4 ^ d → Whole n (whole_root d n)
unfolding whole_root
whole_root_is zero n h = below_one n h
whole_root_is (suc d) n h =
    let v = whole_root d (n / 4) in
    digit v n (whole_root_is d (n / 4) (quarter d n h)) (leb (suc (2 * v) * suc (2 * v)) n) (leb→le (suc (2 * v) * suc (2 * v)) n)
    (nleb→lt (suc (2 * v) * suc (2 * v)) n)

two_four : 2 ≤ 4
two_four = omega arith

pub isqrt_is : (n : ℕ) → Whole n (isqrt n)
unfolding isqrt
isqrt_is n = whole_root_is (size n) n (lt_of_lt_of_le (size-lt n) (pow-le-pow_left two_four (size n)))

-- ---- rounding to the nearest whole number

apart : (n q r : ℕ) → Rounds n q → Rounds n r → q < r → ⊥
apart n q r g h l =
    let a : q * suc q ≤ q * r = mul-le-mul {n₁ = q} (omega arith) l in
    let b : suc q * r ≤ r * r = mul-le-mul {m₁ = r} l (omega arith) in
    let c = g.upper in
    let d = h.lower in
    omega arith

pub rounds_unique : (n q r : ℕ) → Rounds n q → Rounds n r → q ≡ r
rounds_unique n q r g h =
    le_antisymm (le_of_suc-le-suc (lt_of_not-le (λ (l : r < q). apart n r q h g l))) (le_of_suc-le-suc (lt_of_not-le (λ (l : q < r). apart n q r g h l)))

-- what `compare` says
abbrev pub Cmp : Ordering → ℕ → ℕ → Type 0
Cmp Ordering.lt a b = a < b
Cmp Ordering.eq a b = a ≡ b
Cmp Ordering.gt a b = b < a

pub cmp : (a b : ℕ) → Cmp (compare a b) a b
cmp a b = go (compare a b) (leb→le a b) (nleb→lt a b) (eqb→eq a b) (λ (e : a ≡ b). subst (λ (x : ℕ). T (eqb a x)) e (eqb_refl a))
  where
    go : (o : Ordering) → (T (is_le o) → a ≤ b) → (T (not (is_le o)) → b < a) → (T (compare_is_eq o) → a ≡ b) → (a ≡ b → T (compare_is_eq o)) → Cmp o a b
    go Ordering.lt h k e n = lt_of_le-ne (h tt) n
    go Ordering.eq h k e n = e tt
    go Ordering.gt h k e n = k tt

pub cmp_scaled : (o : Ordering) (a b c : ℕ) → 0 < c → Cmp o (a * c) (b * c) → Cmp o a b
cmp_scaled Ordering.lt a b c p h = lt_of_mul-lt-mul_right c h
cmp_scaled Ordering.eq a b c p h = eq_of_mul-eq-mul_right c p a b h
cmp_scaled Ordering.gt a b c p h = lt_of_mul-lt-mul_right c h

-- The definition's choice is the nearest number. A tie would make an odd square even.
pub nearest_rounds : (n q : ℕ) (o : Ordering) → 0 < q → Whole n q → Cmp o (4 * n) ((2 * q + 1) * (2 * q + 1)) → Rounds n (nearest q o)
nearest_rounds n q Ordering.lt p w h = record { lower = omega arith; upper = omega arith }
nearest_rounds n q Ordering.eq p w h = absurd (no_tie n (q * q) q (multiplied n q h))
  where
    multiplied : (a b : ℕ) → 4 * a ≡ (2 * b + 1) * (2 * b + 1) → 4 * a ≡ 4 * (b * b) + 4 * b + 1
    multiplied a b e = omega arith

    no_tie : (a b c : ℕ) → 4 * a ≡ 4 * b + 4 * c + 1 → ⊥
    no_tie a b c e = omega arith
nearest_rounds n q Ordering.gt p w h = record { lower = omega arith; upper = omega arith }

-- ---- how many digits

pub power_lt : (i p : ℕ) → 2 ^ i < 2 ^ p → i < p
power_lt i p h = lt_of_not-le (λ (g : p ≤ i). lt_irrefl (2 ^ i) (lt_of_lt_of_le h (pow_mono g)))

pub size_is : (n j : ℕ) → 2 ^ j ≤ n → n < 2 ^ suc j → size n ≡ suc j
size_is n j lo hi = le_antisymm (size-le n (suc j) hi) (power_lt j (size n) (lt_of_le_of_lt lo (size-lt n)))

-- ---- a power of two by halves

pub suc_pred : (x : ℕ) → 0 < x → suc (x - 1) ≡ x
suc_pred x h = omega arith

pub twice_pred : (k : ℕ) → 0 < k → 2 * 2 ^ (k - 1) ≡ 2 ^ k
twice_pred k h = sym (pow-succ' 2 (k - 1)) ∙ ap (λ (x : ℕ). 2 ^ x) (suc_pred k h)
