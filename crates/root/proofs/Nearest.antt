-- The theorems of specs/Nearest.antt: the definition gives the double that IEEE 754 asks for, and there is one only. Assumes nothing.
use mathlib.Core.Path.{◌≡◌, sym, ap, ◌∙◌, subst}
use mathlib.Core.Logic.{inl, inr}
use Prim.Native.Nat.{ℕ, zero, suc, ◌+◌, ◌-◌, ◌*◌, ◌/◌, ◌%◌, ◌^◌, ◌≤◌, ◌<◌, zero-le}
use native.Mathlib.Nat.{not-suc-le-zero, le_refl, le_trans, le_of_eq, le_of_lt, le_of_suc-le-suc, le_antisymm, lt_of_lt_of_le, lt_of_le_of_lt, lt_of_not-le}
use native.Mathlib.Nat.{lt_irrefl, lt_trans, eq-or-lt_of_le, add-le-add, mul-pos, mul-le-mul, mul-le-mul_left, mul-le-mul_right, mul-lt-mul_of_pos_right}
use native.Mathlib.Nat.{mul-lt-mul_of_pos_left}
use native.Mathlib.Omega.{arith}
use lib.Dec.{lit<}
use lib.Pow.{pow_pos}
use lib.Ieee.{binary64, of_bits, to_bits}
use lib.Ieee.Bits.{to_bits-of_bits}
use Rattle.root.specs.Root.{isqrt}
use Rattle.root.specs.Nearest.{magnitude, infinity, square, exact, NearestRoot, Nearest, Unique, Farther, Stands}
use Rattle.root.specs.Steps.{Rounds}
use Rattle.root.proofs.Patterns.{pattern_value, magnitude_lt, made_magnitude, no_nan}
use Rattle.root.proofs.Definition.{square_of, chosen, chosen_rounds, rounds_least, rounds_most, root_is}
use Rattle.root.proofs.Scaling.{Even, scales, made_even}

pub stands : Stands
stands = pattern_value

-- ---- unique, and nearer than any other

magnitude_le : (b c : ℕ) → b ≤ c → magnitude b ≤ magnitude c
magnitude_le b c h = elim (eq-or-lt_of_le h) [ inl e ↦ le_of_eq (ap magnitude e) | inr l ↦ le_of_lt (magnitude_lt b c l) ]

square_le : (a b : ℕ) → a ≤ b → square a ≤ square b
square_le a b h = mul-le-mul h h

midpoints : (b r s : ℕ) → NearestRoot b r → NearestRoot b s → r < s → ⊥
midpoints b r s g h l =
    lt_irrefl (4 * exact b)
    (lt_of_lt_of_le g.below_upper
    (le_trans (square_le (magnitude r + magnitude (r + 1)) (magnitude (s - 1) + magnitude s)
    (add-le-add (magnitude_le r (s - 1) (omega arith)) (magnitude_le (r + 1) s (omega arith))))
    (le_of_lt h.above_lower)))

pub unique : Unique
unique b r s g h =
    le_antisymm (le_of_suc-le-suc (lt_of_not-le (λ (l : s < r). midpoints b s r h g l)))
    (le_of_suc-le-suc (lt_of_not-le (λ (l : r < s). midpoints b r s g h l)))

pub farther : Farther
farther b r y g = (
  λ l. lt_of_lt_of_le g.below_upper
      (square_le (magnitude r + magnitude (r + 1)) (magnitude r + magnitude y) (add-le-add (le_refl (magnitude r)) (magnitude_le (r + 1) y (omega arith)))),
  λ l. lt_of_le_of_lt (square_le (magnitude r + magnitude y) (magnitude (r - 1) + magnitude r)
      (other (magnitude r) (magnitude y) (magnitude (r - 1)) (magnitude_le y (r - 1) (omega arith)))) g.above_lower,
)
  where
    other : (x y z : ℕ) → y ≤ z → x + y ≤ z + x
    other x y z h = omega arith

-- ---- the definition gives it: with p = 2 ^ k the result's magnitude is q * p, and the input's N * p * p

square_lt_of : (a b : ℕ) → a < b → square a < square b
square_lt_of a b h = lt_of_le_of_lt (mul-le-mul_left a (le_of_lt h)) (mul-lt-mul_of_pos_right h (lt_of_le_of_lt (zero-le) h))

scaled_up : (N p : ℕ) → 4 * N * p ≡ 4 * (N * p)
scaled_up N p = omega arith

sum : (x p : ℕ) → x * p + suc x * p ≡ (2 * x + 1) * p
sum x p = omega arith

-- the midpoint to the next smaller number with as many digits dropped, x, and to the next larger one
lower_mid : (N p x : ℕ) → 0 < p → Rounds N (suc x) → square (x * p + suc x * p) < 4 * (N * (p * p))
lower_mid N p x h r =
    rw (sum x p, square_of (2 * x + 1) p, ← scaled_up N (p * p)) (mul-lt-mul_of_pos_right (less N x r.lower) (mul-pos h h))
  where
    less : (n y : ℕ) → suc y * suc y < n + suc y → (2 * y + 1) * (2 * y + 1) < 4 * n
    less n y l = omega arith

upper_mid : (N p q : ℕ) → 0 < p → Rounds N q → 4 * (N * (p * p)) < square (q * p + suc q * p)
upper_mid N p q h r =
    rw (sum q p, square_of (2 * q + 1) p, ← scaled_up N (p * p)) (mul-lt-mul_of_pos_right (less N q r.upper) (mul-pos h h))
  where
    less : (n y : ℕ) → n ≤ y * y + y → 4 * n < (2 * y + 1) * (2 * y + 1)
    less n y l = omega arith

-- at the ends the neighbour has one digit more or fewer dropped; there it is enough that it is smaller or larger
lower_end : (N p a : ℕ) → 2 ^ 104 ≤ N → a < 2 ^ 52 * p → square (a + 2 ^ 52 * p) < 4 * (N * (p * p))
lower_end N p a h l =
    lt_of_lt_of_le (square_lt_of (a + 2 ^ 52 * p) (2 ^ 53 * p) (omega arith))
    (rw (square_of (2 ^ 53) p, ← scaled_up N (p * p)) (mul-le-mul_right (p * p) (mul-le-mul_left 4 h)))

upper_end : (N p a : ℕ) → N < 2 ^ 106 → 0 < p → 2 ^ 53 * p < a → 4 * (N * (p * p)) < square (2 ^ 53 * p + a)
upper_end N p a h g l =
    lt_trans (rw (square_of (2 ^ 54) p, ← scaled_up N (p * p)) (mul-lt-mul_of_pos_right (mul-lt-mul_of_pos_left h (lit< tt)) (mul-pos g g)))
    (square_lt_of (2 ^ 54 * p) (2 ^ 53 * p + a) (omega arith))

one_less : (k x : ℕ) → k * 2 ^ 52 + suc x - 1 ≡ k * 2 ^ 52 + x
one_less k x = omega arith

one_more : (k q : ℕ) → k * 2 ^ 52 + q + 1 ≡ k * 2 ^ 52 + suc q
one_more k q = omega arith

module _ (b N k : ℕ) (e : Even (exact b) N k) where
  lower : (q : ℕ) → Rounds N q → 2 ^ 52 ≤ q → q ≤ 2 ^ 53 → square (magnitude (k * 2 ^ 52 + q - 1) + magnitude (k * 2 ^ 52 + q)) < 4 * exact b
  lower zero r lo hi = absurd (not-suc-le-zero lo)
  lower (suc x) r lo hi = elim (eq-or-lt_of_le lo) [
    | inl z ↦
        let here : magnitude (k * 2 ^ 52 + suc x) ≡ 2 ^ 52 * 2 ^ k = made_magnitude k (suc x) lo hi ∙ ap (λ (y : ℕ). y * 2 ^ k) (sym z) in
        let a = magnitude (k * 2 ^ 52 + suc x - 1) in
        let less : a < 2 ^ 52 * 2 ^ k = rw here at (magnitude_lt (k * 2 ^ 52 + suc x - 1) (k * 2 ^ 52 + suc x) (omega arith)) in
        rw (here, e.same) (lower_end N (2 ^ k) a e.least less)
    | inr l ↦
        let before : magnitude (k * 2 ^ 52 + suc x - 1) ≡ x * 2 ^ k = ap magnitude (one_less k x) ∙ made_magnitude k x (le_of_suc-le-suc l) (omega arith) in
        rw (before, made_magnitude k (suc x) lo hi, e.same) (lower_mid N (2 ^ k) x (pow_pos k) r)
  ]

  upper : (q : ℕ) → Rounds N q → 2 ^ 52 ≤ q → q ≤ 2 ^ 53 → 4 * exact b < square (magnitude (k * 2 ^ 52 + q) + magnitude (k * 2 ^ 52 + q + 1))
  upper q r lo hi = elim (eq-or-lt_of_le hi) [
    | inl z ↦
        let here : magnitude (k * 2 ^ 52 + q) ≡ 2 ^ 53 * 2 ^ k = made_magnitude k q lo hi ∙ ap (λ (y : ℕ). y * 2 ^ k) z in
        let a = magnitude (k * 2 ^ 52 + q + 1) in
        let more : 2 ^ 53 * 2 ^ k < a = rw here at (magnitude_lt (k * 2 ^ 52 + q) (k * 2 ^ 52 + q + 1) (omega arith)) in
        rw (here, e.same) (upper_end N (2 ^ k) a e.most (pow_pos k) more)
    | inr l ↦
        let after : magnitude (k * 2 ^ 52 + q + 1) ≡ suc q * 2 ^ k = ap magnitude (one_more k q) ∙ made_magnitude k (suc q) (omega arith) l in
        rw (after, made_magnitude k q lo hi, e.same) (upper_mid N (2 ^ k) q (pow_pos k) r)
  ]

  made_nearest : (q : ℕ) → Rounds N q → NearestRoot b (k * 2 ^ 52 + q)
  made_nearest q r =
      let lo = rounds_least N q e.least r in
      let hi = rounds_most N q e.most r in
      record {
        positive = omega arith;
        finite = omega (arith, e.small);
        above_lower = lower q r lo hi;
        below_upper = upper q r lo hi;
      }

even : (b : ℕ) → 0 < b → b < infinity → (N : ℕ) × (k : ℕ) × Even (exact b) N k
even b p l =
    let s = scales b p l in
    let m = s.0 in
    let e = s.1 in
    (m * 2 ^ (e % 2) % 2 ^ 64 * 2 ^ 52, (e - 52) / 2, made_even (exact b) m e s.2)

written : (r : ℕ) → r < infinity → to_bits binary64 (of_bits binary64 r) ≡ r
written r l = to_bits-of_bits binary64 r (width r l) (no_nan r l)
  where
    width : (x : ℕ) → x < infinity → x < 2 * 2 ^ 63
    width x h = omega arith

pub nearest : Nearest
nearest b p l =
    let s = even b p l in
    let N = s.0 in
    let k = s.1 in
    let e = s.2 in
    let q = chosen (N * (2 ^ k * 2 ^ k)) (isqrt (N * (2 ^ k * 2 ^ k))) k in
    let r : Rounds N q = chosen_rounds N k e.least in
    let g = made_nearest b N k e q r in
    subst (NearestRoot b)
    (sym (ap (to_bits binary64) (sym (root_is b N k q p l e r)) ∙ written (k * 2 ^ 52 + q) g.finite)) g
