-- What `root_of` gives for a pattern whose number is N * 4 ^ k, N of 105 or 106 digits: the nearest whole number to the root of N, times 2 ^ k.
-- Both the code and the theorem rest on `root_is`. Assumes nothing.
use mathlib.Core.Path.{◌≡◌, refl, sym, ap, ◌∙◌, subst}
use Prim.Native.Nat.{ℕ, zero, suc, ◌+◌, ◌-◌, ◌*◌, ◌/◌, ◌%◌, ◌^◌, ◌≤◌, ◌<◌, compare}
use native.Mathlib.Nat.{zero-lt-suc, le_of_lt, lt_of_not-le, le_trans, le_of_eq, le_of_suc-le-suc, lt_of_le_of_lt, lt_of_lt_of_le, lt_irrefl, lt_trans}
use native.Mathlib.Nat.{mul-le-mul, mul-le-mul_right, mul-le-mul_left, mul-lt-mul_of_pos_right, mul-pos, le_of_mul-le-mul_right, lt_of_mul-lt-mul_right}
use native.Mathlib.Nat.{zero-mul, mul-div_cancel, mul-mul-mul_comm, div-mul-le_self, lt-div-mul-add}
use native.Mathlib.Omega.{arith}
use mathlib.Core.Bool.{true, false, true≢false}
use lib.IntN.{ℤ}
use lib.Pow.{pow_pos, pow-add}
use lib.Ieee.{Float, nan, inf, fin, binary64, units, size, nearest, up, down, of_bits}
use lib.Ieee.Fits.{down_pos}
use lib.Ieee.Exact.{HasValue}
use Rattle.root.specs.Root.{isqrt, nearest_root, root_of}
use Rattle.root.specs.Nearest.{magnitude, infinity, exact}
use Rattle.root.specs.Steps.{Rounds, Scales}
use Rattle.root.proofs.Squares.{square_lt, Whole, isqrt_is, rounds_unique, Cmp, cmp, cmp_scaled, nearest_rounds, size_is}
use Rattle.root.proofs.Patterns.{pattern_value, magnitude_pos, units_is}
use Rattle.root.proofs.Scaling.{Even, made_even}

-- ---- the root's whole part and its first 53 digits, over N and p = 2 ^ k

pub square_of : (a p : ℕ) → a * p * (a * p) ≡ a * a * (p * p)
square_of a p = mul-mul-mul_comm a p a p

-- the whole root of N * p * p, cut to multiples of p, is that of N
cut : (N p w q : ℕ) → 0 < p → Whole (N * (p * p)) w → q * p ≤ w → suc w ≤ suc q * p → Whole N q
cut N p w q P W lo hi =
    let pp : 0 < p * p = mul-pos P P in (
      le_of_mul-le-mul_right (le_trans (le_of_eq (sym (square_of q p))) (le_trans (mul-le-mul lo lo) W.0)) pp,
      lt_of_mul-lt-mul_right (p * p) (lt_of_lt_of_le W.1 (le_trans (mul-le-mul hi hi) (le_of_eq (square_of (suc q) p)))),
    )

lower_digits : (N p w : ℕ) → 2 ^ 104 ≤ N → Whole (N * (p * p)) w → 2 ^ 52 * p ≤ w
lower_digits N p w h W =
    le_of_suc-le-suc
    (square_lt (2 ^ 52 * p) (suc w)
    (lt_of_le_of_lt (le_trans (le_of_eq (square_of (2 ^ 52) p)) (mul-le-mul_right (p * p) h)) W.1))

upper_digits : (N p w : ℕ) → 0 < p → N < 2 ^ 106 → Whole (N * (p * p)) w → w < 2 ^ 53 * p
upper_digits N p w P h W =
    square_lt w (2 ^ 53 * p)
    (lt_of_le_of_lt W.0 (lt_of_lt_of_le (mul-lt-mul_of_pos_right h (mul-pos P P)) (le_of_eq (sym (square_of (2 ^ 53) p)))))

-- the definition, with how many digits it drops as a parameter
abbrev pub chosen : ℕ → ℕ → ℕ → ℕ
chosen n w k = nearest (w / 2 ^ k) (compare (4 * n) ((2 * (w / 2 ^ k) + 1) * 2 ^ k * ((2 * (w / 2 ^ k) + 1) * 2 ^ k)))

nearest_root_at : (n : ℕ) → nearest_root n ≡ units binary64 false (chosen n (isqrt n) (size (isqrt n) - 53)) (size (isqrt n) - 53)
unfolding nearest_root
nearest_root_at n = refl

dropped : (w k : ℕ) → 2 ^ 52 * 2 ^ k ≤ w → w < 2 ^ 53 * 2 ^ k → size w - 53 ≡ k
dropped w k lo hi =
    ap (λ (x : ℕ). x - 53) (size_is w (52 + k) (rw (pow-add 2 52 k) lo) (rw (more k, pow-add 2 53 k) hi)) ∙ less k
  where
    more : (x : ℕ) → suc (52 + x) ≡ 53 + x
    more x = omega arith

    less : (x : ℕ) → suc (52 + x) - 53 ≡ x
    less x = omega arith

four : (N p : ℕ) → 4 * (N * p) ≡ 4 * N * p
four N p = omega arith

step_up : (q p : ℕ) → q * p + p ≡ suc q * p
step_up q p = omega arith

pub kept_is : (N k : ℕ) → 2 ^ 104 ≤ N → Whole N (isqrt (N * (2 ^ k * 2 ^ k)) / 2 ^ k)
kept_is N k h =
    let p = 2 ^ k in
    let w = isqrt (N * (p * p)) in
    cut N p w (w / p) (pow_pos k) (isqrt_is (N * (p * p))) (div-mul-le_self w p) (lt_of_lt_of_le (lt-div-mul-add (pow_pos k)) (le_of_eq (step_up (w / p) p)))

root_pos : (N q : ℕ) → 2 ^ 104 ≤ N → Whole N q → 0 < q
root_pos N zero h W = absurd (big N h W.1)
  where
    big : (n : ℕ) → 2 ^ 104 ≤ n → n < 1 → ⊥
    big n a b = omega arith
root_pos N (suc q) h W = zero-lt-suc q

pub chosen_rounds : (N k : ℕ) → 2 ^ 104 ≤ N → Rounds N (chosen (N * (2 ^ k * 2 ^ k)) (isqrt (N * (2 ^ k * 2 ^ k))) k)
chosen_rounds N k h =
    let p = 2 ^ k in
    let n = N * (p * p) in
    let q = isqrt n / p in
    let mid = (2 * q + 1) * p in
    let o = compare (4 * n) (mid * mid) in
    nearest_rounds N q o (root_pos N q h (kept_is N k h)) (kept_is N k h)
    (cmp_scaled o (4 * N) ((2 * q + 1) * (2 * q + 1)) (p * p) (mul-pos (pow_pos k) (pow_pos k))
    (subst (λ (x : ℕ). Cmp o x ((2 * q + 1) * (2 * q + 1) * (p * p))) (four N (p * p))
    (subst (λ (x : ℕ). Cmp o (4 * n) x) (square_of (2 * q + 1) p) (cmp (4 * n) (mid * mid)))))

pub nearest_root_is : (N k q : ℕ) → 2 ^ 104 ≤ N → N < 2 ^ 106 → Rounds N q → nearest_root (N * (2 ^ k * 2 ^ k)) ≡ units binary64 false q k
nearest_root_is N k q lo hi r =
    let n = N * (2 ^ k * 2 ^ k) in
    let w = isqrt n in
    nearest_root_at n
    ∙ ap (λ (x : ℕ). units binary64 false (chosen n w x) x)
    (dropped w k (lower_digits N (2 ^ k) w lo (isqrt_is n)) (upper_digits N (2 ^ k) w (pow_pos k) hi (isqrt_is n)))
    ∙ ap (λ (x : ℕ). units binary64 false x k) (rounds_unique N (chosen n w k) q (chosen_rounds N k lo) r)

-- ---- the nearest whole number has 53 digits, or is 2 ^ 53

pub rounds_least : (N q : ℕ) → 2 ^ 104 ≤ N → Rounds N q → 2 ^ 52 ≤ q
rounds_least N q h r = le_of_suc-le-suc (lt_of_not-le (λ (l : q < 2 ^ 52). no q N (mul-le-mul (le_of_suc-le-suc l) (le_of_suc-le-suc l)) l h r.upper))
  where
    no : (x n : ℕ) → x * x ≤ (2 ^ 52 - 1) * (2 ^ 52 - 1) → x < 2 ^ 52 → 2 ^ 104 ≤ n → n ≤ x * x + x → ⊥
    no x n a b c d = omega arith

pub rounds_most : (N q : ℕ) → N < 2 ^ 106 → Rounds N q → q ≤ 2 ^ 53
rounds_most N q h r = le_of_suc-le-suc (lt_of_not-le (λ (l : 2 ^ 53 < q).
    lt_irrefl N (lt_trans (lt_of_lt_of_le h (mul-le-mul_left (2 ^ 53) (le_of_lt l))) (less q N (mul-le-mul_right q l) r.lower))))
  where
    less : (x n : ℕ) → suc (2 ^ 53) * x ≤ x * x → x * x < n + x → 2 ^ 53 * x < n
    less x n b d = omega arith

-- ---- a double by its number

no_zero : (e : ℤ) (a : ℕ) → 0 < a → 0 * up e * 2 ^ 1074 ≡ a * down e → ⊥
no_zero e a p h = lt_irrefl 0 (subst (λ (x : ℕ). 0 < x) (sym h ∙ ap (λ (x : ℕ). x * 2 ^ 1074) (zero-mul (up e))) (mul-pos p (down_pos e)))

pub root_of_value : (x : Float) (a : ℕ) → 0 < a → HasValue x false a (2 ^ 1074) → root_of x ≡ nearest_root (a * 2 ^ 1074)
unfolding root_of
root_of_value nan a p h = absurd h
root_of_value (inf s) a p h = absurd h
root_of_value (fin true m e) a p h = absurd (true≢false h.0)
root_of_value (fin false zero e) a p h = absurd (no_zero e a p h.1)
root_of_value (fin false (suc m) e) a p h = ap (λ (u : ℕ). nearest_root (u * 2 ^ 1074)) (ap (λ (x : ℕ). x / down e) h.1 ∙ mul-div_cancel a (down_pos e))

pub root_is : (b N k q : ℕ) → 0 < b → b < infinity → Even (exact b) N k → Rounds N q → of_bits binary64 (k * 2 ^ 52 + q) ≡ root_of (of_bits binary64 b)
root_is b N k q p f e r =
    sym
    (root_of_value (of_bits binary64 b) (magnitude b) (magnitude_pos b p) (pattern_value b f)
    ∙ ap nearest_root e.same
    ∙ nearest_root_is N k q e.least e.most r
    ∙ units_is k q (rounds_least N q e.least r) (rounds_most N q e.most r) e.small)

-- the code's pattern: the significand's leading digit adds one to the exponent's field
pub pattern_finite : (b m e q : ℕ) → Scales (exact b) m e → Rounds (m * 2 ^ (e % 2) % 2 ^ 64 * 2 ^ 52) q → (e - 52) / 2 * 2 ^ 52 + q < infinity
pattern_finite b m e q s r =
    let v = made_even (exact b) m e s in
    omega (arith, v.small, rounds_most _ q v.most r)

pub pattern_root : (b m e q : ℕ) → 0 < b → b < infinity → Scales (exact b) m e → Rounds (m * 2 ^ (e % 2) % 2 ^ 64 * 2 ^ 52) q
    → of_bits binary64 ((e - 52) / 2 * 2 ^ 52 + q) ≡ root_of (of_bits binary64 b)
pattern_root b m e q p f s r = root_is b _ ((e - 52) / 2) q p f (made_even (exact b) m e s) r
