-- A finite pattern's number as m * 2 ^ e with m of 53 digits, and as N * 4 ^ k with N of 105 or 106. Assumes nothing.
use mathlib.Core.Path.{◌≡◌, sym, ap, ◌∙◌}
use mathlib.Core.Logic.{inl, inr}
use Prim.Native.Nat.{ℕ, zero, suc, ◌+◌, ◌-◌, ◌*◌, ◌/◌, ◌%◌, ◌^◌, ◌≤◌, ◌<◌}
use native.Mathlib.Nat.{lt_of_le_of_lt, eq-zero-or-pos, mod-eq_of_lt, mul_assoc, mul-le-mul_right, mul-lt-mul_of_pos_right}
use native.Mathlib.Omega.{arith}
use lib.Pow.{pow_pos, pow-add}
use lib.Ieee.{size}
use lib.Ieee.Digits.{size-lt, size_reaches}
use Rattle.root.specs.Nearest.{infinity, exact}
use Rattle.root.specs.Steps.{Scales}
use Rattle.root.proofs.Squares.{power_lt, twice_pred}
use Rattle.root.proofs.Patterns.{subnormal, normal}

-- ---- m * 2 ^ e

pub normal_scales : (b : ℕ) → b < infinity → 0 < b / 2 ^ 52 → Scales (exact b) (2 ^ 52 + b % 2 ^ 52) (b / 2 ^ 52 + 1073)
normal_scales b l h =
    let f = b / 2 ^ 52 - 1 in
    let m = 2 ^ 52 + b % 2 ^ 52 in
    let field : b / 2 ^ 52 ≡ suc f = omega arith in
    let moved : b / 2 ^ 52 + 1073 ≡ f + 1074 = omega arith in
    record {
      same = rw (normal b f field, moved, pow-add 2 f 1074) (sym (mul_assoc m (2 ^ f) (2 ^ 1074)));
      least = omega arith;
      most = omega arith;
      low = omega arith;
      high = omega arith;
    }

-- the leading digit's weight says how many digits there are
pub leading_low : (t i : ℕ) → 2 ^ i ≤ t → t < 2 ^ 52 → i < 52
leading_low t i h l = power_lt i 52 (lt_of_le_of_lt h l)

-- digits that are too few are moved up by as many places as are missing
pub short_scales : (b i : ℕ) → b / 2 ^ 52 ≡ 0 → 2 ^ i ≤ b % 2 ^ 52 → b % 2 ^ 52 < 2 * 2 ^ i
    → Scales (exact b) (b % 2 ^ 52 * 2 ^ (52 - i) % 2 ^ 64) (1074 - (52 - i))
short_scales b i z h g =
    let t = b % 2 ^ 52 in
    let l : i < 52 = leading_low t i h (omega arith) in
    let k = 52 - i in
    let places : i + k ≡ 52 = omega arith in
    let whole : 2 ^ i * 2 ^ k ≡ 2 ^ 52 = sym (pow-add 2 i k) ∙ ap (λ (x : ℕ). 2 ^ x) places in
    let least : 2 ^ i * 2 ^ k ≤ t * 2 ^ k = mul-le-mul_right (2 ^ k) h in
    let most : t * 2 ^ k < 2 * 2 ^ i * 2 ^ k = mul-lt-mul_of_pos_right g (pow_pos k) in
    let twice : 2 * 2 ^ i * 2 ^ k ≡ 2 * (2 ^ i * 2 ^ k) = mul_assoc 2 (2 ^ i) (2 ^ k) in
    let fits : t * 2 ^ k % 2 ^ 64 ≡ t * 2 ^ k = mod-eq_of_lt (omega arith) in
    let sum : k + (1074 - k) ≡ 1074 = omega arith in
    record {
      same = rw (fits, subnormal b z, mul_assoc t (2 ^ k) (2 ^ (1074 - k)), ← pow-add 2 k (1074 - k), sum);
      least = omega arith;
      most = omega arith;
      low = omega arith;
      high = omega arith;
    }

pub scales : (b : ℕ) → 0 < b → b < infinity → (m : ℕ) × (e : ℕ) × Scales (exact b) m e
scales b p l = elim (eq-zero-or-pos (b / 2 ^ 52)) [
  | inl z ↦
      let t = b % 2 ^ 52 in
      let i = size t - 1 in
      let s : 0 < size t = some t (omega arith) (size t) (size-lt t) in (
        t * 2 ^ (52 - i) % 2 ^ 64,
        1074 - (52 - i),
        short_scales b i z (size_reaches t i (omega arith)) (rw (twice_pred (size t) s) (size-lt t)),
      )
  | inr h ↦ (2 ^ 52 + b % 2 ^ 52, b / 2 ^ 52 + 1073, normal_scales b l h)
]
  where
    some : (t : ℕ) → 0 < t → (x : ℕ) → t < 2 ^ x → 0 < x
    some t p zero h = absurd (omega arith)
    some t p (suc x) h = omega arith

-- ---- the exponent made even

-- n is N * 4 ^ k
pub record Even (n N k : ℕ) : Type 0 where
  pub same : n ≡ N * (2 ^ k * 2 ^ k)
  pub least : 2 ^ 104 ≤ N
  pub most : N < 2 ^ 106
  pub small : k ≤ 1600

-- an odd exponent's digit goes to the significand
pub doubled : (n m e : ℕ) → Scales n m e → (2 ^ 52 ≤ m * 2 ^ (e % 2) % 2 ^ 64) × (m * 2 ^ (e % 2) % 2 ^ 64 < 2 ^ 54) × (m * 2 ^ (e % 2) % 2 ^ 64 ≡ m * 2 ^ (e % 2))
doubled n m e s = go (e % 2) (omega arith)
  where
    go : (j : ℕ) → j < 2 → (2 ^ 52 ≤ m * 2 ^ j % 2 ^ 64) × (m * 2 ^ j % 2 ^ 64 < 2 ^ 54) × (m * 2 ^ j % 2 ^ 64 ≡ m * 2 ^ j)
    go zero h = (omega arith, omega arith, omega arith)
    go (suc zero) h = (omega arith, omega arith, omega arith)
    go (suc (suc j)) h = absurd (omega arith)

pub made_even : (n m e : ℕ) → Scales n m e → Even n (m * 2 ^ (e % 2) % 2 ^ 64 * 2 ^ 52) ((e - 52) / 2)
made_even n m e s =
    let j = e % 2 in
    let k = (e - 52) / 2 in
    let d = doubled n m e s in
    let split : e ≡ j + (52 + (k + k)) = omega arith in
    record {
      same =
          sym s.same
          ∙ ap (λ (x : ℕ). m * 2 ^ x) split
          ∙ rw (d.2, pow-add 2 j (52 + (k + k)), pow-add 2 52 (k + k), pow-add 2 k k) (simp mul_assoc);
      least = omega arith;
      most = omega arith;
      small = omega arith;
    }
