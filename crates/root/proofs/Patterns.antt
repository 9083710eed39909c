-- Bit patterns of the doubles that are not negative: what number each stands for, that a larger pattern stands for a larger number,
-- and that a pattern's fields are a significand and an exponent. Assumes nothing.
use mathlib.Core.Path.{◌≡◌, refl, sym, ap, ◌∙◌, subst}
use mathlib.Core.Logic.{◌≢◌, inl, inr}
use Prim.Native.Nat.{ℕ, zero, suc, ◌+◌, ◌-◌, ◌*◌, ◌/◌, ◌%◌, ◌^◌, ◌≤◌, ◌<◌}
use native.Mathlib.Nat.{le-add_right, not-suc-le-zero, le_of_suc-le-suc, le_trans, lt_of_lt_of_le, lt_of_le_of_lt, eq-or-lt_of_le}
use native.Mathlib.Nat.{mul-le-mul_right, mul-le-mul_left, mul-lt-mul_of_pos_right, pow-succ', mul-div_cancel, mul-one}
use native.Mathlib.Omega.{arith}
use mathlib.Core.Bool.{Bool, true, false, not, cond, true≢false}
use lib.IntN.{ℤ}
use lib.Dec.{T, nltb→le, leb, ltb, lt→ltb, lit<}
use lib.Pow.{pow_pos, pow_mono, pow-add, pow-lt}
use borrow.Author.Tests.{ne_eqb, lt-leb}
use lib.Ieee.{Float, nan, inf, fin, binary64, odd, units, size, up, down, of_fields, of_bits, to_bits, fits, is_nan, nan_bits}
use lib.Ieee.Bits.{is_true, of_bits-to_bits, of_bits-fits, nan_bits_is, nan_bits_above}
use lib.Ieee.Fits.{odd-fits, down_pos}
use lib.Ieee.Exact.{HasValue, odd_sign, units_val}
use Rattle.std.proofs.lemmas.Float.{not_nan_f64_bits}
use Rattle.root.specs.Nearest.{fields_magnitude, magnitude, infinity}

-- ---- what a pattern is read as

field_value : (s : Bool) (e t : ℕ) → e < 2047 → HasValue (of_fields binary64 s e t) s (fields_magnitude e t) (2 ^ 1074)
unfolding of_fields
field_value s zero t h = subst (λ (a : ℕ). HasValue (odd 53 s t 0 1074) s a (2 ^ 1074)) (mul-one t) (odd_sign 53 s t 0 1074)
field_value s (suc e) t h = rw (ne_eqb (suc e) 2047 (λ k. omega arith)) (odd_sign 53 s (2 ^ 52 + t) e 1074)

-- The tie to the library: the double that a pattern is read as is the number that the pattern stands for, with its sign.
pub bits_value : (b : ℕ) → b % 2 ^ 63 < infinity → HasValue (of_bits binary64 b) (leb (2 ^ 63) b) (magnitude (b % 2 ^ 63)) (2 ^ 1074)
unfolding of_bits magnitude
bits_value b h =
    let e = b % 2 ^ 63 / 2 ^ 52 in
    let low : b % 2 ^ 63 % 2 ^ 52 ≡ b % 2 ^ 52 = omega arith in
    rw low (field_value (leb (2 ^ 63) b) e (b % 2 ^ 52) (omega arith))

pub pattern_value : (b : ℕ) → b < infinity → HasValue (of_bits binary64 b) false (magnitude b) (2 ^ 1074)
pattern_value b h =
    let same : b % 2 ^ 63 ≡ b = omega arith in
    rw (lt-leb (2 ^ 63) b (omega arith), same) at (bits_value b (omega arith))

-- ---- a larger pattern stands for a larger number

digits_lt : (e t u : ℕ) → t < u → fields_magnitude e t < fields_magnitude e u
digits_lt zero t u h = h
digits_lt (suc e) t u h = mul-lt-mul_of_pos_right (more t u h) (pow_pos e)
  where
    more : (x y : ℕ) → x < y → 2 ^ 52 + x < 2 ^ 52 + y
    more x y l = omega arith

below : (e t : ℕ) → t < 2 ^ 52 → fields_magnitude e t < 2 ^ 52 * 2 ^ e
below zero t h = rw mul-one h
below (suc e) t h = rw (pow-succ' 2 e, ← twice (2 ^ e)) (mul-lt-mul_of_pos_right (lead t h) (pow_pos e))
  where
    lead : (x : ℕ) → x < 2 ^ 52 → 2 ^ 52 + x < 2 ^ 53
    lead x l = omega arith

    twice : (p : ℕ) → 2 ^ 53 * p ≡ 2 ^ 52 * (2 * p)
    twice p = omega arith

above : (e t : ℕ) → 2 ^ 52 * 2 ^ e ≤ fields_magnitude (suc e) t
above e t = mul-le-mul_right (2 ^ e) (le-add_right (2 ^ 52) t)

fields_lt : (e f t u : ℕ) → e < f → t < 2 ^ 52 → fields_magnitude e t < fields_magnitude f u
fields_lt e zero t u l h = absurd (not-suc-le-zero l)
fields_lt e (suc f) t u l h = lt_of_lt_of_le (below e t h) (le_trans (mul-le-mul_left (2 ^ 52) (pow_mono (le_of_suc-le-suc l))) (above f u))

field_le : (b c : ℕ) → b < c → b / 2 ^ 52 ≤ c / 2 ^ 52
field_le b c h = omega arith

digits_below : (b c : ℕ) → b < c → b / 2 ^ 52 ≡ c / 2 ^ 52 → b % 2 ^ 52 < c % 2 ^ 52
digits_below b c h e = omega arith

digits_in : (b : ℕ) → b % 2 ^ 52 < 2 ^ 52
digits_in b = omega arith

pub magnitude_lt : (b c : ℕ) → b < c → magnitude b < magnitude c
unfolding magnitude
magnitude_lt b c h = elim (eq-or-lt_of_le (field_le b c h)) [
  | inl e ↦ subst (λ (x : ℕ). fields_magnitude (b / 2 ^ 52) (b % 2 ^ 52) < fields_magnitude x (c % 2 ^ 52)) e
      (digits_lt (b / 2 ^ 52) (b % 2 ^ 52) (c % 2 ^ 52) (digits_below b c h e))
  | inr l ↦ fields_lt (b / 2 ^ 52) (c / 2 ^ 52) (b % 2 ^ 52) (c % 2 ^ 52) l (digits_in b)
]

zero_magnitude : magnitude 0 ≡ 0
unfolding magnitude
zero_magnitude = refl

pub magnitude_pos : (b : ℕ) → 0 < b → 0 < magnitude b
magnitude_pos b h = rw zero_magnitude at (magnitude_lt 0 b h)

-- the two forms of a magnitude, by whether the exponent's field is 0
pub subnormal : (b : ℕ) → b / 2 ^ 52 ≡ 0 → magnitude b ≡ b % 2 ^ 52
unfolding magnitude
subnormal b e = ap (λ (x : ℕ). fields_magnitude x (b % 2 ^ 52)) e

pub normal : (b f : ℕ) → b / 2 ^ 52 ≡ suc f → magnitude b ≡ (2 ^ 52 + b % 2 ^ 52) * 2 ^ f
unfolding magnitude
normal b f e = ap (λ (x : ℕ). fields_magnitude x (b % 2 ^ 52)) e

-- ---- the pattern of a significand q of 53 digits, its leading one counted, and an exponent k; 2 ^ 53 carries into the exponent

made_field : (k q : ℕ) → 2 ^ 52 ≤ q → q < 2 ^ 53 → (k * 2 ^ 52 + q) / 2 ^ 52 ≡ suc k
made_field k q h l = omega arith

made_digits : (k q : ℕ) → 2 ^ 52 ≤ q → q < 2 ^ 53 → 2 ^ 52 + (k * 2 ^ 52 + q) % 2 ^ 52 ≡ q
made_digits k q h l = omega arith

carried_field : (k q : ℕ) → q ≡ 2 ^ 53 → (k * 2 ^ 52 + q) / 2 ^ 52 ≡ suc (suc k)
carried_field k q e = omega arith

carried_digits : (k q : ℕ) → q ≡ 2 ^ 53 → (k * 2 ^ 52 + q) % 2 ^ 52 ≡ 0
carried_digits k q e = omega arith

carried : (q p : ℕ) → q ≡ 2 ^ 53 → (2 ^ 52 + 0) * (2 * p) ≡ q * p
carried q p e = rw e (omega arith)

pub made_magnitude : (k q : ℕ) → 2 ^ 52 ≤ q → q ≤ 2 ^ 53 → magnitude (k * 2 ^ 52 + q) ≡ q * 2 ^ k
unfolding magnitude
made_magnitude k q h l = elim (eq-or-lt_of_le l) [
  | inl e ↦ rw (carried_field k q e, carried_digits k q e, pow-succ' 2 k) (carried q (2 ^ k) e)
  | inr g ↦ rw (made_field k q h g) (ap (λ (x : ℕ). x * 2 ^ k) (made_digits k q h g))
]

-- what owning an `f64` tells: the format holds it, so it is read back from its pattern
pub read_back : (x : Float) → fits binary64 x ≡ true → of_bits binary64 (to_bits binary64 x) ≡ x
read_back x e = of_bits-to_bits binary64 x (subst T (sym e) tt)

-- ---- two doubles of one sign and one magnitude are one

written : (m : ℕ) (e : ℤ) (a : ℕ) → m * up e * 2 ^ 1074 ≡ a * down e → to_bits binary64 (fin false m e) ≡ 0 + (size a - 53) * 2 ^ 52 + a / 2 ^ (size a - 53)
unfolding to_bits
written m e a h =
    ap (λ (x : ℕ). 0 + (size x - 53) * 2 ^ 52 + x / 2 ^ (size x - 53)) (ap (λ (x : ℕ). x / down e) h ∙ mul-div_cancel a (down_pos e))

bits_of_value : (x : Float) (a : ℕ) → HasValue x false a (2 ^ 1074) → to_bits binary64 x ≡ 0 + (size a - 53) * 2 ^ 52 + a / 2 ^ (size a - 53)
bits_of_value nan a h = absurd h
bits_of_value (inf s) a h = absurd h
bits_of_value (fin true m e) a h = absurd (true≢false h.0)
bits_of_value (fin false m e) a h = written m e a h.1

same_double : (x y : Float) (a : ℕ) → T (fits binary64 x) → T (fits binary64 y) → HasValue x false a (2 ^ 1074) → HasValue y false a (2 ^ 1074) → x ≡ y
same_double x y a f g h k =
    sym (of_bits-to_bits binary64 x f) ∙ ap (of_bits binary64) (bits_of_value x a h ∙ sym (bits_of_value y a k)) ∙ of_bits-to_bits binary64 y g

in_range_lem : (k q : ℕ) → q ≤ 2 ^ 53 → k ≤ 1600 → q * 2 ^ k < 2 ^ 2098
in_range_lem k q l s =
    lt_of_le_of_lt (mul-le-mul_right (2 ^ k) l) (rw (← pow-add 2 53 k) (pow-lt (total k s)))
  where
    total : (x : ℕ) → x ≤ 1600 → 53 + x < 2098
    total x h = omega arith

units_fits : (k q : ℕ) → q ≤ 2 ^ 53 → q * 2 ^ k < 2 ^ 2098 → T (fits binary64 (units binary64 false q k))
unfolding units
units_fits k q l r =
    subst (λ (b : Bool). T (fits binary64 (cond b (odd 54 false q k 1074) (inf false))))
    (sym (is_true (ltb (q * 2 ^ k) (2 ^ 2098)) (lt→ltb (q * 2 ^ k) (2 ^ 2098) r)))
    (odd-fits binary64 54 false q k (lt_of_le_of_lt l (lit< tt)) l r)

made_finite : (k q : ℕ) → q ≤ 2 ^ 53 → k ≤ 1600 → k * 2 ^ 52 + q < infinity
made_finite k q l s = omega arith

-- what the definition makes of a significand and an exponent is what their pattern is read as
pub units_is : (k q : ℕ) → 2 ^ 52 ≤ q → q ≤ 2 ^ 53 → k ≤ 1600 → units binary64 false q k ≡ of_bits binary64 (k * 2 ^ 52 + q)
units_is k q h l s =
    same_double (units binary64 false q k) (of_bits binary64 (k * 2 ^ 52 + q)) (q * 2 ^ k)
    (units_fits k q l (in_range_lem k q l s))
    (of_bits-fits binary64 (k * 2 ^ 52 + q))
    (units_val binary64 false q k (in_range_lem k q l s))
    (rw (made_magnitude k q h l) at (pattern_value (k * 2 ^ 52 + q) (made_finite k q l s)))

-- ---- a NaN's pattern is one above that of infinity

-- as `f64::from_bits` asks it
pub finite_bits : (b : ℕ) → b < infinity → T (not (nan_bits binary64 b))
finite_bits b h = not_nan_f64_bits b (omega arith)

pub no_nan : (b : ℕ) → b < infinity → T (not (is_nan (of_bits binary64 b)))
no_nan b h = rw nan_bits_is at (finite_bits b h)

pub is_finite : (b : ℕ) → T (not (is_nan (of_bits binary64 b))) → b < 2 ^ 63 → b ≢ infinity → b < infinity
is_finite b t l n =
    let k = nltb→le infinity (b % 2 ^ 63) (rw (← nan_bits_is binary64 b, nan_bits_above) at t) in
    omega (arith, k)
