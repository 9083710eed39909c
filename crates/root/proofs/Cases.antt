-- The doubles that have no digits to find: not-a-number, the zeros, the negative ones and infinity, each by the test that the code makes; and the patterns of
-- the others. Assumes nothing.
use mathlib.Core.Path.{◌≡◌, refl, sym, ap, ◌∙◌, subst}
use mathlib.Core.Logic.{◌≢◌}
use Prim.Native.Nat.{ℕ, zero, suc, ◌*◌, ◌+◌, ◌%◌, ◌/◌, ◌^◌, ◌≤◌, ◌<◌}
use native.Mathlib.Nat.{lt_of_not-le, mul-pos, zero-mul}
use native.Mathlib.Omega.{arith}
use mathlib.Core.Bool.{Bool, true, false, cond, not, true≢false}
use borrow.Author.Tests.{eq-eqb, eqb-true, le-leb, ltb-true, ltb-false}
use lib.IntN.{ℤ, pos}
use lib.Dec.{T, eqb}
use lib.Ieee.{Float, nan, inf, fin, binary64, up, down, odd, lt, eq, ne, div, fits, is_nan, of_fields, of_bits, to_bits}
use lib.Ieee.Bits.{is_true, of_bits-to_bits}
use lib.Ieee.Fits.{up_pos, and_l}
use Rattle.std.proofs.lemmas.Float.{T_from_true, T_from_false}
use Rattle.std.specs.Float.{float_is_infinite}
use Rattle.root.specs.Root.{root_of}
use Rattle.root.specs.Nearest.{infinity}
use Rattle.root.proofs.Patterns.{is_finite}

-- ---- what the tests say, each with the zero that they compare with

abbrev zero64 : Float
zero64 = of_bits binary64 0

pub nan_stays : (x : Float) → is_nan x ≡ true → x ≡ root_of x
unfolding is_nan root_of
nan_stays nan h = refl
nan_stays (inf s) h = cc
nan_stays (fin s m e) h = cc

-- a not-a-number by its own comparison, and made by a division
pub not_nan : (x : Float) → ne x x ≡ false → T (not (is_nan x))
unfolding ne is_nan
not_nan nan h = absurd (true≢false h)
not_nan (inf s) h = tt
not_nan (fin s m e) h = tt

pub nan_made : div binary64 (of_bits binary64 0) (of_bits binary64 0) ≡ nan
unfolding div of_bits
nan_made = refl

-- what equals zero has no digits
pub zero_stays : (x : Float) → eq x zero64 ≡ true → x ≡ root_of x
unfolding eq root_of of_bits
zero_stays nan h = refl
zero_stays (inf s) h = cc
zero_stays (fin s zero e) h = refl
zero_stays (fin s (suc m) e) h =
    let a = suc m * up e * 1 in
    let b = 0 * 1 * down e in
    let k : a ≡ b = eqb-true a b (is_true _ (and_l (eqb a b) _ (T_from_true _ h))) in
    let p : 0 < suc m * up e = mul-pos (omega arith) (up_pos e) in
    absurd (omega arith)

pub negative_none : (x : Float) → lt x zero64 ≡ true → of_bits binary64 0x7ff8_0000_0000_0000 ≡ root_of x
unfolding lt root_of of_bits
negative_none nan h = refl
negative_none (inf true) h = refl
negative_none (inf false) h = cc
negative_none (fin true zero e) h = let k : 0 < 0 * up e * 1 + 0 * 1 * down e = ltb-true _ _ h in absurd (omega arith)
negative_none (fin true (suc m) e) h = refl
negative_none (fin false m e) h = let k : m * up e * 1 < 0 * 1 * down e = ltb-true _ _ h in absurd (omega arith)

pub infinity_stays : (x : Float) → lt x zero64 ≡ false → float_is_infinite x ≡ true → x ≡ root_of x
unfolding lt root_of float_is_infinite of_bits
infinity_stays nan h k = refl
infinity_stays (inf true) h k = cc
infinity_stays (inf false) h k = refl
infinity_stays (fin s m e) h k = cc

-- ---- the patterns of the others

negative : Float → Bool
negative nan = true
negative (inf s) = s
negative (fin s m e) = s

odd_negative : (d q k l : ℕ) → negative (odd d true q k l) ≡ true
unfolding negative odd
odd_negative d zero k l = refl
odd_negative d (suc q) k l = refl

fields_negative : (e t : ℕ) → negative (of_fields binary64 true e t) ≡ true
unfolding negative of_fields
fields_negative zero t = odd_negative 53 t 0 1074
fields_negative (suc e) t = go (eqb (suc e) 2047) (eqb t 0)
  where
    go : (a b : Bool) → negative (cond a (cond b (inf true) nan) (odd 53 true (2 ^ 52 + t) e 1074)) ≡ true
    go true true = refl
    go true false = refl
    go false b = odd_negative 53 (2 ^ 52 + t) e 1074

bits_negative : (b : ℕ) → 2 ^ 63 ≤ b → negative (of_bits binary64 b) ≡ true
unfolding of_bits
bits_negative b h = rw (le-leb (2 ^ 63) b h) (fields_negative (b % 2 ^ 63 / 2 ^ 52) (b % 2 ^ 52))

-- a negative one is below zero, but for -0
below_zero : (x : Float) → negative x ≡ true → is_nan x ≡ false → eq x zero64 ≡ false → lt x zero64 ≡ false → ⊥
unfolding negative is_nan eq lt of_bits
below_zero nan n a z l = cc
below_zero (inf true) n a z l = cc
below_zero (inf false) n a z l = cc
below_zero (fin true m e) n a z l =
    let k : m * up e * 1 + 0 * 1 * down e ≤ 0 = ltb-false _ _ l in
    let y : ◌≡◌ true false = simp (eq-eqb (m * up e * 1) (0 * 1 * down e) (omega arith), eq-eqb (m * up e * 1) 0 (omega arith)) at z in
    cc
below_zero (fin false m e) n a z l = cc

infinity_is : float_is_infinite (of_bits binary64 infinity) ≡ true
unfolding float_is_infinite of_bits
infinity_is = refl

zero_is : eq (of_bits binary64 0) zero64 ≡ true
unfolding eq of_bits
zero_is = refl

-- what does not equal zero has a pattern above zero's
pub bits_above_zero : (x : Float) → T (fits binary64 x) → eq x zero64 ≡ false → 0 < to_bits binary64 x
bits_above_zero x f z = above (to_bits binary64 x) (of_bits-to_bits binary64 x f)
  where
    above : (n : ℕ) → of_bits binary64 n ≡ x → 0 < n
    above zero e = let y = ap (λ (v : Float). eq v zero64) e in let w = zero_is in cc
    above (suc n) e = omega arith

-- the negative ones and infinity, by their patterns
minus_zero_equals : (e : ℤ) → eq (fin true 0 e) (fin false 0 (pos 0)) ≡ true
unfolding eq
minus_zero_equals e = rw (zero-mul (up e), zero-mul (down e))

none_at : (x : Float) → negative x ≡ true → eq x (fin false 0 (pos 0)) ≡ false → nan ≡ root_of x
unfolding negative eq root_of
none_at nan n h = refl
none_at (inf true) n h = refl
none_at (inf false) n h = absurd (true≢false (sym n))
none_at (fin true zero e) n h = absurd (true≢false (sym (minus_zero_equals e) ∙ h))
none_at (fin true (suc m) e) n h = refl
none_at (fin false m e) n h = absurd (true≢false (sym n))

zero_digits : zero64 ≡ fin false 0 (pos 0)
unfolding of_bits
zero_digits = refl

pub none_below : (x : Float) → T (fits binary64 x) → 2 ^ 63 ≤ to_bits binary64 x → eq x zero64 ≡ false → nan ≡ root_of x
none_below x f n h =
    none_at x (ap negative (sym (of_bits-to_bits binary64 x f)) ∙ bits_negative (to_bits binary64 x) n) (rw zero_digits at h)

infinity_root : of_bits binary64 infinity ≡ root_of (of_bits binary64 infinity)
unfolding of_bits root_of
infinity_root = refl

pub infinity_by_bits : (x : Float) → T (fits binary64 x) → to_bits binary64 x ≡ infinity → x ≡ root_of x
infinity_by_bits x f h = subst (λ (y : Float). y ≡ root_of y) (ap (of_bits binary64) (sym h) ∙ of_bits-to_bits binary64 x f) infinity_root

pub positive_bits : (x : Float) → fits binary64 x ≡ true → is_nan x ≡ false → eq x zero64 ≡ false → lt x zero64 ≡ false → float_is_infinite x ≡ false
    → (0 < to_bits binary64 x) × (to_bits binary64 x < infinity)
positive_bits x f a z l i = (above b back, is_finite b (T_from_false _ (ap is_nan back ∙ a)) short finite)
  where
    b : ℕ
    b = to_bits binary64 x

    back : of_bits binary64 b ≡ x
    back = of_bits-to_bits binary64 x (T_from_true _ f)

    above : (n : ℕ) → of_bits binary64 n ≡ x → 0 < n
    above zero e = let y = ap (λ (v : Float). eq v zero64) e in let w = zero_is in cc
    above (suc n) e = omega arith

    short : b < 2 ^ 63
    short = lt_of_not-le (λ g. below_zero x (ap negative (sym back) ∙ bits_negative b g) a z l)

    finite : b ≢ infinity
    finite e = let y = ap float_is_infinite (ap (of_bits binary64) (sym e) ∙ back) in let w = infinity_is in cc
