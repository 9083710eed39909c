-- What the code's tests say of a double, as the definitions by cases have it. Other crates may cite them. Assumes nothing.
use mathlib.Core.Path.{◌≡◌, refl}
use Prim.Native.Nat.{ℕ, zero, suc, ◌+◌, ◌-◌, ◌*◌, ◌^◌, ◌≤◌, ◌<◌}
use native.Mathlib.Nat.{mul-pos}
use native.Mathlib.Omega.{arith}
use mathlib.Core.Bool.{Bool, true, false, cond, ◌&&◌, ◌||◌}
use lib.IntN.{ℤ, pos, negsuc}
use borrow.Author.Tests.{ltb-true, ltb-false, eqb-true, le-ltb, eq-eqb}
use lib.Dec.{eqb}
use lib.Pow.{pow_pos}
use lib.Ieee.{Float, nan, inf, fin, binary64, up, down, round, sub, div, neg, lt, eq, ne, is_nan, fits, of_bits}
use lib.Ieee.Fits.{up_pos, down_pos}
use lib.Ieee.Scale.{round_same}
use Rattle.std.specs.Float.{float_is_finite, float_is_infinite, float_with_sign, one_eighty, pi}
use Rattle.numeric.proofs.Order.{not_below_itself}
use Rattle.numeric.specs.Drop.{degrees_per_radian}
use Rattle.numeric.specs.Numeric.{zero64, finite, abs_of, max_of, clamp_of, hypot_of, scaled_of}

-- what the library's methods give is the definition's
pub finite_is : (x : Float) → float_is_finite x ≡ finite x
unfolding float_is_finite finite
finite_is nan = refl
finite_is (inf s) = refl
finite_is (fin s m e) = refl

pub abs_is : (x : Float) → float_with_sign false x ≡ abs_of x
unfolding float_with_sign abs_of
abs_is nan = refl
abs_is (inf s) = refl
abs_is (fin s m e) = refl

-- and its constants
pub infinity_is : of_bits binary64 0x7ff0_0000_0000_0000 ≡ inf false
unfolding of_bits
infinity_is = refl

pub nan_is : of_bits binary64 0x7ff8_0000_0000_0000 ≡ nan
unfolding of_bits
nan_is = refl

pub degrees_is : div binary64 (one_eighty binary64) (pi binary64) ≡ degrees_per_radian
unfolding div of_bits
degrees_is = refl

-- ---- a double by its own comparisons, without the library's methods

never : ◌≡◌ false true → ⊥
never h = let z : ◌≡◌ {A = ℕ} 0 1 = cc in omega arith

-- a number less itself is +0
nothing_left : (a c : ℕ) → 0 < c → round binary64 false (a - a) c ≡ zero64
unfolding of_bits round
nothing_left a c h =
    let z : a - a ≡ 0 = omega arith in
    rw z (round_same binary64 false 0 c 0 1 h (omega arith) (omega arith))

-- `x - x == 0.0` says that x is finite
pub finite_by_difference : (x : Float) → eq (sub binary64 x x) zero64 ≡ finite x
unfolding finite sub eq of_bits
finite_by_difference nan = refl
finite_by_difference (inf true) = refl
finite_by_difference (inf false) = refl
finite_by_difference (fin true m e) =
    let a = m * up e * down e in
    simp (le-ltb a a (omega arith), nothing_left a (down e * down e) (mul-pos (down_pos e) (down_pos e)))
finite_by_difference (fin false m e) =
    let a = m * up e * down e in
    simp (le-ltb a a (omega arith), nothing_left a (down e * down e) (mul-pos (down_pos e) (down_pos e)))

-- what is finite is a number
pub data Number : Float → Type 0 where
  number : (s : Bool) (m : ℕ) (e : ℤ) → Number (fin s m e)

pub finite_number : (x : Float) → finite x ≡ true → Number x
unfolding finite
finite_number nan h = absurd (never h)
finite_number (inf s) h = absurd (never h)
finite_number (fin s m e) h = number s m e

-- `x != x` says that x is a not-a-number
pub nan_by_difference : (x : Float) → ne x x ≡ is_nan x
unfolding is_nan ne
nan_by_difference nan = refl
nan_by_difference (inf true) = refl
nan_by_difference (inf false) = refl
nan_by_difference (fin true m e) = let a = m * up e * down e in simp (eq-eqb a a refl)
nan_by_difference (fin false m e) = let a = m * up e * down e in simp (eq-eqb a a refl)

and_left : (a b : Bool) → a && b ≡ true → a ≡ true
and_left true b h = refl
and_left false b h = h

-- no power of two above the first is 1
not_one : (k n : ℕ) → eqb n 1 ≡ true → n ≡ 2 ^ suc k → ⊥
not_one k n h p = omega (arith, eqb-true n 1 h, pow_pos k)

-- the absolute value, by the tests `x < 0.0` and `x == 0.0`
pub abs_below : (x : Float) → lt x zero64 ≡ true → neg x ≡ abs_of x
unfolding abs_of neg lt of_bits
abs_below nan h = cc
abs_below (inf true) h = refl
abs_below (inf false) h = cc
abs_below (fin true m e) h = refl
abs_below (fin false m e) h =
    let l : m * up e * 1 < 0 * 1 * down e = ltb-true (m * up e * 1) (0 * 1 * down e) h in
    absurd (omega arith)

pub abs_level : (x : Float) → fits binary64 x ≡ true → eq x zero64 ≡ true → zero64 ≡ abs_of x
unfolding abs_of eq of_bits fits
abs_level nan f h = cc
abs_level (inf s) f h = cc
abs_level (fin s zero (pos zero)) f h = refl
abs_level (fin s zero (pos (suc k))) f h = absurd (not_one k (2 ^ suc k * 1) f (omega arith))
abs_level (fin s zero (negsuc k)) f h = absurd (not_one k (1 * 2 ^ suc k) f (omega arith))
abs_level (fin s (suc m) e) f h =
    let l : suc m * up e * 1 ≡ 0 * 1 * down e = eqb-true (suc m * up e * 1) (0 * 1 * down e) (and_left _ _ h) in
    let p : 0 < suc m * up e = mul-pos (omega arith) (up_pos e) in
    absurd (omega arith)

pub abs_other : (x : Float) → lt x zero64 ≡ false → eq x zero64 ≡ false → x ≡ abs_of x
unfolding abs_of lt eq of_bits
abs_other nan h k = refl
abs_other (inf true) h k = cc
abs_other (inf false) h k = refl
abs_other (fin true m e) h k =
    let a = m * up e * 1 in
    let b = 0 * 1 * down e in
    let l : a + b ≤ 0 = ltb-false 0 (a + b) h in
    let z : ◌≡◌ true false = simp (eq-eqb a b (omega arith), eq-eqb a 0 (omega arith)) at k in
    cc
abs_other (fin false m e) h k = refl

-- ---- max, clamp and hypot

-- the larger, by one test
pub max_by_tests : (x y : Float) → max_of x y ≡ cond (is_nan x || lt x y) y x
unfolding max_of is_nan lt
max_by_tests nan y = refl
max_by_tests (inf s) nan = refl
max_by_tests (inf s) (inf t) = refl
max_by_tests (inf s) (fin t n d) = refl
max_by_tests (fin s m e) nan = refl
max_by_tests (fin s m e) (inf t) = refl
max_by_tests (fin s m e) (fin t n d) = refl

-- max prefers a number to a not-a-number, on either side
pub max_of_nan : (y : Float) → max_of nan y ≡ y
unfolding max_of is_nan
max_of_nan y = refl

pub max_with_nan : (x : Float) → max_of x nan ≡ x
unfolding max_of is_nan
max_with_nan nan = refl
max_with_nan (inf s) = refl
max_with_nan (fin s m e) = refl

-- clamp keeps a not-a-number, and whatever compares neither below the lower nor above the upper end
pub clamp_of_nan : (lower upper : Float) → clamp_of nan lower upper ≡ nan
unfolding clamp_of lt
clamp_of_nan lower nan = refl
clamp_of_nan lower (inf t) = refl
clamp_of_nan lower (fin t n d) = refl

pub clamp_keeps : (x lower upper : Float) → lt x lower ≡ false → lt upper x ≡ false → clamp_of x lower upper ≡ x
unfolding clamp_of
clamp_keeps x lower upper h k = simp (h, k)

-- what clamp gives is not below the lower and not above the upper end, where the ends are not the wrong way round
pub clamp_within : (x lower upper : Float) → lt upper lower ≡ false → (lt (clamp_of x lower upper) lower ≡ false) × (lt upper (clamp_of x lower upper) ≡ false)
unfolding clamp_of
clamp_within x lower upper w = go (lt x lower) (lt upper x) refl refl
  where
    go : (p q : Bool) → lt x lower ≡ p → lt upper x ≡ q
        → (lt (cond p lower (cond q upper x)) lower ≡ false) × (lt upper (cond p lower (cond q upper x)) ≡ false)
    go true q h k = (not_below_itself lower, w)
    go false true h k = (w, not_below_itself upper)
    go false false h k = (h, k)

-- hypot, by the tests in the code's order
pub hypot_by_tests : (x y : Float)
    → hypot_of x y
    ≡ cond (float_is_infinite x || float_is_infinite y) (inf false)
    (cond (is_nan x || is_nan y) nan
    (cond (eq (abs_of x) zero64 && eq (abs_of y) zero64) zero64
    (cond (lt (abs_of x) (abs_of y)) (scaled_of (abs_of y) (abs_of x)) (scaled_of (abs_of x) (abs_of y)))))
unfolding hypot_of abs_of is_nan float_is_infinite
hypot_by_tests nan nan = refl
hypot_by_tests nan (inf t) = refl
hypot_by_tests nan (fin t n d) = refl
hypot_by_tests (inf s) y = refl
hypot_by_tests (fin s m e) nan = refl
hypot_by_tests (fin s m e) (inf t) = refl
hypot_by_tests (fin s m e) (fin t n d) = refl
