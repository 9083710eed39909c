-- The order of doubles, and the range that clamp takes them to. Assumes nothing.
use mathlib.Core.Path.{◌≡◌, refl}
use mathlib.Core.Bool.{Bool, true, false, cond}
use mathlib.Core.Logic.{◌⊎◌, inl, inr}
use lib.Dec.{not_T}
use lib.Ieee.{Float, nan, inf, fin, lt, le, is_nan}
use lib.Ieee.Bits.{is_true, is_false}
use Rattle.std.proofs.lemmas.Float.{T_from_true, T_from_false, lt_irrefl, le_of_not-lt, le_left, le_right}
use Rattle.numeric.specs.Numeric.{clamp_of}

-- of two that are no not-a-number, what is not below the other is at least the other
pub at_least : (x y : Float) → is_nan x ≡ false → is_nan y ≡ false → lt x y ≡ false → le y x ≡ true
at_least x y p q h = is_true (le y x) (le_of_not-lt x y (T_from_false (is_nan x) p) (T_from_false (is_nan y) q) (T_from_false (lt x y) h))

-- what passes a test is no not-a-number
compared_left : (x y : Float) → le x y ≡ true → is_nan x ≡ false
compared_left x y h = is_false (is_nan x) (le_left x y (T_from_true (le x y) h))

compared_right : (x y : Float) → le x y ≡ true → is_nan y ≡ false
compared_right x y h = is_false (is_nan y) (le_right x y (T_from_true (le x y) h))

-- nothing is below itself
pub not_below_itself : (x : Float) → lt x x ≡ false
not_below_itself x = is_false (lt x x) (not_T (lt x x) (lt_irrefl x))

-- clamp takes whatever is no not-a-number into the range from the lower to the upper end
pub clamp_between : (x lower upper : Float) → is_nan x ≡ false → le lower upper ≡ true
    → (le lower (clamp_of x lower upper) ≡ true) × (le (clamp_of x lower upper) upper ≡ true)
unfolding clamp_of
clamp_between x lower upper p w = go (lt x lower) (lt upper x) refl refl
  where
    l : is_nan lower ≡ false
    l = compared_left lower upper w

    u : is_nan upper ≡ false
    u = compared_right lower upper w

    go : (r q : Bool) → lt x lower ≡ r → lt upper x ≡ q
        → (le lower (cond r lower (cond q upper x)) ≡ true) × (le (cond r lower (cond q upper x)) upper ≡ true)
    go true q h k = (at_least lower lower l l (not_below_itself lower), w)
    go false true h k = (w, at_least upper upper u u (not_below_itself upper))
    go false false h k = (at_least x lower p l h, at_least upper x u p k)

-- what clamp gives is a not-a-number or in the range
pub clamp_range : (x lower upper : Float) → le lower upper ≡ true
    → (clamp_of x lower upper ≡ nan) ⊎ ((le lower (clamp_of x lower upper) ≡ true) × (le (clamp_of x lower upper) upper ≡ true))
unfolding clamp_of lt is_nan
clamp_range nan lower nan w = inl refl
clamp_range nan lower (inf t) w = inl refl
clamp_range nan lower (fin t n d) w = inl refl
clamp_range (inf s) lower upper w = inr (clamp_between (inf s) lower upper refl w)
clamp_range (fin s m e) lower upper w = inr (clamp_between (fin s m e) lower upper refl w)
