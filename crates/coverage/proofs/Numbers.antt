-- A number that is read byte by byte. Assumes nothing.
use Rattle.std.proofs.Common.{◌≡◌, ℕ, ◌+◌, ◌-◌, ◌*◌, ◌^◌, ◌<◌, ◌≤◌, Bool, true, false, cond, ◌&&◌, eqb, ltb, leb, List, [], ◌∷◌, sym, refl, ap, ◌∙◌, arith, le-ltb, lt-ltb, le-leb, Option, Some, None}
use Rattle.std.proofs.lemmas.Bool.{cond_both, ltb-true, ltb-false, lt-leb, and_right}
use Rattle.std.specs.Option.{option_map, option_and_then}
use Rattle.std.specs.Char.{is_ascii_digit}
use lib.Ieee.{Float, binary64, round}
use Rattle.coverage.specs.declared.Digits.{Digits}
use Rattle.coverage.specs.declared.Digits.TheVariants.{Due, Whole, Point, Places}
use Rattle.coverage.specs.File.{Written, fraction, next, places_from, point_from, whole_from, value_of, number_of}
use Rattle.coverage.specs.Reading.{longer_of, digit_after, point_after, number_after, quotient_of, value_at, IsSmall}
use Rattle.coverage.proofs.Division.{one_division}

-- what the rest of a number makes
abbrev pub number_from : Digits → List ℕ → Option Float
number_from Due u = number_of u
number_from (Whole n) u = value_of (whole_from n u)
number_from (Point n) u = value_of (point_from n u)
number_from (Places n d) u = value_of (places_from n d u)

-- ---- too large stays too large, and too long too long

too_large : (n d : ℕ) → 2 ^ 53 ≤ n → value_of (Some (fraction n d)) ≡ None
too_large n d h = ap (λ (b : Bool). cond (b && leb d (10 ^ 15)) (Some (round binary64 false n d)) None) (le-ltb n (2 ^ 53) h)

too_long : (n d : ℕ) → 10 ^ 15 < d → value_of (Some (fraction n d)) ≡ None
too_long n d h = ap (λ (b : Bool). cond b (Some (round binary64 false n d)) None) (and_right (ltb n (2 ^ 53)) (leb d (10 ^ 15)) (lt-leb d (10 ^ 15) h))

none_if : (b : Bool) (w v : Option Written) → value_of w ≡ None → value_of v ≡ None → value_of (cond b w v) ≡ None
none_if true w v h g = h
none_if false w v h g = g

grows : (n c : ℕ) → 2 ^ 53 ≤ n → 2 ^ 53 ≤ next n c
grows n c h = omega arith

pub large_places : (n d : ℕ) (u : List ℕ) → 2 ^ 53 ≤ n → value_of (places_from n d u) ≡ None
large_places n d [] h = too_large n d h
large_places n d (c ∷ u) h = none_if (is_ascii_digit c) (places_from (next n c) (d * 10) u) None (large_places (next n c) (d * 10) u (grows n c h)) refl

large_point : (n : ℕ) (u : List ℕ) → 2 ^ 53 ≤ n → value_of (point_from n u) ≡ None
large_point n [] h = refl
large_point n (c ∷ u) h = none_if (is_ascii_digit c) (places_from (next n c) 10 u) None (large_places (next n c) 10 u (grows n c h)) refl

pub large_whole : (n : ℕ) (u : List ℕ) → 2 ^ 53 ≤ n → value_of (whole_from n u) ≡ None
large_whole n [] h = too_large n 1 h
large_whole n (c ∷ u) h =
    none_if (is_ascii_digit c) (whole_from (next n c) u) (cond (eqb c 46) (point_from n u) None) (large_whole (next n c) u (grows n c h))
    (none_if (eqb c 46) (point_from n u) None (large_point n u h) refl)

pub long_places : (n d : ℕ) (u : List ℕ) → 10 ^ 15 < d → value_of (places_from n d u) ≡ None
long_places n d [] h = too_long n d h
long_places n d (c ∷ u) h = none_if (is_ascii_digit c) (places_from (next n c) (d * 10) u) None (long_places (next n c) (d * 10) u (omega arith)) refl

-- ---- one byte more

-- v is what the number n with the digit d makes
digit_on : (n d : ℕ) (k : ℕ → Digits) (u : List ℕ) (v : Option Float) → v ≡ number_from (k (n * 10 + d)) u → (2 ^ 53 ≤ n * 10 + d → v ≡ None)
    → v ≡ option_and_then (λ t. number_from t u) (option_map k (longer_of n d))
unfolding longer_of
digit_on n d k u v h g =
    cond_both (ltb (n * 10 + d) (2 ^ 53)) (Some (n * 10 + d)) None (λ o. v ≡ option_and_then (λ t. number_from t u) (option_map k o)) (λ e. h)
    (λ e. g (ltb-false _ _ e))

-- w is what a digit makes, and v what a point makes
byte_on : (b p : Bool) (w v : Option Written) (s t : Option Digits) (u : List ℕ) → value_of w ≡ option_and_then (λ r. number_from r u) s
    → value_of v ≡ option_and_then (λ r. number_from r u) t → value_of (cond b w (cond p v None)) ≡ option_and_then (λ r. number_from r u) (cond b s (cond p t None))
byte_on true p w v s t u h g = h
byte_on false true w v s t u h g = g
byte_on false false w v s t u h g = refl

-- where no point may come
digit_only : (b p : Bool) (w : Option Written) (s : Option Digits) (u : List ℕ) → value_of w ≡ option_and_then (λ r. number_from r u) s
    → value_of (cond b w None) ≡ option_and_then (λ r. number_from r u) (cond b s (cond p None None))
digit_only true p w s u h = h
digit_only false true w s u h = refl
digit_only false false w s u h = refl

pub number_on : (s : Digits) (c : ℕ) (u : List ℕ) → number_from s (c ∷ u) ≡ option_and_then (λ t. number_from t u) (number_after s c)
unfolding number_after number_of
number_on Due c u =
    digit_only (is_ascii_digit c) (eqb c 46) (whole_from (next 0 c) u) (digit_after Due (c - 48)) u
    (digit_on 0 (c - 48) Whole u (value_of (whole_from (next 0 c) u)) refl (large_whole (next 0 c) u))
number_on (Whole n) c u =
    byte_on (is_ascii_digit c) (eqb c 46) (whole_from (next n c) u) (point_from n u) (digit_after (Whole n) (c - 48)) (point_after (Whole n)) u
    (digit_on n (c - 48) Whole u (value_of (whole_from (next n c) u)) refl (large_whole (next n c) u)) refl
number_on (Point n) c u =
    digit_only (is_ascii_digit c) (eqb c 46) (places_from (next n c) 10 u) (digit_after (Point n) (c - 48)) u
    (digit_on n (c - 48) (λ m. Places m 10) u (value_of (places_from (next n c) 10 u)) refl (large_places (next n c) 10 u))
number_on (Places n d) c u =
    digit_only (is_ascii_digit c) (eqb c 46) (places_from (next n c) (d * 10) u) (digit_after (Places n d) (c - 48)) u
    (cond_both (ltb (10 ^ 14) d) None (option_map (λ m. Places m (d * 10)) (longer_of n (c - 48)))
    (λ o. value_of (places_from (next n c) (d * 10) u) ≡ option_and_then (λ t. number_from t u) o)
    (λ e. long_places (next n c) (d * 10) u (omega (arith, ltb-true _ _ e)))
    (λ e. digit_on n (c - 48) (λ m. Places m (d * 10)) u (value_of (places_from (next n c) (d * 10) u)) refl (large_places (next n c) (d * 10) u)))

pub is_some : (n d : ℕ) → n < 2 ^ 53 → 0 < d → d ≤ 10 ^ 15 → value_of (Some (fraction n d)) ≡ Some (quotient_of n d)
unfolding quotient_of
is_some n d N P D =
    ap (λ (b : Bool). cond (b && leb d (10 ^ 15)) (Some (round binary64 false n d)) None) (lt-ltb n (2 ^ 53) N)
    ∙ ap (λ (b : Bool). cond b (Some (round binary64 false n d)) None) (le-leb d (10 ^ 15) D)
    ∙ ap (λ (z : Float). Some z) (sym (one_division n d N P (omega arith)))

-- the end of a number
pub number_end : (s : Digits) → IsSmall s → number_from s [] ≡ value_at s
unfolding value_at number_of
number_end Due h = refl
number_end (Whole n) h = is_some n 1 h (omega arith) (omega arith)
number_end (Point n) h = refl
number_end (Places n d) h = is_some n d h.0 h.1 h.2
