-- What holds of every reader is kept by each byte: `fits_fed`.
use Rattle.std.proofs.Common.{◌≡◌, ℕ, ◌+◌, ◌-◌, ◌*◌, ◌^◌, ◌<◌, ◌≤◌, Bool, true, false, cond, ◌&&◌, eqb, ltb, List, [], ◌∷◌, ◌++◌, length, length-append, refl, arith, Option, Some, None, lit<, IfSome}
use Rattle.std.proofs.lemmas.Bool.{cond_both, ltb-true, ltb-false, and_parts}
use Rattle.std.specs.Char.{is_ascii_digit}
use Rattle.std.specs.Option.{option_map, unwrap_or}
use lib.Ieee.{Float}
use Rattle.coverage.specs.declared.CoverageRow.{CoverageRow}
use Rattle.coverage.specs.declared.Digits.{Digits}
use Rattle.coverage.specs.declared.Digits.TheVariants.{Due, Whole, Point, Places}
use Rattle.coverage.specs.declared.Field.{Field}
use Rattle.coverage.specs.declared.Field.TheVariants.{Level, Factor}
use Rattle.coverage.specs.declared.Spot.{Spot}
use Rattle.coverage.specs.declared.Spot.TheVariants as spot
use Rattle.coverage.specs.Reading.{Standing, longer_of, digit_after, point_after, number_after, value_at, stop_of, behind_of, field_after, first_line, row_opening, text_after, next_at, rows_after, line_at, fed_of, IsSmall, FitsAt, Fits}

-- ---- a number

small_longer : (n d : ℕ) (k : ℕ → Digits) → ((m : ℕ) → m < 2 ^ 53 → IsSmall (k m)) → IfSome (option_map k (longer_of n d)) IsSmall
unfolding longer_of
small_longer n d k h = cond_both (ltb (n * 10 + d) (2 ^ 53)) (Some (n * 10 + d)) None (λ o. IfSome (option_map k o) IsSmall) (λ e. h _ (ltb-true _ _ e)) (λ e. tt)

small_digit : (s : Digits) (d : ℕ) → IsSmall s → IfSome (digit_after s d) IsSmall
small_digit Due d h = small_longer 0 d Whole (λ m l. l)
small_digit (Whole n) d h = small_longer n d Whole (λ m l. l)
small_digit (Point n) d h = small_longer n d (λ m. Places m 10) (λ m l. (l, lit< tt, omega arith))
small_digit (Places n k) d h =
    cond_both (ltb (10 ^ 14) k) None (option_map (λ m. Places m (k * 10)) (longer_of n d)) (λ o. IfSome o IsSmall) (λ e. tt)
    (λ e. small_longer n d (λ m. Places m (k * 10)) (λ m l. (l, omega arith, omega (arith, ltb-false _ _ e))))

small_point : (s : Digits) → IsSmall s → IfSome (point_after s) IsSmall
small_point Due h = tt
small_point (Whole n) h = tt
small_point (Point n) h = tt
small_point (Places n d) h = tt

small_next : (s : Digits) (c : ℕ) → IsSmall s → IfSome (number_after s c) IsSmall
unfolding number_after
small_next s c h =
    cond_both (is_ascii_digit c) (digit_after s (c - 48)) (cond (eqb c 46) (point_after s) None) (λ o. IfSome o IsSmall) (λ e. small_digit s (c - 48) h)
    (λ e. cond_both (eqb c 46) (point_after s) None (λ o. IfSome o IsSmall) (λ e. small_point s h) (λ e. tt))

-- ---- a line

fits_behind : (f : Field) (o : Option Float) (rs : List CoverageRow) → IfSome (option_map (behind_of f) o) (λ t. FitsAt t rs)
fits_behind f None rs = tt
fits_behind Level (Some x) rs = tt
fits_behind (Factor x) (Some y) rs = tt

fits_more : (f : Field) (o : Option Digits) (rs : List CoverageRow) → IfSome o IsSmall → IfSome (option_map (λ t. spot.Number f t) o) (λ t. FitsAt t rs)
fits_more f None rs h = tt
fits_more f (Some s) rs h = h

fits_field : (f : Field) (s : Digits) (c : ℕ) (rs : List CoverageRow) → IsSmall s → IfSome (field_after f s c) (λ t. FitsAt t rs)
unfolding field_after
fits_field f s c rs h =
    cond_both (eqb c (stop_of f)) (option_map (behind_of f) (value_at s)) (option_map (λ t. spot.Number f t) (number_after s c)) (λ o. IfSome o (λ t. FitsAt t rs))
    (λ e. fits_behind f (value_at s) rs) (λ e. fits_more f (number_after s c) rs (small_next s c h))

fits_text : (n : ℕ) (o : Option ℕ) (in_text : ℕ → Spot) (behind : Spot) (rs : List CoverageRow) → ((j : ℕ) → j < n → FitsAt (in_text j) rs) → FitsAt behind rs
    → IfSome (option_map (λ j. cond (ltb j n) (in_text j) behind) o) (λ t. FitsAt t rs)
fits_text n None in_text behind rs g h = tt
fits_text n (Some j) in_text behind rs g h = cond_both (ltb j n) (in_text j) behind (λ t. FitsAt t rs) (λ e. g j (ltb-true j n e)) (λ e. h)

fits_if : (b : Bool) (s : Spot) (rs : List CoverageRow) → (b ≡ true → FitsAt s rs) → IfSome (cond b (Some s) None) (λ t. FitsAt t rs)
fits_if true s rs h = h refl
fits_if false s rs h = tt

fits_closed : (b : Bool) (x : CoverageRow) (rs : List CoverageRow) → IfSome (cond b (Some spot.Start) None) (λ t. FitsAt t (cond b (rs ++ (x ∷ [])) rs))
fits_closed true x rs = omega (arith, length-append rs (x ∷ []))
fits_closed false x rs = tt

fits_next : (s : Spot) (rs : List CoverageRow) (c : ℕ) → FitsAt s rs → IfSome (next_at s (length rs) c) (λ t. FitsAt t (rows_after s rs c))
fits_next (spot.Head k) rs c h = fits_text 10 (text_after first_line k c) (λ j. spot.Head j) (spot.Opening 0) rs (λ j l. (l, h.1)) (lit< tt)
fits_next (spot.Opening k) rs c h = fits_text 7 (text_after row_opening k c) (λ j. spot.Opening j) (spot.Number Level Due) rs (λ j l. l) tt
fits_next (spot.Number f s) rs c h = fits_field f s c rs h
fits_next (spot.Closed x) rs c h = fits_closed (eqb c 10 && ltb (length rs) 8) x rs
fits_next spot.Start rs c h =
    cond_both (eqb c 40) (Some (spot.Opening 1)) (cond (eqb c 41) (Some spot.End) None) (λ o. IfSome o (λ t. FitsAt t rs)) (λ e. lit< tt)
    (λ e. fits_if (eqb c 41) spot.End rs (λ e. h))
fits_next spot.End rs c h = fits_if (eqb c 10) spot.Done rs (λ e. h)
fits_next spot.Done rs c h = tt
fits_next (spot.Wrong k) rs c h = tt

few_after : (s : Spot) (rs : List CoverageRow) (c : ℕ) → length rs ≤ 8 → length (rows_after s rs c) ≤ 8
few_after (spot.Closed x) rs c h =
    cond_both (eqb c 10 && ltb (length rs) 8) (rs ++ (x ∷ [])) rs (λ us. length us ≤ 8)
    (λ e. omega (arith, length-append rs (x ∷ []), ltb-true (length rs) 8 (and_parts (eqb c 10) (ltb (length rs) 8) e).1)) (λ e. h)
few_after (spot.Head k) rs c h = h
few_after (spot.Opening k) rs c h = h
few_after (spot.Number f s) rs c h = h
few_after spot.Start rs c h = h
few_after spot.End rs c h = h
few_after spot.Done rs c h = h
few_after (spot.Wrong k) rs c h = h

fits_or : (o : Option Spot) (k : ℕ) (rs : List CoverageRow) → IfSome o (λ t. FitsAt t rs) → FitsAt (unwrap_or o (spot.Wrong k)) rs
fits_or None k rs h = tt
fits_or (Some s) k rs h = h

-- whatever the number of the line
pub fits_step : (s : Spot) (rs : List CoverageRow) (c k : ℕ) → FitsAt s rs → length rs ≤ 8
    → FitsAt (unwrap_or (next_at s (length rs) c) (spot.Wrong k)) (rows_after s rs c) × (length (rows_after s rs c) ≤ 8)
fits_step s rs c k h few = (fits_or (next_at s (length rs) c) k (rows_after s rs c) (fits_next s rs c h), few_after s rs c few)

pub fits_fed : (l : Standing) (c : ℕ) → Fits l → Fits (fed_of l c)
unfolding fed_of
fits_fed l c h = fits_step l.spot l.rows c (line_at l.spot (length l.rows)) h.0 h.1
