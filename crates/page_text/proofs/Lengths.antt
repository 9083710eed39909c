-- Every cell takes 14 columns: `fourteen`; every line of a page 64 and a line feed: `sixty_four`. Assumes nothing.
use Prim.Native.Nat.{ℕ, zero, suc, ◌+◌, ◌-◌, ◌*◌, ◌/◌, ◌%◌, ◌^◌, ◌≤◌, ◌<◌}
use mathlib.Core.Path.{◌≡◌, refl, sym, ap, ◌∙◌, subst}
use mathlib.Core.Bool.{Bool, true, false, cond, ◌&&◌}
use mathlib.Core.List.{List, [], ◌∷◌, ◌++◌, map, append_assoc}
use native.Mathlib.Nat.{pow-suc, mul-suc}
use native.Mathlib.Omega.{arith}
use borrow.Author.Tests.{ltb-true, ltb-false}
use lib.Dec.{ltb}
use lib.ListN.{length, take, length-append, length-replicate, length-take}
use lib.Ieee.{Float, nan, inf, fin}
use Rattle.definition.specs.declared.TruingUncertaintyWarningCodeV1.{TruingUncertaintyWarningCodeV1}
use Rattle.definition.specs.declared.WeightedTruingObservationResultV1.{WeightedTruingObservationResultV1}
use Rattle.coverage.specs.Report.{CoveredApproximation, CoveredBand, CoveredReport}
use Rattle.numerals.specs.Numbers.{places_of, count_text}
use Rattle.numerals.proofs.Numbers.{text_length}
use Rattle.words.specs.Words.{bytes}
use Rattle.report_text.specs.Writing.{Text}
use Rattle.report_text.specs.Texts.{warning_name}
use Rattle.thousandths.specs.Thousandths.{thousandths_of, shown_at, shown_of}
use Rattle.thousandths.specs.declared.Shown.TheVariants.{Hashes, Fixed}
use Rattle.page_text.specs.Columns.{blanks, left_aligned, right_aligned, sign_text, three_text, fixed_text, shown_text, number_text, cell_text, row_text, line_text}
use Rattle.page_text.specs.Columns.{Fourteen}
use Rattle.page_text.specs.Page.{speed_line, coefficient_line, chi_square_line, shot_line, band_line, phrase_text, warning_line, page_lines, joined_lines}
use Rattle.page_text.specs.Page.{Line, every, SixtyFour}
use Rattle.page_text.specs.declared.Cell.{Cell}
use Rattle.page_text.specs.declared.Cell.TheVariants.{Blank, Mark, Number}

-- ---- how many digits a number has

tenth : (n p : ℕ) → n < p * 10 → n / 10 < p
tenth n p h = omega arith

places_le : (k j n : ℕ) → n < 10 ^ suc j → places_of k n ≤ suc j
places_le zero j n h = omega arith
places_le (suc k) j n h = go (ltb n 10) refl j h (λ i l. places_le k i (n / 10) l)
  where
    go : (t : Bool) → ltb n 10 ≡ t → (j : ℕ) → n < 10 ^ suc j → ((i : ℕ) → n / 10 < 10 ^ suc i → places_of k (n / 10) ≤ suc i)
        → cond t 1 (suc (places_of k (n / 10))) ≤ suc j
    go true e j h r = omega arith
    go false e zero h r = absurd (omega (arith, ltb-false n 10 e))
    go false e (suc j) h r = omega (arith, r j (tenth n (10 ^ suc j) (subst (λ (x : ℕ). n < x) (pow-suc 10 (suc j)) h)))

-- ---- the columns of a number

sign_length : (minus : Bool) → length (sign_text minus) ≡ cond minus 1 0
sign_length true = refl
sign_length false = refl

pub fixed_length : (minus : Bool) (q : ℕ) → length (fixed_text minus q) ≡ cond minus 1 0 + (length (count_text (q / 1000)) + 4)
fixed_length minus q =
    length-append (sign_text minus) (count_text (q / 1000) ++ (bytes "." ++ three_text (q % 1000)))
    ∙ rw (sign_length minus, length-append (count_text (q / 1000)) (bytes "." ++ three_text (q % 1000)))

right_length_lem : (n : ℕ) (t : Text) → length t ≤ n → length (right_aligned n t) ≡ n
right_length_lem n t h = omega (arith, length-append (blanks (n - length t)) t, length-replicate {A = ℕ} (n - length t) 32)

left_length : (n : ℕ) (t : Text) → length t ≤ n → length (left_aligned n t) ≡ n
left_length n t h = omega (arith, length-append t (blanks (n - length t)), length-replicate {A = ℕ} (n - length t) 32)

fixed_fits : (minus : Bool) (q j : ℕ) → q / 1000 < 10 ^ suc j → cond minus 1 0 + j ≤ 9 → length (fixed_text minus q) ≤ 14
fixed_fits minus q j h l = omega (arith, fixed_length minus q, text_length (q / 1000), places_le 19 j (q / 1000) h)

shown_fits : (s : Bool) (q : ℕ) → length (shown_text (shown_at s q)) ≤ 14
unfolding shown_at shown_text
shown_fits s q = go (s && ltb 0 q) (ltb q 1_000_000_000_000) (ltb q 10_000_000_000_000) refl refl
  where
    go : (m a b : Bool) → ltb q 1_000_000_000_000 ≡ a → ltb q 10_000_000_000_000 ≡ b
        → length (shown_text (cond m (cond a (Fixed true q) Hashes) (cond b (Fixed false q) Hashes))) ≤ 14
    go true true b e f = fixed_fits true q 8 (let l = ltb-true q 1_000_000_000_000 e in omega arith) (omega arith)
    go true false b e f = omega arith
    go false a true e f = fixed_fits false q 9 (let l = ltb-true q 10_000_000_000_000 f in omega arith) (omega arith)
    go false a false e f = omega arith

number_fits : (x : Float) → length (shown_text (shown_of x)) ≤ 14
unfolding shown_of shown_text
number_fits nan = omega arith
number_fits (inf s) = omega arith
number_fits (fin s m e) = shown_fits s (thousandths_of m e)

pub fourteen : Fourteen
unfolding cell_text number_text
fourteen Blank = refl
fourteen (Mark letter) = refl
fourteen (Number x) = right_length_lem 14 (shown_text (shown_of x)) (number_fits x)

-- ---- the columns of a line

-- a line of a label, which has at most 20 letters, and three cells
line_columns : (label : Text) (a b c : Cell) → length label ≤ 20 → Line (line_text label a b c)
unfolding row_text
line_columns label a b c h = record {
  columns = left_aligned 20 label ++ (cell_text a ++ (cell_text b ++ (cell_text c ++ blanks 2)));
  is = simp append_assoc;
  wide =
      omega (
        arith,
        left_length 20 label h,
        fourteen a,
        fourteen b,
        fourteen c,
        length-append (left_aligned 20 label) (cell_text a ++ (cell_text b ++ (cell_text c ++ blanks 2))),
        length-append (cell_text a) (cell_text b ++ (cell_text c ++ blanks 2)),
        length-append (cell_text b) (cell_text c ++ blanks 2),
        length-append (cell_text c) (blanks 2),
      );
}

speed_columns : (x : Float) (a : CoveredApproximation) → Line (speed_line x a)
unfolding speed_line
speed_columns x a = line_columns (bytes "speed") _ _ _ (omega arith)

coefficient_columns : (x : Float) (a : CoveredApproximation) → Line (coefficient_line x a)
unfolding coefficient_line
coefficient_columns x a = line_columns (bytes "coefficient") _ _ _ (omega arith)

chi_square_columns : (x : Float) → Line (chi_square_line x)
unfolding chi_square_line
chi_square_columns x = line_columns (bytes "chi-square") _ _ _ (omega arith)

shot_columns : (o : WeightedTruingObservationResultV1) → Line (shot_line o)
unfolding shot_line
shot_columns o = line_columns (bytes "shot") _ _ _ (omega arith)

band_columns : (b : CoveredBand) → Line (band_line b)
unfolding band_line
band_columns b = line_columns (bytes "distance") _ _ _ (omega arith)

phrase_length : (code : TruingUncertaintyWarningCodeV1) → length (phrase_text code) ≡ 24
unfolding phrase_text
phrase_length code = left_length 24 (take 24 (warning_name code)) (omega (arith, length-take 24 (warning_name code)))

warning_columns : (code : TruingUncertaintyWarningCodeV1) → Line (warning_line code)
unfolding warning_line
warning_columns code = record {
  columns = phrase_text code ++ blanks 40;
  is = sym (append_assoc (phrase_text code) (blanks 40) (10 ∷ []));
  wide = omega (arith, phrase_length code, length-append (phrase_text code) (blanks 40));
}

-- ---- the columns of a page

every_map : {A B : Type 0} (P : B → Type 0) (f : A → B) → ((a : A) → P (f a)) → (l : List A) → every P (map f l)
every_map P f h [] = tt
every_map P f h (a ∷ l) = (h a, every_map P f h l)

every_append : {A : Type 0} (P : A → Type 0) (k l : List A) → every P k → every P l → every P (k ++ l)
every_append P [] l g h = h
every_append P (a ∷ k) l g h = (g.0, every_append P k l g.1 h)

pub sixty_four : SixtyFour
unfolding page_lines
sixty_four p =
    let lists =
    every_append Line (map shot_line p.observations) _ (every_map Line shot_line shot_columns p.observations)
    (every_append Line (map band_line p.bands) _ (every_map Line band_line band_columns p.bands)
    (every_map Line warning_line warning_columns p.warnings)) in
    (speed_columns _ _, (coefficient_columns _ _, (chi_square_columns _, lists)))

-- so many lines, so many times 65 bytes
lines_length : (l : List Text) → every Line l → length (joined_lines l) ≡ 65 * length l
lines_length [] h = refl
lines_length (t ∷ l) h =
    let line = h.0 in
    omega (
      arith,
      length-append t (joined_lines l),
      lines_length l h.1,
      ap length line.is,
      length-append line.columns (10 ∷ []),
      line.wide,
      mul-suc 65 (length l),
    )

pub page_length : (p : CoveredReport) → length (joined_lines (page_lines p)) ≡ 65 * length (page_lines p)
page_length p = lines_length (page_lines p) (sixty_four p)
