-- How the parts make the page: a number's columns, an interval's last row, a line, the warnings, the lists between the parts.
use Rattle.std.specs.Prelude.{count_by, Option, None, Some, option_map}
use Rattle.std.proofs.lemmas.Option.{slice_get-map, slice_get-get_or}
use Prim.Native.Nat.{ℕ, zero, suc, ◌+◌, ◌-◌, ◌/◌, ◌%◌, ◌≤◌, ◌<◌}
use mathlib.Core.Path.{◌≡◌, refl, sym, ap, ◌∙◌}
use mathlib.Core.Bool.{Bool, true, false, cond}
use mathlib.Core.List.{List, [], ◌∷◌, ◌++◌, map, append_assoc}
use native.Mathlib.Omega.{arith}
use mir.Val.{bool_byte}
use lib.ListN.{length, take, length-append, length-map}
use Rattle.interval.specs.declared.GaussianIntervalV1.{GaussianIntervalV1}
use Rattle.definition.specs.Summary.{warn}
use Rattle.definition.specs.declared.TruingUncertaintyWarningCodeV1.{TruingUncertaintyWarningCodeV1}
use Rattle.definition.specs.Meaning.{approximation_says}
use Rattle.coverage.specs.Rows.{Table, built_in_row, last_row, at_row, rows_under}
use Rattle.coverage.specs.Report.{approximation_by, CoveredBand, CoveredReport}
use Rattle.coverage.specs.Table.{rows_in}
use Rattle.coverage.specs.declared.Table as coverage
use Rattle.coverage.proofs.TableRows.{rows_least}
use Rattle.warnings.specs.Warnings.{codes, codes_of, stands_in}
use Rattle.warnings.specs.declared.Warnings.{Warnings}
use Rattle.warnings.specs.declared.TheConstants.{CODES}
use Rattle.report.specs.Report.{Results, seen_with}
use Rattle.report.specs.declared.UncertaintyTruingReportV1.{UncertaintyTruingReportV1}
use Rattle.report_text.specs.Writing.{Text}
use Rattle.report_text.specs.Writer.{Held, put}
use Rattle.report_text.specs.Lists.{after_each, separated}
use Rattle.report_text.proofs.Putting.{put_put}
use Rattle.page_text.specs.Columns.{blanks, right_aligned, sign_text, three_text, fixed_text, cell_text, row_text}
use Rattle.numerals.specs.Numbers.{count_text}
use Rattle.page_text.proofs.Lengths.{fixed_length}
use Rattle.page_text.specs.declared.Cell.{Cell}
use Rattle.page_text.specs.Page.{shown_row, speed_line, coefficient_line, chi_square_line, shot_line, band_line, warning_line, page_lines, joined_lines, page_text}
use Rattle.page_text.specs.Pieces.{head_text}

-- the first n of some blanks
pub first_blanks : (n k : ℕ) → n ≤ k → take n (blanks k) ≡ blanks n
first_blanks zero k h = refl
first_blanks (suc n) zero h = absurd (omega arith)
first_blanks (suc n) (suc k) h = ap (λ (t : Text). 32 ∷ t) (first_blanks n k (omega arith))

one_if : (b : Bool) → bool_byte b ≡ cond b 1 0
one_if true = refl
one_if false = refl

-- a number is its parts
pub fixed_put : (minus : Bool) (q : ℕ) {sign room : ℕ} {whole : Text} (h : Held) → whole ≡ count_text (q / 1000) → sign ≡ bool_byte minus
    → room ≡ 14 - (sign + length whole + 4)
    → put (46 ∷ three_text (q % 1000)) (put whole (put (sign_text minus) (put (take room (blanks 14)) h))) ≡ put (right_aligned 14 (fixed_text minus q)) h
fixed_put minus q {sign} {room} {whole} h e s f =
    let n : room ≡ 14 - length (fixed_text minus q) = omega (arith, fixed_length minus q, ap length e, one_if minus) in
    let l : room ≤ 14 = omega arith in
    rw (first_blanks room 14 l, e, n)
    (simp (put_put, append_assoc))

-- of an interval under a table the page shows the last row
last_row_shown : (t : Table) (g : GaussianIntervalV1) → 1 ≤ length t → shown_row (Some (rows_under t g)) ≡ Some (at_row g (last_row t))
unfolding rows_under
last_row_shown t g h =
    let inside : length t - 1 < length t = omega arith in
    rw (length-map t (at_row g), slice_get-map (at_row g) t (length t - 1), slice_get-get_or t (length t - 1) built_in_row inside)

-- every table of the code has a row
pub last_shown : (t : coverage.Table) (i : Option GaussianIntervalV1)
    → shown_row (option_map (rows_under (rows_in t)) i) ≡ option_map (λ g. at_row g (last_row (rows_in t))) i
last_shown t None = refl
last_shown t (Some g) = last_row_shown (rows_in t) g (rows_least t)

-- a line is its parts
pub row_put : (label : Text) (a b c : Cell) (h : Held)
    → put (32 ∷ 32 ∷ 10 ∷ []) (put (cell_text c) (put (cell_text b) (put (cell_text a) (put label h)))) ≡ put (row_text label a b c) h
unfolding row_text
row_put label a b c h = simp (put_put, append_assoc)

-- the lines before the lists
pub head_put : (t : Table) (r : UncertaintyTruingReportV1) (h : Held)
    → put (chi_square_line r.diagnostics.chi_square)
    (put (coefficient_line r.map_ballistic_coefficient (approximation_by (rows_under t) (approximation_says r.approximation)))
    (put (speed_line r.map_muzzle_velocity_fps (approximation_by (rows_under t) (approximation_says r.approximation))) h))
    ≡ put (head_text t r) h
unfolding head_text
head_put t r h = simp (put_put, append_assoc)

-- lines with nothing between two
nothing_between : (ts : List Text) → after_each [] ts ≡ joined_lines ts
nothing_between [] = refl
nothing_between (t ∷ ts) = ap (λ (s : Text). t ++ s) (nothing_between ts)

pub by_nothing : (ts : List Text) → separated [] ts ≡ joined_lines ts
by_nothing [] = refl
by_nothing (t ∷ ts) = ap (λ (s : Text). t ++ s) (nothing_between ts)

-- ---- how many warnings stand

warn_length : (stands : Bool) (code : TruingUncertaintyWarningCodeV1) (l : List TruingUncertaintyWarningCodeV1)
    → length (warn stands code l) ≡ cond stands 1 0 + length l
warn_length true code l = omega arith
warn_length false code l = omega arith

pub codes_length : (w : Warnings)
    → length (codes_of w)
    ≡ cond w.optimizer_did_not_converge 1 0
    + (cond w.objective_mesh_convergence 1 0
    + (cond w.weak_bc_sensitivity 1 0
    + (cond w.ill_conditioned_data 1 0
    + (cond w.mv_prior_dominated 1 0
    + (cond w.bc_prior_dominated 1 0
    + (cond w.gaussian_approximation_unavailable 1 0
    + (cond w.interval_crosses_fit_bounds 1 0
    + (cond w.low_effective_degrees_of_freedom 1 0
    + (cond w.prediction_outside_observed_domain 1 0 + 0)))))))))
unfolding codes
codes_length w = simp warn_length

pub standing_count : (w : Warnings) → count_by (stands_in w) CODES ≡ length (codes_of w)
standing_count w = omega (arith, codes_length w)

-- ---- the page

pub joined_append : (k l : List Text) → joined_lines (k ++ l) ≡ joined_lines k ++ joined_lines l
joined_append [] l = refl
joined_append (t ∷ k) l = ap (λ (s : Text). t ++ s) (joined_append k l) ∙ sym (append_assoc t (joined_lines k) (joined_lines l))

-- the parts, with the lists between them, are the page
pub page_parts : (t : Table) (h : UncertaintyTruingReportV1) (results entered : Results) (bands : List CoveredBand)
    → head_text t h
    ++ (joined_lines (map shot_line results) ++ (joined_lines (map band_line bands) ++ joined_lines (map warning_line (codes_of h.warnings))))
    ≡ page_text (seen_with (approximation_by (rows_under t)) h results entered bands)
unfolding head_text page_lines page_text
page_parts t h results entered bands =
    let lists : joined_lines (map shot_line results ++ (map band_line bands ++ map warning_line (codes_of h.warnings)))
    ≡ joined_lines (map shot_line results) ++ (joined_lines (map band_line bands) ++ joined_lines (map warning_line (codes_of h.warnings))) =
    joined_append (map shot_line results) (map band_line bands ++ map warning_line (codes_of h.warnings))
    ∙ ap (λ (t : Text). joined_lines (map shot_line results) ++ t) (joined_append (map band_line bands) (map warning_line (codes_of h.warnings))) in
    rw (lists, append_assoc, append_assoc)

pub lines_count : (p : CoveredReport) → length (page_lines p) ≡ 3 + length p.observations + length p.bands + length p.warnings
unfolding page_lines
lines_count p =
    omega (
      arith,
      length-append (map shot_line p.observations) (map band_line p.bands ++ map warning_line p.warnings),
      length-append (map band_line p.bands) (map warning_line p.warnings),
      length-map p.observations shot_line,
      length-map p.bands band_line,
      length-map p.warnings warning_line,
    )
