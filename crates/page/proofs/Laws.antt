-- The lists of the report that stands, line by line; the parts of its page; how many lines it has.
use Rattle.std.specs.Prelude.{Option, None, Some, option_map, slice_get}
use Prim.Native.Nat.{ℕ, suc, ◌+◌, ◌≤◌}
use mathlib.Core.Path.{◌≡◌, refl, sym, ap, ◌∙◌, subst}
use mathlib.Core.List.{List, [], ◌∷◌, ◌++◌, map, map-append, append-nil, append_assoc}
use native.Mathlib.Numerals.{add-one}
use native.Mathlib.Omega.{arith}
use lib.ListN.{length, take}
use Rattle.definition.specs.Session.{State, asking, standing, over}
use Rattle.definition.specs.Summary.{Finished, report_of}
use Rattle.coverage.specs.Rows.{Table, rows_under}
use Rattle.coverage.specs.Report.{approximation_by, band_by, CoveredReport, report_under}
use Rattle.coverage.specs.Table.{rows_in}
use Rattle.coverage.specs.declared.Table as coverage
use Rattle.coverage.proofs.TableRows.{rows_most}
use Rattle.bands.specs.Bands.{band_says}
use Rattle.bands.specs.declared.TruingPredictiveBandV1.{TruingPredictiveBandV1}
use Rattle.report.specs.declared.UncertaintyTruingReportV1.{UncertaintyTruingReportV1}
use Rattle.report.specs.Reading.{of_baseline, HeadWith, BandRead, report_in}
use Rattle.warnings.specs.Warnings.{codes_of}
use Rattle.editing.specs.Meaning.{state}
use Rattle.editing.specs.declared.Session.{Session}
use Rattle.covered_report.specs.Reading.{covered_in, ShowsUnder, ReportReadUnder}
use Rattle.covered_report.proofs.Laws.{bands_under}
use Rattle.report_text.specs.Writing.{Text}
use Rattle.report_text.specs.Writer.{Held, put}
use Rattle.report_text.specs.Lists.{present, separated}
use Rattle.report_text.proofs.Lengths.{Bounded}
use Rattle.report_text.proofs.Putting.{put_put}
use Rattle.answer_text.specs.Answers.{texts_in}
use Rattle.answer_text.proofs.ByPlace.{taken}
use Rattle.answer_text.proofs.Laws.{said_texts, listed}
use Rattle.answer_text.proofs.Fits.{shown_bounded}
use Rattle.page_text.specs.Page.{shot_line, band_line, warning_line, joined_lines, page_text, lines_in, page_in}
use Rattle.page_text.specs.Pieces.{head_text}
use Rattle.page_text.proofs.Lengths.{page_length as page-length-of}
use Rattle.page_text.proofs.Laws.{by_nothing, joined_append, page_parts, lines_count}
use Rattle.page.specs.Shown.{shown_page}

-- ---- the lists

-- one line more
pub next_line_lem : {A : Type 0} (f : A → Text) (l : List A) (i : ℕ) (a : A) → slice_get l i ≡ Some a
    → joined_lines (map f (take i l)) ++ f a ≡ joined_lines (map f (take (i + 1) l))
next_line_lem {A} f l i a e =
    sym (ap (λ (n : ℕ). joined_lines (map f (take n l))) (add-one i)
    ∙ ap (λ (m : List A). joined_lines (map f m)) (taken l i a e).0
    ∙ ap joined_lines (map-append f (take i l) (a ∷ []))
    ∙ joined_append (map f (take i l)) (f a ∷ [])
    ∙ ap (λ (s : Text). joined_lines (map f (take i l)) ++ s) (append-nil (f a)))

-- a band that is read, its line by the last of its intervals' rows
pub band_lines : (t : Table) {x : State} {i : ℕ} {r : Option TruingPredictiveBandV1} → BandRead x i r
    → option_map (λ b. band_line (band_by (rows_under t) (band_says b))) r ≡ texts_in band_line (λ p. p.bands) (covered_in t x) i
band_lines t {x} {i} {r} read =
    said_texts (λ b. band_line (band_by (rows_under t) b)) band_says r
    ∙ said_texts band_line (band_by (rows_under t)) (option_map band_says r)
    ∙ ap (option_map band_line) (ap (option_map (band_by (rows_under t))) read.is ∙ bands_under t i x)

-- ---- the page

-- its parts one after another
pub shown_put : (t : Table) (x : State) (r : UncertaintyTruingReportV1) (h : Held)
    → put (joined_lines (map warning_line (codes_of r.warnings)))
    (put (separated [] (present r.predictive_bands (texts_in band_line (λ p. p.bands) (covered_in t x))))
    (put (separated [] (present r.observations (texts_in shot_line (λ p. p.observations) (report_in x)))) (put (head_text t r) h)))
    ≡ put (shown_page t x r) h
unfolding shown_page
shown_put t x r h = simp (by_nothing, put_put, append_assoc)

-- by the report
shown_is : (t : Table) (h : UncertaintyTruingReportV1) (c : Finished) → HeadWith (approximation_by (rows_under t)) h (report_under t c)
    → shown_page t (standing c) h ≡ page_text (report_under t c)
unfolding shown_page report_of report_under
shown_is t h c d =
    let p = report_under t c in
    rw (
      listed shot_line (λ q. q.observations) h.observations (Some p) p refl (omega (arith, d.results)),
      listed band_line (λ q. q.bands) h.predictive_bands (Some p) p refl (omega (arith, d.bands)),
    )
    (page_parts t h p.observations (of_baseline p.baseline) p.bands ∙ ap page_text (sym d.seen))

pub one_stands : (t : Table) (x : State) (h : UncertaintyTruingReportV1) → ShowsUnder t (Some h) (covered_in t x)
    → shown_page t x h ≡ page_in (covered_in t x)
unfolding page_text
one_stands t (standing c) h d = shown_is t h c d
one_stands t (asking kept r) h d = absurd d
one_stands t over h d = absurd d

pub none_stands : (t : Table) {r : Option UncertaintyTruingReportV1} (p : Option CoveredReport) → r ≡ None → ShowsUnder t r p → page_in p ≡ []
none_stands t {r} p e d = by p (subst (λ (x : Option UncertaintyTruingReportV1). ShowsUnder t x p) e d)
  where
    by : (q : Option CoveredReport) → ShowsUnder t None q → page_in q ≡ []
    by None k = refl
    by (Some q) k = absurd k

-- ---- how many lines it has

module _ (t : coverage.Table) (s : Session) {r : Option UncertaintyTruingReportV1} (read : ReportReadUnder (rows_in t) (state s) r) where
  abbrev shown : Option CoveredReport
  shown = covered_in (rows_in t) (state s)

  shows : (y : Option UncertaintyTruingReportV1) → r ≡ y → ShowsUnder (rows_in t) y shown
  shows y e = subst (λ (z : Option UncertaintyTruingReportV1). ShowsUnder (rows_in t) z shown) e read.is

  pub no_lines : r ≡ None → length (lines_in shown) ≡ 0
  no_lines e = by shown (shows None e)
    where
      by : (q : Option CoveredReport) → ShowsUnder (rows_in t) None q → length (lines_in q) ≡ 0
      by None k = refl
      by (Some q) k = absurd k

  module _ {h : UncertaintyTruingReportV1} (e : r ≡ Some h) where
    -- its counts are within the limits, so that their sum is a number
    pub counts_within : (h.observations ≤ 64) × (h.predictive_bands ≤ 64) × (length (codes_of h.warnings) ≤ 10)
    counts_within = by shown (shows (Some h) e) (shown_bounded (rows_in t) (rows_most t) s.run s.edit)
      where
        by : (q : Option CoveredReport) → ShowsUnder (rows_in t) (Some h) q → ((p : CoveredReport) → q ≡ Some p → Bounded p)
            → (h.observations ≤ 64) × (h.predictive_bands ≤ 64) × (length (codes_of h.warnings) ≤ 10)
        by None k b = absurd k
        by (Some p) k b =
            let within = b p refl in
            let found : length p.warnings ≡ length (codes_of h.warnings) = ap (λ (q : CoveredReport). length q.warnings) k.seen in
            (omega (arith, k.results, within.results), omega (arith, k.bands, within.bands), omega (arith, within.warnings))

    pub lines_are : length (lines_in shown) ≡ 3 + h.observations + h.predictive_bands + length (codes_of h.warnings)
    lines_are = by shown (shows (Some h) e)
      where
        by : (q : Option CoveredReport) → ShowsUnder (rows_in t) (Some h) q
            → length (lines_in q) ≡ 3 + h.observations + h.predictive_bands + length (codes_of h.warnings)
        by None k = absurd k
        by (Some p) k =
            let found : length p.warnings ≡ length (codes_of h.warnings) = ap (λ (q : CoveredReport). length q.warnings) k.seen in
            omega (arith, lines_count p, k.results, k.bands)

-- ---- how long a page is

-- 65 bytes for each of three lines, of 64 observations, of 64 bands and of 10 warnings
shown_length : (p : Option CoveredReport) → ((q : CoveredReport) → p ≡ Some q → Bounded q) → length (page_in p) ≤ 9165
shown_length None b = omega arith
shown_length (Some p) b = let within = b p refl in omega (arith, page-length-of p, lines_count p, within.results, within.bands, within.warnings)

pub page_length : (t : Table) → length t ≤ 8 → (s : Session) → length (page_in (covered_in t (state s))) ≤ 9165
page_length t few s = shown_length (covered_in t (state s)) (shown_bounded t few s.run s.edit)
