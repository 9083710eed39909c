-- The lists of the report that stands, and the report by its head, under a coverage table.
use Rattle.std.specs.Prelude.{Option, None, Some, option_map}
use Prim.Native.Nat.{ℕ, zero, suc, ◌≤◌}
use mathlib.Core.Path.{◌≡◌, refl, sym, ap, ◌∙◌, subst, subst⁻¹}
use mathlib.Core.List.{List, [], map}
use native.Mathlib.Omega.{arith}
use lib.ListN.{length}
use lib.Seq.{take_all}
use Rattle.bands.specs.Bands.{band_says}
use Rattle.bands.specs.declared.TruingPredictiveBandV1.{TruingPredictiveBandV1}
use Rattle.coverage.specs.Rows.{Table, rows_under}
use Rattle.coverage.specs.Report.{approximation_by, band_by, CoveredReport}
use Rattle.report.specs.Report.{seen_with, baseline_says}
use Rattle.report.specs.declared.TruingBaselineV1.{TruingBaselineV1}
use Rattle.report.specs.declared.UncertaintyTruingReportV1.{UncertaintyTruingReportV1}
use Rattle.report.specs.Reading.{place_in, of_baseline, baseline_results, HeadWith, report_in, BandRead}
use Rattle.covered_report.specs.Reading.{covered_in, ShowsUnder}
use Rattle.covered_report.proofs.Laws.{results_under, baseline_results_under, bands_under}
use Rattle.definition.specs.Session.{State}
use Rattle.editing.specs.Meaning.{state}
use Rattle.editing.specs.declared.Session.{Session}
use Rattle.report_text.specs.Writing.{Text}
use Rattle.report_text.specs.Lists.{present}
use Rattle.report_text.proofs.Listing.{taken}
use Rattle.report_text.proofs.Parts.{report_parts}
use Rattle.report_text.specs.Texts.{bracketed, or_none, result_text, band_text, results_text, bands_text, baseline_text, report_text}
use Rattle.answer_text.specs.Answers.{texts_in, entered_text, shown_text, standing_text}

-- an item by what it says
pub said_texts : {A B : Type 0} (text : B → Text) (says : A → B) (o : Option A) → option_map (λ a. text (says a)) o ≡ option_map text (option_map says o)
said_texts text says None = refl
said_texts text says (Some a) = refl

-- a band that is read, its intervals by their rows
pub band_texts : (t : Table) {x : State} {i : ℕ} {r : Option TruingPredictiveBandV1} → BandRead x i r
    → option_map (λ b. band_text (band_by (rows_under t) (band_says b))) r ≡ texts_in band_text (λ p. p.bands) (covered_in t x) i
band_texts t {x} {i} {r} read =
    said_texts (λ b. band_text (band_by (rows_under t) b)) band_says r
    ∙ said_texts band_text (band_by (rows_under t)) (option_map band_says r)
    ∙ ap (option_map band_text) (ap (option_map (band_by (rows_under t))) read.is ∙ bands_under t i x)

-- a list of the report that stands, read place by place
pub listed : {P A : Type 0} (text : A → Text) (list : P → List A) (n : ℕ) (x : Option P) (p : P) → x ≡ Some p → length (list p) ≤ n
    → present n (λ i. option_map text (place_in list i x)) ≡ map text (list p)
listed {P} text list n x p e h =
    subst⁻¹ (λ (y : Option P). present n (λ i. option_map text (place_in list i y)) ≡ map text (list p)) e
    (taken text (list p) n ∙ ap (λ l. map text l) (take_all n (list p) h))

-- by places at which the same stands
same_places : {A : Type 0} (text : A → Text) (f g : ℕ → Option A) → ((i : ℕ) → f i ≡ g i) → (n : ℕ)
    → present n (λ i. option_map text (f i)) ≡ present n (λ i. option_map text (g i))
same_places text f g e zero = refl
same_places text f g e (suc n) = rw (same_places text f g e n, e n)

-- ---- the report by its head

module _
    (t : Table) (s : Session) (h : UncertaintyTruingReportV1) (p : CoveredReport) (e : covered_in t (state s) ≡ Some p)
    (d : HeadWith (approximation_by (rows_under t)) h p) where
  results_are : bracketed (present h.observations (texts_in result_text (λ q. q.observations) (report_in (state s)))) ≡ results_text p.observations
  unfolding results_text
  results_are =
      ap bracketed
      (same_places result_text _ _ (λ i. results_under t i (state s)) h.observations
      ∙ listed result_text (λ q. q.observations) h.observations (covered_in t (state s)) p e (omega (arith, d.results)))

  entered_are : bracketed (present h.observations (texts_in result_text baseline_results (report_in (state s)))) ≡ results_text (of_baseline p.baseline)
  unfolding results_text
  entered_are =
      ap bracketed
      (same_places result_text _ _ (λ i. baseline_results_under t i (state s)) h.observations
      ∙ listed result_text baseline_results h.observations (covered_in t (state s)) p e d.baseline_results)

  bands_are : bracketed (present h.predictive_bands (texts_in band_text (λ q. q.bands) (covered_in t (state s)))) ≡ bands_text p.bands
  unfolding bands_text
  bands_are = ap bracketed (listed band_text (λ q. q.bands) h.predictive_bands (covered_in t (state s)) p e (omega (arith, d.bands)))

  baseline_is : (b : Option TruingBaselineV1) → or_none (entered_text h.observations s) b ≡ baseline_text (baseline_says b (of_baseline p.baseline))
  unfolding entered_text baseline_text
  baseline_is None = refl
  baseline_is (Some b) = rw entered_are

  shown_is : shown_text t s h ≡ report_text (seen_with (approximation_by (rows_under t)) h p.observations (of_baseline p.baseline) p.bands)
  unfolding shown_text
  shown_is = rw (results_are, baseline_is h.baseline, bands_are) (report_parts t h p.observations (of_baseline p.baseline) p.bands)

pub one_stands : (t : Table) (s : Session) (h : UncertaintyTruingReportV1) → ShowsUnder t (Some h) (covered_in t (state s))
    → shown_text t s h ≡ standing_text (covered_in t (state s))
one_stands t s h d = by (covered_in t (state s)) refl d
  where
    by : (x : Option CoveredReport) → covered_in t (state s) ≡ x → ShowsUnder t (Some h) x → shown_text t s h ≡ standing_text x
    by None e k = absurd k
    by (Some p) e k = shown_is t s h p e k ∙ ap report_text (sym k.seen)

pub none_stands : (t : Table) {r : Option UncertaintyTruingReportV1} (p : Option CoveredReport) → r ≡ None → ShowsUnder t r p → standing_text p ≡ []
none_stands t {r} p e d = by p (subst (λ (x : Option UncertaintyTruingReportV1). ShowsUnder t x p) e d)
  where
    by : (q : Option CoveredReport) → ShowsUnder t None q → standing_text q ≡ []
    by None k = refl
    by (Some q) k = absurd k
