-- The texts of a session's answers: by what an answer says, and by the report that stands under a coverage table (L2).
use Rattle.std.specs.Prelude.{ℕ, ◌≤◌, List, [], ◌∷◌, ◌++◌, length, Option, None, Some, option_map}
use Rattle.definition.specs.Refusals.{number_of}
use Rattle.definition.specs.declared.Step.{Step}
use Rattle.coverage.specs.Rows.{Table}
use Rattle.coverage.specs.Report.{CoveredReport}
use Rattle.report.specs.Reading.{place_in, baseline_results, report_in}
use Rattle.report.specs.declared.TruingBaselineV1.{TruingBaselineV1}
use Rattle.report.specs.declared.UncertaintyTruingReportV1.{UncertaintyTruingReportV1}
use Rattle.covered_report.specs.Reading.{covered_in}
use Rattle.editing.specs.Meaning.{state}
use Rattle.editing.specs.declared.Session.{Session}
use Rattle.editing.specs.Meaning.{Answer}
use Rattle.numerals.specs.Numbers.{double_text}
use Rattle.report_text.specs.Writing.{Text}
use Rattle.report_text.specs.Lists.{present}
use Rattle.report_text.specs.Texts.{
  bracketed,
  or_none,
  result_text,
  band_text,
  question_text,
  declined_text,
  report_text,
  parts_text,
}

-- the report that stands, written out, or nothing where none does
abbrev pub standing_text : Option CoveredReport → Text
standing_text None = []
standing_text (Some p) = report_text p

abbrev pub said_text : Step → Option CoveredReport → Text
said_text (Step.Question mv bc list) p = question_text list mv bc
said_text Step.Report p = standing_text p
said_text (Step.Refused r) p = declined_text (number_of r.code) r.position

unfoldable pub answer_text : Table → Answer → Text
answer_text t a = said_text a.step (covered_in t (state a.session))

-- a text as a line, with its line feed
abbrev pub line : Text → Text
line text = text ++ (10 ∷ [])

abbrev pub line_text : Table → Answer → Text
line_text t a = line (answer_text t a)

-- The line of every answer, whatever its step and its session, under every table of at most 8 rows, fits the 131,072 bytes that the program has for it, so that
-- nothing of it is left out. Theorem `answer_fits`.
abbrev pub AnswerFits : Type 0
AnswerFits = (t : Table) → length t ≤ 8 → (a : Answer) → length (line_text t a) ≤ 131072

-- ---- a report by its head, its lists read from the session

-- the text of what stands at a place of one of a report's lists, if there is a report
abbrev pub texts_in : {P A : Type 0} → (A → Text) → (P → List A) → Option P → ℕ → Option Text
texts_in text list p i = option_map text (place_in list i p)

-- the first n of a list
abbrev pub list_text : {P A : Type 0} → (A → Text) → (P → List A) → Option P → ℕ → Text
list_text text list p n = bracketed (present n (texts_in text list p))

-- a baseline with its n results
unfoldable pub entered_text : ℕ → Session → TruingBaselineV1 → Text
entered_text n s b =
    bracketed
    (double_text b.muzzle_velocity_fps ∷ double_text b.ballistic_coefficient ∷ double_text b.chi_square ∷
    list_text result_text baseline_results (report_in (state s)) n ∷ [])

-- only the approximation and the bands have intervals
unfoldable pub shown_text : Table → Session → UncertaintyTruingReportV1 → Text
shown_text t s h =
    parts_text t h (list_text result_text (λ p. p.observations) (report_in (state s)) h.observations)
    (or_none (entered_text h.observations s) h.baseline)
    (list_text band_text (λ p. p.bands) (covered_in t (state s)) h.predictive_bands)
