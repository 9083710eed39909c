-- The page for the counter (L1): a report under a coverage table as lines of 64 columns, each ended by a line feed.
use Rattle.std.specs.Prelude.{◌≡◌, ◌-◌, List, [], ◌∷◌, ◌++◌, map, length, take, Float, Option, None, Some, option_and_then, slice_get}
use Rattle.interval.specs.declared.GaussianIntervalV1.{GaussianIntervalV1}
use Rattle.definition.specs.declared.TruingUncertaintyWarningCodeV1.{TruingUncertaintyWarningCodeV1}
use Rattle.definition.specs.declared.WeightedTruingObservationResultV1.{WeightedTruingObservationResultV1}
use Rattle.coverage.specs.Report.{told, withheld, IntervalRows, CoveredApproximation, CoveredBand, CoveredReport}
use Rattle.words.specs.Words.{bytes}
use Rattle.report_text.specs.Writing.{Text}
use Rattle.report_text.specs.Texts.{warning_name}
use Rattle.page_text.specs.Columns.{blanks, left_aligned, line_text}
use Rattle.page_text.specs.declared.Cell.TheVariants.{Blank, Mark, Number}
use Rattle.page_text.specs.declared.Ends.{Ends}

-- ---- intervals

-- "the page uses the last row" of an interval; of no rows, which no table gives, none
abbrev pub shown_row : Option IntervalRows → Option GaussianIntervalV1
shown_row interval = option_and_then (λ rows. slice_get rows (length rows - 1)) interval

-- the ends of that row; where there is none, each is missing: a hyphen
abbrev pub ends_of : Option GaussianIntervalV1 → Ends
ends_of None = record { lower = Mark 45; upper = Mark 45 }
ends_of (Some g) = record { lower = Number g.lower; upper = Number g.upper }

abbrev pub speed_interval : CoveredApproximation → Option IntervalRows
speed_interval (told g) = Some g.muzzle_velocity
speed_interval (withheld code) = None

abbrev pub coefficient_interval : CoveredApproximation → Option IntervalRows
coefficient_interval (told g) = Some g.ballistic_coefficient
coefficient_interval (withheld code) = None

-- ---- the lines

-- fitted value, lower, upper
unfoldable pub speed_line : Float → CoveredApproximation → Text
speed_line mv a =
    let ends = ends_of (shown_row (speed_interval a)) in
    line_text (bytes "speed") (Number mv) ends.lower ends.upper

unfoldable pub coefficient_line : Float → CoveredApproximation → Text
coefficient_line bc a =
    let ends = ends_of (shown_row (coefficient_interval a)) in
    line_text (bytes "coefficient") (Number bc) ends.lower ends.upper

-- one number
unfoldable pub chi_square_line : Float → Text
chi_square_line x = line_text (bytes "chi-square") (Number x) Blank Blank

-- distance, measured, predicted
unfoldable pub shot_line : WeightedTruingObservationResultV1 → Text
shot_line o = line_text (bytes "shot") (Number o.range_yd) (Number o.observed_drop) (Number o.predicted_drop)

-- predicted drop, latent lower, latent upper
unfoldable pub band_line : CoveredBand → Text
band_line b =
    let ends = ends_of (shown_row b.latent) in
    line_text (bytes "distance") (Number b.predicted_drop) ends.lower ends.upper

-- a warning's phrase: its code's name in the source, cut to 24 letters, in 24 columns
unfoldable pub phrase_text : TruingUncertaintyWarningCodeV1 → Text
phrase_text code = left_aligned 24 (take 24 (warning_name code))

-- the phrase stands in place of a label
unfoldable pub warning_line : TruingUncertaintyWarningCodeV1 → Text
warning_line code = phrase_text code ++ (blanks 40 ++ (10 ∷ []))

-- ---- the page

unfoldable pub page_lines : CoveredReport → List Text
page_lines p =
    speed_line p.point.mv p.approximation ∷ coefficient_line p.point.bc p.approximation ∷ chi_square_line p.diagnostics.chi_square ∷
    (map shot_line p.observations ++ (map band_line p.bands ++ map warning_line p.warnings))

-- texts one after another
abbrev pub joined_lines : List Text → Text
joined_lines [] = []
joined_lines (t ∷ ts) = t ++ joined_lines ts

unfoldable pub page_text : CoveredReport → Text
page_text p = joined_lines (page_lines p)

-- where no report stands there is no page
abbrev pub lines_in : Option CoveredReport → List Text
lines_in None = []
lines_in (Some p) = page_lines p

abbrev pub page_in : Option CoveredReport → Text
page_in shown = joined_lines (lines_in shown)

-- ---- its lines

-- 64 columns and a line feed
pub record Line (t : Text) : Type 0 where
  pub columns : Text
  pub is : t ≡ columns ++ (10 ∷ [])
  pub wide : length columns ≡ 64

abbrev pub every : {A : Type 0} → (A → Type 0) → List A → Type 0
every P [] = Unit {0}
every P (a ∷ l) = P a × every P l

-- every line of every page is 64 columns and a line feed. Theorem `sixty_four`.
abbrev pub SixtyFour : Type 0
SixtyFour = (p : CoveredReport) → every Line (page_lines p)
