-- The lists of a report and its baseline, by the arrays that a finished run holds, and how many of each there are.
use Rattle.std.specs.Prelude.{ℕ, ◌≤◌, ◌≡◌, List, length, take, Float, Option, None, Some, []}
use Rattle.definition.specs.Lists.{zip_with}
use Rattle.definition.specs.Likelihood.{chi_square_of, rows_of}
use Rattle.definition.specs.Summary.{Approximation, Band, results_of, band_of}
use Rattle.definition.specs.Summary as summary
use Rattle.definition.specs.declared.Point.{Point}
use Rattle.lists.specs.Lists.{requested_in, observations_at}
use Rattle.lists.specs.declared.Shots.{Shots}
use Rattle.lists.specs.declared.Wanted.{Wanted}
use Rattle.report.specs.Report.{Results}
use Rattle.stencil.specs.Stencil.{rows_at}
use Rattle.stencil.specs.declared.StencilRows.{StencilRows}

abbrev pub results_at : Shots → List Float → Results
results_at s drops = results_of (observations_at s) (take s.n drops)

abbrev pub bands_at : Approximation → Wanted → StencilRows 64 → List Band
bands_at a w t = zip_with (band_of a) (requested_in w) (rows_of (rows_at w.n t))

-- the observation results at the entered point, and the baseline, that these drops make, where there are any
abbrev pub baseline_results_at : Shots → Option (List Float) → Results
baseline_results_at s None = []
baseline_results_at s (Some drops) = results_at s drops

abbrev pub baseline_at : Shots → Point → Option (List Float) → Option summary.Baseline
baseline_at s entered None = None
baseline_at s entered (Some drops) =
    Some (record { entered = entered; chi_square = chi_square_of (observations_at s) (take s.n drops); observations = results_at s drops })

-- within the 64 places the count is that of the observations, and of their results
pub record ResultsCount (s : Shots) (predicted : List Float) (drops : Option (List Float)) (r : ℕ) : Type 0 where
  pub observed : s.n ≤ 64 → length (observations_at s) ≡ r
  pub results : s.n ≤ 64 → length (results_at s predicted) ≡ r
  pub entered : (d : List Float) → drops ≡ Some d → s.n ≤ 64 → length (results_at s d) ≡ r
  pub at_most : s.n ≤ 64 → length (baseline_results_at s drops) ≤ r

-- within the 64 places the count is that of the requested distances, and of their bands
pub record BandsCount (w : Wanted) (t : StencilRows 64) (r : ℕ) : Type 0 where
  pub places : r ≡ w.n
  pub requested : w.n ≤ 64 → length (requested_in w) ≡ r
  pub bands : (a : Approximation) → w.n ≤ 64 → length (bands_at a w t) ≡ r
