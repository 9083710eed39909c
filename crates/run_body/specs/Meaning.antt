-- What the fields of a body stand for, and what a reply makes of them.
use Rattle.std.specs.Prelude.{ℕ, zero, suc, ◌≡◌, Bool, cond, ◌&&◌, List, leb, eqb, take, Float, Option, None, Some, option_map}
use Rattle.numeric.specs.Numeric.{zero64, finite}
use Rattle.definition.specs.Request.{Measured, Opening}
use Rattle.definition.specs.Run.{Entry}
use Rattle.definition.specs.Likelihood.{chi_square_of, with_priors_of, from_sums, sums_of, Rows, rows_of}
use Rattle.definition.specs.Summary.{Baseline, results_of}
use Rattle.definition.specs.Session.{Sizes}
use Rattle.definition.specs.declared.Point.{Point}
use Rattle.definition.specs.declared.Evaluation.{Evaluation}
use Rattle.definition.specs.declared.TruingPriorsV1.{TruingPriorsV1}
use Rattle.definition.specs.declared.Distances.{Distances}
use Rattle.definition.specs.declared.Distances.TheVariants.{Shots, Requested, New}
use Rattle.lists.specs.Lists.{observations_at, requested_in, shots_from, wanted_from}
use Rattle.lists.specs.declared.Shots.{Shots as Observed}
use Rattle.stencil.specs.Stencil.{rows_at, all_rows, laid_rows}
use Rattle.stencil.specs.declared.StencilRows.{StencilRows}
use Rattle.fitting.specs.declared.Stage.{Stage}
use Rattle.phases.specs.Phases.{Held}
use Rattle.phases.specs.declared.Lays.{Lays}
use Rattle.phases.specs.declared.Lays.TheVariants.{Row, Baseline as Drops}
use Rattle.run_body.specs.declared.Body.{Body}

-- ---- its fields as the definition's values

abbrev pub measured_of : Body → Measured
measured_of b = record { entered = b.entered; observations = observations_at b.shots; priors = b.priors }

-- the baseline that the drops at the entered point make, where there are any
abbrev pub baseline_from : Measured → Option (List Float) → Option Baseline
baseline_from m None = None
baseline_from m (Some drops) =
    Some (record { entered = m.entered; chi_square = chi_square_of m.observations drops; observations = results_of m.observations drops })

abbrev pub baseline_in : Body → Option Baseline
baseline_in b = baseline_from (measured_of b) (option_map (take b.shots.n) b.baseline)

abbrev pub held_of : Body → Held
held_of b = record {
  measured = measured_of b;
  requested = requested_in b.wanted;
  progress = b.progress;
  rows = rows_at b.shots.n b.rows;
  band_rows = rows_at b.wanted.n b.rows;
  predicted = take b.shots.n b.predicted;
  baseline = baseline_in b;
}

-- the lists are within their places
abbrev pub within_of : Body → Bool
within_of b = leb b.shots.n 64 && leb b.wanted.n 64

abbrev pub sizes_of : Body → Sizes
sizes_of b = record { of_shots = b.shots.n; of_distances = b.wanted.n }

-- how many entries a question about these distances wants
abbrev pub wanted_by : Distances → ℕ → ℕ → ℕ
wanted_by Shots shots wanted = shots
wanted_by Requested shots wanted = wanted
wanted_by New shots wanted = 1

-- a body that holds the request, before the first question: what has come of the run is free until then
pub record Prepared (o : Opening) (b : Body) : Type 0 where
  pub point : b.entered ≡ o.measured.entered
  pub shots : b.shots ≡ shots_from o.measured.observations
  pub prior : b.priors ≡ o.measured.priors
  pub wanted : b.wanted ≡ wanted_from o.requested

-- ---- what a reply makes of what a body holds, by what its phase wants

abbrev pub laid_by : Option Lays → Point → List Entry → Rows → Rows
laid_by None p es r = r
laid_by (Some (Row k)) p es r = laid_rows k p es r
laid_by (Some Drops) p es r = r

abbrev pub sum_by : Option Point → Observed → TruingPriorsV1 → List Float → Float
sum_by None s q drops = zero64
sum_by (Some p) s q drops = with_priors_of q p (chi_square_of (observations_at s) drops)

-- whole rows: those without a gap
abbrev pub if_whole : {A : Type 0} → ℕ → A → A → A
if_whole zero new old = new
if_whole (suc gap) new old = old

abbrev pub evaluation_by : Option Stage → Evaluation → TruingPriorsV1 → Point → Observed → StencilRows 64 → Evaluation
evaluation_by None old q p s t = old
evaluation_by (Some stage) old q p s t = if_whole t.gap (from_sums q p (sums_of p (observations_at s) (rows_of (all_rows t)))) old

abbrev pub kept_by : Option Stage → List Float → StencilRows 64 → List Float
kept_by None old t = old
kept_by (Some Stage.Iteration) old t = old
kept_by (Some Stage.Final) old t = old
kept_by (Some Stage.Mesh) old t = old
kept_by (Some Stage.AtFit) old t = if_whole t.gap t.predicted old

abbrev pub baseline_by : Option Lays → Option (List Float) → ℕ → Observed → List Float → ℕ → Option (List Float)
baseline_by None old found s drops n = old
baseline_by (Some (Row k)) old found s drops n = old
baseline_by (Some Drops) old found s drops n = cond (eqb found 0 && finite (chi_square_of (observations_at s) (take n drops))) (Some drops) None
