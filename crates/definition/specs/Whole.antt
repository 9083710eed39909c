-- The whole run: the opening's refusals, the fit, the evaluation at the fit, the bands, the baseline. And an edit of a finished run, which is a run too.
use Rattle.std.specs.Prelude.{ℕ, zero, suc, ◌-◌, ◌+◌, Bool, true, not, ◌&&◌, List, [], ◌∷◌, leb, ltb, length, set, get_or, Float, Option, None, Some}
use Rattle.std.specs.Float.Ieee.{le}
use Rattle.numeric.specs.Numeric.{zero64, finite, within_of}
use Rattle.criteria.specs.Criteria.{mv_min, mv_max, bc_min, bc_max}
use Rattle.definition.specs.Lists.{first_at, insert_at, remove_at}
use Rattle.definition.specs.Request.{Observation, Requested, Measured, Opening}
use Rattle.definition.specs.Run.{Run, done, ask, refuse, ◌>>=◌, ◌>>◌, require, unless, shots, distances, new}
use Rattle.definition.specs.Likelihood.{Rows, truing_jacobian_rows, complete, evaluate, evaluation_of}
use Rattle.definition.specs.Fit.{Fit, fit_map}
use Rattle.definition.specs.Summary.{Finished, Baseline, baseline_of}
use Rattle.definition.specs.declared.Point.{Point}
use Rattle.definition.specs.declared.Evaluation.{Evaluation}
use Rattle.definition.specs.declared.NormalPriorV1.{NormalPriorV1}

-- ---- opening: refusals 1 to 7, in order

-- finite and above 0
unfoldable pub positive_of : Float → Bool
positive_of x = finite x && not (le x zero64)

unfoldable pub sound_observation_of : Float → Float → Float → Bool
sound_observation_of range drop sigma = positive_of range && (finite drop && positive_of sigma)

abbrev pub faulty_observation : Observation → Bool
faulty_observation o = not (sound_observation_of o.range_yd o.drop o.sigma)

unfoldable pub sound_prior_of : Float → Float → Option NormalPriorV1 → Bool
sound_prior_of lower upper None = true
sound_prior_of lower upper (Some q) = within_of lower upper q.mean && positive_of q.sigma

abbrev pub sound_sigma : Option Float → Bool
sound_sigma None = true
sound_sigma (Some sigma) = positive_of sigma

unfoldable pub sound_requested_of : Requested → Bool
sound_requested_of d = positive_of d.range_yd && sound_sigma d.future_observation_sigma

abbrev pub faulty_requested : Requested → Bool
faulty_requested d = not (sound_requested_of d)

unfoldable pub checked_point : Point → Run (Unit {0})
checked_point p = do
  require (within_of mv_min mv_max p.mv) 1 1
  require (within_of bc_min bc_max p.bc) 1 2

unfoldable pub checked_count : List Observation → Run (Unit {0})
checked_count obs = do
  require (leb 2 (length obs)) 2 0
  require (leb (length obs) 64) 3 0

unfoldable pub checked_measured : Measured → Run (Unit {0})
checked_measured m = do
  checked_point m.entered
  checked_count m.observations
  unless (first_at faulty_observation m.observations) 4
  require (sound_prior_of mv_min mv_max m.priors.muzzle_velocity_fps) 5 1
  require (sound_prior_of bc_min bc_max m.priors.ballistic_coefficient) 5 2

unfoldable pub checked_requested : List Requested → Run (Unit {0})
checked_requested ds = do
  require (leb (length ds) 64) 6 0
  unless (first_at faulty_requested ds) 7

-- ---- the run

abbrev pub no_rows : Rows
no_rows = record { predicted = []; by_mv = []; by_bc = []; gap = 0 }

-- the five questions at the requested distances; an empty list puts none
unfoldable pub band_rows : Point → List Requested → Run Rows
band_rows p [] = done no_rows
band_rows p (d ∷ ds) = do
  rows ← truing_jacobian_rows p distances
  complete 13 rows

-- the question at the entered point, whose refusal refuses nothing
unfoldable pub baseline : Measured → Run (Option Baseline)
baseline m = ask m.entered shots (λ r. done (baseline_of m r))

unfoldable pub concluded : Measured → List Requested → Fit → Evaluation → List Float → Rows → Run Finished
concluded m ds f e drops bands = do
  b ← baseline m
  done (record { measured = m; fit = f; evaluation = e; predicted = drops; requested = ds; band_rows = bands; baseline = b })

-- the evaluation at the fit is there: it is kept with the drops that it predicts
unfoldable pub banded : Measured → List Requested → Fit → Evaluation → List Float → Run Finished
banded m ds f e drops = do
  bands ← band_rows f.point ds
  concluded m ds f e drops bands

unfoldable pub fitted : Measured → List Requested → Fit → Run Finished
fitted m ds f = do
  rows ← evaluate f.point
  banded m ds f (evaluation_of m f.point rows) rows.predicted

unfoldable pub run : Measured → List Requested → Run Finished
run m ds = do
  f ← fit_map m
  fitted m ds f

unfoldable pub whole : Opening → Run Finished
whole o = do
  checked_measured o.measured
  checked_requested o.requested
  run o.measured o.requested

-- ---- an edit of the requested distances, at a place counted from 1

pub data Edit : Type 0 where
  put_in : ℕ → Requested → Edit
  take_out : ℕ → Edit
  exchange : ℕ → Requested → Edit

abbrev pub edited : Edit → List Requested → List Requested
edited (put_in i d) ds = insert_at (i - 1) d ds
edited (take_out i) ds = remove_at (i - 1) ds
edited (exchange i d) ds = set ds (i - 1) d

-- the place is one of a list of so many; putting in also takes the place after the last
abbrev pub placed : Edit → ℕ → Bool
placed (put_in i d) n = leb 1 i && leb i (n + 1)
placed (take_out i) n = leb 1 i && leb i n
placed (exchange i d) n = leb 1 i && leb i n

-- the same change in a list of anything, by what goes in
abbrev pub edited_numbers : {A : Type 0} → Edit → A → List A → List A
edited_numbers (put_in i d) x xs = insert_at (i - 1) x xs
edited_numbers (take_out i) x xs = remove_at (i - 1) xs
edited_numbers (exchange i d) x xs = set xs (i - 1) x

-- the rows of a finished run with the new distance's row at the place
abbrev pub edited_rows : Edit → Rows → Rows → Rows
edited_rows e one rows = record {
  predicted = edited_numbers e (get_or one.predicted 0 zero64) rows.predicted;
  by_mv = edited_numbers e (get_or one.by_mv 0 zero64) rows.by_mv;
  by_bc = edited_numbers e (get_or one.by_bc 0 zero64) rows.by_bc;
  gap = 0;
}

-- everything else stays
abbrev pub renewed : Finished → Edit → Rows → Finished
renewed c e one = record {
  measured = c.measured;
  fit = c.fit;
  evaluation = c.evaluation;
  predicted = c.predicted;
  requested = edited e c.requested;
  band_rows = edited_rows e one c.band_rows;
  baseline = c.baseline;
}

-- a gap in the new distance's one row is at its place
abbrev pub unless_missing : ℕ → ℕ → Run (Unit {0})
unless_missing zero place = done tt
unless_missing (suc gap) place = refuse 13 place

-- the five questions about the new distance alone
unfoldable pub edit_questions : Finished → Edit → ℕ → Requested → Run Finished
edit_questions c e place d = do
  one ← truing_jacobian_rows c.fit.point (new d.range_yd)
  unless_missing one.gap place
  done (renewed c e one)

-- an edit at a place of the list
unfoldable pub edit : Finished → Edit → Run Finished
edit c (put_in i d) = do
  require (ltb (length c.requested) 64) 6 0
  require (sound_requested_of d) 7 i
  edit_questions c (put_in i d) i d
edit c (take_out i) = done (renewed c (take_out i) no_rows)
edit c (exchange i d) = do
  require (sound_requested_of d) 7 i
  edit_questions c (exchange i d) i d
