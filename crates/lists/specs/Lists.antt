-- What the arrays of a run's lists stand for, and how a request goes into them.
use Rattle.std.specs.Prelude.{◌≤◌, ◌≡◌, Bool, true, false, List, length, map, take, replicate, Float, None}
use Rattle.numeric.specs.Numeric.{zero64}
use Rattle.definition.specs.Meaning.{observations_of}
use Rattle.definition.specs.Request.{Observation, Requested}
use Rattle.definition.specs.Run.{Entry, drop_or0}
use Rattle.slices.specs.Slices.{laid_over}
use Rattle.lists.specs.declared.Shots.{Shots}
use Rattle.lists.specs.declared.Wanted.{Wanted}

-- ---- the lists in the first places

abbrev pub observations_at : Shots → List Observation
observations_at s = observations_of (take s.n s.ranges) (take s.n s.drops) (take s.n s.sigmas)

abbrev pub requested_in : Wanted → List Requested
requested_in w = take w.n w.entries

-- whether the list of requested distances has an entry; within the 64 places their number says so
pub record HasWanted (w : Wanted) (r : Bool) : Type 0 where
  pub some_of : r ≡ true → w.n ≤ 64 → length (requested_in w) ≡ 0 → ⊥
  pub none_of : r ≡ false → w.n ≡ 0

-- ---- the lists of a request

-- a list in the first of 64 places; what lies past them is left out
abbrev pub places_of : List Float → List Float
places_of xs = laid_over xs (replicate 64 zero64)

-- the drops of a reply, 0 in place of a missing one
abbrev pub drops_in : List Entry → List Float
drops_in es = map drop_or0 es

abbrev pub shots_from : List Observation → Shots
shots_from obs = record {
  ranges = places_of (map (λ (o : Observation). o.range_yd) obs);
  drops = places_of (map (λ (o : Observation). o.drop) obs);
  sigmas = places_of (map (λ (o : Observation). o.sigma) obs);
  n = length obs;
}

-- what stands in the places past the last requested distance
abbrev pub no_request : Requested
no_request = record { range_yd = zero64; future_observation_sigma = None }

abbrev pub wanted_from : List Requested → Wanted
wanted_from ds = record { entries = laid_over ds (replicate 64 no_request); n = length ds }
