-- What lent records stand for in the definition.
use Rattle.std.specs.Prelude.{◌≡◌, List, map, Float}
use Rattle.definition.specs.Request.{Observation}
use Rattle.definition.specs.Meaning.{observations_of}

abbrev pub ranges_of : List Observation → List Float
ranges_of ws = map (λ (w : Observation). w.range_yd) ws

abbrev pub drops_of : List Observation → List Float
drops_of ws = map (λ (w : Observation). w.drop) ws

abbrev pub sigmas_of : List Observation → List Float
sigmas_of ws = map (λ (w : Observation). w.sigma) ws

-- the records hold what three lists hold together, so that a sum over either is a sum over the same observations. Theorem `as_lists`.
abbrev pub AsLists : Type 0
AsLists = (ws : List Observation) → observations_of (ranges_of ws) (drops_of ws) (sigmas_of ws) ≡ ws
