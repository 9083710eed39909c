-- Records and lists hold the same observations. Assumes nothing.
use Rattle.std.proofs.Common.{List, [], ◌∷◌, refl, ap}
use Rattle.definition.specs.Request.{Observation}
use Rattle.records.specs.Records.{AsLists}

pub as_lists : AsLists
as_lists [] = refl
as_lists (w ∷ ws) = ap (λ (xs : List Observation). w ∷ xs) (as_lists ws)
