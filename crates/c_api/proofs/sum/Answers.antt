-- `sum`: four columns, and the proved sum over their places in use.
use Prim.Native.Nat.{ℕ, ◌≤◌}
use mathlib.Core.Path.{◌≡◌, ap, ◌∙◌}
use mathlib.Core.List.{List}
use lib.ListN.{take, replicate}
use lib.Ieee.{Float}
use Rattle.numeric.specs.Numeric.{zero64}
use Rattle.slices.specs.Slices.{laid_over}
use Rattle.c_api.specs.Desk.{column_of}
use Rattle.c_api.proofs.Laws.{column_take, sum_by}
use Rattle.c_api.proofs.sum.Goals as goal

-- the places in use of a column's array
places : (stride offset n : ℕ) (bytes : List ℕ) {array used : List Float} → n ≤ 64 → array ≡ laid_over (column_of stride offset n bytes) (replicate 64 zero64)
    → used ≡ take n array → used ≡ column_of stride offset n bytes
places stride offset n bytes h e f = f ∙ ap (take n) e ∙ column_take stride offset n bytes h

pub returns : goal.returns
returns c =
    let a = c.args in
    let obs = a.observations.now in
    c.objective_sum.ensures
    ∙ sum_by a.priors a.p a.n obs a.replies.now
    c.first_places.result.now
    c.first_places-2.result.now
    c.first_places-3.result.now
    c.first_places-4.result.now
    (places 24 0 a.n obs c.requires.0 c.column-ranges.ensures c.first_places.ensures)
    (places 24 8 a.n obs c.requires.0 c.column-drops.ensures c.first_places-2.ensures)
    (places 24 16 a.n obs c.requires.0 c.column-sigmas.ensures c.first_places-3.ensures)
    (places 8 0 a.n a.replies.now c.requires.0 c.column-predicted.ensures c.first_places-4.ensures)
