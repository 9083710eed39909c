-- A change of the requested distances, as an edit of the definition.
use Rattle.std.specs.Prelude.{ℕ, suc, ◌-◌, Bool, true, [], ◌∷◌, ltb, Option, None, Some}
use Rattle.definition.specs.Request.{Requested}
use Rattle.definition.specs.Likelihood.{Rows}
use Rattle.definition.specs.Whole.{Edit, put_in, take_out, exchange}
use Rattle.definition.specs.declared.Row.{Row}
use Rattle.lists.specs.declared.Change.{Change}
use Rattle.lists.specs.declared.Change.TheVariants.{PutIn, TakeOut, Exchange}

abbrev pub edit_of : Change → Edit
edit_of (PutIn place d) = put_in place d
edit_of (TakeOut place) = take_out place
edit_of (Exchange place d) = exchange place d

-- the place of an edit
abbrev pub place_of : Edit → ℕ
place_of (put_in i d) = i
place_of (take_out i) = i
place_of (exchange i d) = i

-- the new distance, if it brings one
abbrev pub entry_in : Edit → Option Requested
entry_in (put_in i d) = Some d
entry_in (take_out i) = None
entry_in (exchange i d) = Some d

-- how many there are afterwards
abbrev pub size_after : Edit → ℕ → ℕ
size_after (put_in i d) n = suc n
size_after (take_out i) n = n - 1
size_after (exchange i d) n = n

-- one more fits only into fewer than 64
abbrev pub roomy : Edit → ℕ → Bool
roomy (put_in i d) n = ltb n 64
roomy (take_out i) n = true
roomy (exchange i d) n = true

-- the rows of one distance
abbrev pub rows_from : Row → Rows
rows_from r = record { predicted = r.predicted_drop ∷ []; by_mv = r.d_drop_d_mv ∷ []; by_bc = r.d_drop_d_bc ∷ []; gap = 0 }
