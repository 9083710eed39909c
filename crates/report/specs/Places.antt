-- The places of a list, counted from 0.
use Rattle.std.specs.Prelude.{ℕ, ◌≡◌, Bool, List, Float, slice_get}
use Rattle.std.specs.List.{list_any}
use Rattle.definition.specs.Request.{Requested}
use Rattle.warnings.specs.Warnings.{nearest_of, farthest_of, outside_of}

-- A list is read whole by its places: lists with the same places are the same. Theorem `lists_same`.
abbrev pub ListsSame : Type 1
ListsSame = (A : Type 0) (xs ys : List A) → ((i : ℕ) → slice_get xs i ≡ slice_get ys i) → xs ≡ ys

-- whether one of the requested distances is nearer than the nearest of the ranges, or farther than the farthest
unfoldable pub any_outside_of : List Float → List Requested → Bool
any_outside_of ranges requested = list_any (λ (d : Requested). outside_of (nearest_of ranges) (farthest_of ranges) d.range_yd) requested
