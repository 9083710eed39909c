-- What a contract sees of a list of fixed room.
use Rattle.std.specs.Prelude.{ℕ, List, length}

-- the items, in order
pub record FixedList (T : Type 0) : Type 0 where
  pub items : List T

abbrev pub list_len : {T : Type 0} → FixedList T → ℕ
list_len v = length v.items
