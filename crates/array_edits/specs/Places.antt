-- An array of which the first n places are in use, with one entry put in or taken out: the changed list laid over it, so that the places behind that list stay
-- as they were.
use Rattle.std.specs.Prelude.{ℕ, cond, ◌&&◌, List, leb, ltb, take}
use Rattle.definition.specs.Lists.{insert_at, remove_at}
use Rattle.slices.specs.Slices.{laid_over}

module _ {A : Type 0} where
  -- The array as it was, where i is beyond the first n or no place is free behind them.
  unfoldable pub inserted_of : ℕ → ℕ → A → List A → List A
  inserted_of n i x old = cond (leb i n && ltb n 64) (laid_over (insert_at i x (take n old)) old) old

  -- The array as it was, where i is none of the first n or the array has fewer places. The place that falls free keeps the last entry.
  unfoldable pub removed_of : ℕ → ℕ → List A → List A
  removed_of n i old = cond (ltb i n && leb n 64) (laid_over (remove_at i (take n old)) old) old
