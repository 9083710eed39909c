-- A text written into a lent buffer from a position on. A text is the list of its bytes.
use Rattle.std.specs.Prelude.{ℕ, ◌≡◌, List, ◌++◌, length, take, drop}

abbrev pub Text : Type 0
Text = List ℕ

-- what stood before the position, then the text; what does not fit the buffer is left out
unfoldable pub written : Text → ℕ → Text → Text
written out at text = take (length out) (take at out ++ text)

-- the text is written from `at` on: the buffer `out` is `after` now, and `next` is the next position. A position past the end counts as the end.
pub record Writes (out : Text) (at : ℕ) (after : Text) (next : ℕ) (text : Text) : Type 0 where
  pub begins : take next after ≡ written out at text
  pub reaches : next ≡ length (written out at text)
  pub keeps : drop next after ≡ drop next out
