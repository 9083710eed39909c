-- A run: a tree of questions, each a point and a list of distances, that ends in a value or in a refusal.
use Rattle.std.specs.Prelude.{ℕ, zero, suc, Bool, true, false, List, map, Float, Option, None, Some}
use Rattle.numeric.specs.Numeric.{zero64}
use Rattle.definition.specs.Lists.{first_at}
use Rattle.definition.specs.declared.Point.{Point}

-- an entry of a reply: a drop, or none where it is missing
abbrev pub Entry : Type 0
Entry = Option Float

-- the host's reply: a refusal of the point, or an entry for each distance
pub data Reply : Type 0 where
  refused : Reply
  entries : List Entry → Reply

-- which distances a question is about: the observations', the requested ones, or, in an edit, the new one alone
pub data Which : Type 0 where
  shots distances : Which
  new : Float → Which

-- a refusal is its number and a position, 0 where none is named
pub data Run (A : Type 0) : Type 0 where
  done : A → Run A
  refuse : ℕ → ℕ → Run A
  ask : Point → Which → (Reply → Run A) → Run A

module _ {A B : Type 0} where
  infixl 20 ◌>>=◌
  infixl 20 ◌>>◌
  abbrev pub bind : Run A → (A → Run B) → Run B
  bind (done a) f = f a
  bind (refuse n i) f = refuse n i
  bind (ask p w k) f = ask p w (λ r. bind (k r) f)

  -- for `do`
  abbrev pub ◌>>=◌ : Run A → (A → Run B) → Run B
  t >>= f = bind t f

  abbrev pub ◌>>◌ : Run A → Run B → Run B
  t >> u = bind t (λ a. u)

-- goes on where the test passes
abbrev pub require : Bool → ℕ → ℕ → Run (Unit {0})
require true n i = done tt
require false n i = refuse n i

-- goes on where the position is 0, that is, where nothing was found at fault
abbrev pub unless : ℕ → ℕ → Run (Unit {0})
unless zero n = done tt
unless (suc i) n = refuse n (suc i)

abbrev pub is_missing : Entry → Bool
is_missing None = true
is_missing (Some x) = false

-- 0 in place of a missing drop: the gap is judged before it could be read
abbrev pub drop_or0 : Entry → Float
drop_or0 None = zero64
drop_or0 (Some x) = x

-- the drops of a reply, and the position of the first that is missing, 0 where none is
pub record Reading : Type 0 where
  pub drops : List Float
  pub gap : ℕ

abbrev pub reading_of : List Entry → Reading
reading_of es = record { drops = map drop_or0 es; gap = first_at is_missing es }

abbrev pub answered : Reply → Run Reading
answered refused = refuse 10 0
answered (entries es) = done (reading_of es)

-- one question; a refusal of the point ends the run at once
abbrev pub read : Point → Which → Run Reading
read p w = ask p w answered
