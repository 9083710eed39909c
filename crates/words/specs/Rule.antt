-- The rule of the table, for all its words at once: they are distinct, at most 32 bytes long and without a blank. So what the place says of a list of bytes
-- is what the bytes themselves say. The theorems stand in proofs/Rule.antt, by a computed test.
use Rattle.std.specs.Prelude.{ℕ, ◌<◌, ◌≡◌, Bool, true, not, ◌&&◌, List, [], ◌∷◌, leb, ltb, eqb, length}
use Prim.Native.String.{String}
use Rattle.words.specs.Words.{bytes, same, is, words, word_at, place_of, place}
use Rattle.words.specs.Low.{low}

-- s is the word at k where its place is k. Theorem `rule`.
abbrev pub Rule : Type 0
Rule = (s : List ℕ) (k : ℕ) → k < length words → eqb (place_of s) k ≡ same s (word_at k)

-- a quoted word of the table stands at its place. Theorem `word_of`.
abbrev pub WordOf : Type 0
WordOf = (w : String) → ltb (place w) (length words) ≡ true → word_at (place w) ≡ bytes w

-- So the test of a place is the test of the word: for each word of the table, `named "none" refl s` and so on. Theorem `named`.
abbrev pub Named : Type 0
Named = (w : String) → ltb (place w) (length words) ≡ true → (s : List ℕ) → eqb (place_of s) (place w) ≡ is w s

-- no byte is a blank
abbrev pub clean : List ℕ → Bool
clean [] = true
clean (c ∷ s) = not (eqb c 32) && clean s

-- a word of at most 32 bytes, none of them a blank
abbrev pub fit : List ℕ → Bool
fit w = leb (length w) 32 && clean w

-- so is the word at each place. Theorem `all_fit`.
abbrev pub AllFit : Type 0
AllFit = (k : ℕ) → fit (word_at k) ≡ true

-- what begins before the letters is none of the words. Theorem `low_none`.
abbrev pub LowNone : Type 0
LowNone = (s : List ℕ) → low s ≡ true → place_of s ≡ length words
