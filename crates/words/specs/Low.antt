-- The code looks for no word where the first byte is before the letters, and else for those of the same length alone.
use Rattle.std.specs.Prelude.{ℕ, Bool, false, cond, List, [], ◌∷◌, ltb, eqb, length}
use Rattle.words.specs.Words.{place_in, word_at}
use Rattle.words.specs.declared.Word.{Word}

-- the first byte is before the letters, as a number's mostly is: no word begins so
abbrev pub low : List ℕ → Bool
low [] = false
low (c ∷ s) = ltb c 58

-- the words of n bytes among these
abbrev pub with_length : ℕ → List Word → List Word
with_length n [] = []
with_length n (w ∷ ws) = cond (eqb (length (word_at (place_in w))) n) (w ∷ with_length n ws) (with_length n ws)
