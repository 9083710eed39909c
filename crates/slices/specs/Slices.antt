-- How lent slices and the session's arrays stand for the definition's lists.
use Rattle.std.specs.Prelude.{ℕ, min, List, [], ◌∷◌}

-- the least of three lengths: how far three lists are read together
abbrev pub shortest_of : ℕ → ℕ → ℕ → ℕ
shortest_of a b c = min a (min b c)

-- a list with another laid over its first places; it keeps its length
abbrev pub laid_over : {A : Type 0} → List A → List A → List A
laid_over [] ys = ys
laid_over (x ∷ xs) [] = []
laid_over (x ∷ xs) (y ∷ ys) = x ∷ laid_over xs ys
