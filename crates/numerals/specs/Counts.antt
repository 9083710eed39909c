-- How the bytes of a count lie in their place.
use Rattle.std.specs.Prelude.{ℕ, ◌≡◌, List, length, take}
use Rattle.std.proofs.Common.{ap, ◌∙◌}
use Rattle.numerals.specs.Numbers.{in20}
use Rattle.numerals.specs.declared.CountText.TheInside.{Inside}

-- so many bytes, and behind them zeros
abbrev pub IsText : Inside → Type 0
IsText t = (in20 (take t.len t.bytes) ≡ t.bytes) × (length (take t.len t.bytes) ≡ t.len)

-- a text in its place
abbrev pub laid_out : List ℕ → Inside
laid_out s = record { bytes = in20 s; len = length s }

pub laid_back : (t : Inside) → IsText t → laid_out (take t.len t.bytes) ≡ t
laid_back t h =
    ap (λ (bytes : List ℕ). record { bytes = bytes; len = length (take t.len t.bytes) }) h.0 ∙ ap (λ (n : ℕ). record { bytes = t.bytes; len = n }) h.1
