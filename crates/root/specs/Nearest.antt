-- What IEEE 754 asks of a root, over whole numbers and bit patterns alone, and the theorems that say that `root_of` gives it.
-- They are proved in proofs/Nearest.antt, under the names that stand here.
use Rattle.std.specs.Prelude.{◌≡◌, false, ℕ, zero, suc, ◌+◌, ◌-◌, ◌*◌, ◌/◌, ◌%◌, ◌^◌, ◌<◌}
use Rattle.std.specs.Float.{binary64}
use Rattle.std.specs.Float.Ieee.{of_bits, to_bits}
use Rattle.std.specs.Float.Ieee.Exact.{HasValue}
use Rattle.root.specs.Root.{root_of}

-- The number of an exponent's field and a digits' field (IEEE 754, 3.4), in units of 2 ^ -1074. A field of 0 has no leading digit.
abbrev pub fields_magnitude : ℕ → ℕ → ℕ
fields_magnitude zero t = t
fields_magnitude (suc e) t = (2 ^ 52 + t) * 2 ^ e

-- The number that a pattern with the sign bit 0 stands for, in units of 2 ^ -1074.
unfoldable pub magnitude : ℕ → ℕ
magnitude b = fields_magnitude (b / 2 ^ 52) (b % 2 ^ 52)

-- The pattern of infinity: those below it are the finite doubles that are not negative.
abbrev pub infinity : ℕ
infinity = 0x7ff0_0000_0000_0000

-- The square of a number. In units of 2 ^ -1074 its square counts in units of 2 ^ -2148.
abbrev pub square : ℕ → ℕ
square a = a * a

-- The number that a pattern stands for, in units of 2 ^ -2148, to be compared with squares.
abbrev pub exact : ℕ → ℕ
exact x = magnitude x * 2 ^ 1074

-- r is the pattern nearest to the exact root of x: x lies strictly between the squares of the midpoints from r to its two neighbours.
-- A midpoint is half of a sum, so both sides stand here times 4.
pub record NearestRoot (x r : ℕ) : Type 0 where
  pub positive : 0 < r
  pub finite : r < infinity
  pub above_lower : square (magnitude (r - 1) + magnitude r) < 4 * exact x
  pub below_upper : 4 * exact x < square (magnitude r + magnitude (r + 1))

-- Theorem `nearest`: at every positive finite double the definition gives the nearest pattern.
abbrev pub Nearest : Type 0
Nearest = (b : ℕ) → 0 < b → b < infinity → NearestRoot b (to_bits binary64 (root_of (of_bits binary64 b)))

-- Theorem `unique`: no second pattern is nearest.
abbrev pub Unique : Type 0
Unique = (b r s : ℕ) → NearestRoot b r → NearestRoot b s → r ≡ s

-- Theorem `farther`: of all other doubles each is farther from the exact root. It lies below the midpoint to a larger one, and above that to a smaller one.
abbrev pub Farther : Type 0
Farther =
    (b r y : ℕ) → NearestRoot b r
    → (r < y → 4 * exact b < square (magnitude r + magnitude y)) × (y < r → square (magnitude r + magnitude y) < 4 * exact b)

-- Theorem `stands`: the double that a pattern is read as is not negative, and its number m * 2 ^ e is the pattern's magnitude: m * up e * 2 ^ 1074 ≡ magnitude
-- b * down e.
abbrev pub Stands : Type 0
Stands = (b : ℕ) → b < infinity → HasValue (of_bits binary64 b) false (magnitude b) (2 ^ 1074)
