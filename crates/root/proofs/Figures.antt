-- Values of the definition, computed: one table, one proof. Inputs and roots as bit patterns, the roots by another machine's own root (tools/root_list.py
-- --figures). Assumes nothing.
use mathlib.Core.Bool.{Bool, true, ◌&&◌}
use mathlib.Core.List.{List, [], ◌∷◌}
use Prim.Native.Nat.{ℕ}
use lib.Dec.{T, eqb}
use lib.Ieee.{binary64, of_bits, to_bits}
use Rattle.root.specs.Root.{root_of}

-- the root of each first pattern has the second one
pub right : List (ℕ × ℕ) → Bool
right [] = true
right (p ∷ ps) = eqb (to_bits binary64 (root_of (of_bits binary64 p.0))) p.1 && right ps

pub table : List (ℕ × ℕ)
table =
    -- 2 ^ -1074, the smallest: 2 ^ -537
    (0x0000000000000001, 0x1e60000000000000) ∷
    -- the next one
    (0x0000000000000002, 0x1e66a09e667f3bcd) ∷
    -- a subnormal
    (0x0000000000abcdef, 0x1f1a36ff997670f8) ∷
    -- the largest subnormal
    (0x000fffffffffffff, 0x1fffffffffffffff) ∷
    -- the smallest normal
    (0x0010000000000000, 0x2000000000000000) ∷
    -- 1 / 4
    (0x3fd0000000000000, 0x3fe0000000000000) ∷
    -- 0.1
    (0x3fb999999999999a, 0x3fd43d136248490f) ∷
    -- 1, and its two neighbours
    (0x3fefffffffffffff, 0x3fefffffffffffff) ∷
    (0x3ff0000000000000, 0x3ff0000000000000) ∷
    (0x3ff0000000000001, 0x3ff0000000000000) ∷
    -- 2, an odd exponent
    (0x4000000000000000, 0x3ff6a09e667f3bcd) ∷
    -- 4, and its two neighbours
    (0x400fffffffffffff, 0x3fffffffffffffff) ∷
    (0x4010000000000000, 0x4000000000000000) ∷
    (0x4010000000000001, 0x4000000000000000) ∷
    -- 10
    (0x4024000000000000, 0x40094c583ada5b53) ∷
    -- (2 ^ 27 - 1) squared, which 53 digits do not hold
    (0x434ffffff8000000, 0x419ffffffc000000) ∷
    -- 1e300
    (0x7e37e43c8800759c, 0x5f138d352e5096af) ∷
    -- the largest
    (0x7fefffffffffffff, 0x5fefffffffffffff) ∷
    -- zero, and minus zero
    (0x0000000000000000, 0x0000000000000000) ∷
    (0x8000000000000000, 0x8000000000000000) ∷
    -- infinity, and minus infinity
    (0x7ff0000000000000, 0x7ff0000000000000) ∷
    (0xfff0000000000000, 0x7ff8000000000000) ∷
    -- not-a-number
    (0x7ff8000000000000, 0x7ff8000000000000) ∷
    -- -1, and the smallest negative
    (0xbff0000000000000, 0x7ff8000000000000) ∷
    (0x8000000000000001, 0x7ff8000000000000) ∷
    []

pub figures : T (right table)
unfolding right table root_of of_bits to_bits
figures = tt
