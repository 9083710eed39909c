-- The square root of IEEE 754 (5.4.1) on doubles: the exact root, rounded once to the nearest double. Definitions only.
use Prim.Native.Nat.{ℕ, zero, suc, ◌+◌, ◌-◌, ◌*◌, ◌/◌, ◌^◌, compare}
use Rattle.std.specs.Prelude.{true, false, cond, leb, Float}
use Rattle.std.specs.Float.{nan, inf, fin, binary64}
use Rattle.std.specs.Float.Ieee.{up, down, size, nearest, units}

-- The whole part of the root of n, for an n below 4 ^ d: twice that of n / 4, or one more where the square of that is still at most n.
unfoldable pub whole_root : ℕ → ℕ → ℕ
whole_root zero n = zero
whole_root (suc d) n = let w = 2 * whole_root d (n / 4) in cond (leb (suc w * suc w) n) (suc w) w

-- The largest w with w * w ≤ n.
unfoldable pub isqrt : ℕ → ℕ
unfolding whole_root size
isqrt n = whole_root (size n) n

-- The double nearest to the root of n, where 2 ^ -1074 counts as one. Of the root's whole part 53 digits are kept, q, and k are dropped.
-- The midpoint between q and the next number is (2 * q + 1) / 2, so four times n is compared with the square of (2 * q + 1) * 2 ^ k. At a tie the even one.
unfoldable pub nearest_root : ℕ → Float
unfolding isqrt size units
nearest_root n =
    let w = isqrt n in
    let k = size w - 53 in
    let q = w / 2 ^ k in
    let middle = (2 * q + 1) * 2 ^ k in
    units binary64 false (nearest q (compare (4 * n) (middle * middle))) k

-- The root of a double. A zero stays and keeps its sign, a negative number has none.
-- A positive one is u times 2 ^ -1074, so its root is that of u * 2 ^ 1074, times 2 ^ -1074.
unfoldable pub root_of : Float → Float
unfolding nearest_root
root_of nan = nan
root_of (inf false) = inf false
root_of (inf true) = nan
root_of (fin s zero e) = fin s zero e
root_of (fin true (suc m) e) = nan
root_of (fin false (suc m) e) = let u = suc m * up e * 2 ^ 1074 / down e in nearest_root (u * 2 ^ 1074)
