-- The poll direction, by S8's recipe.
use Rattle.std.specs.Prelude.{Bool, cond, not, ◌||◌, Float}
use Rattle.std.specs.Float.{binary64}
use Rattle.std.specs.Float.Ieee.{add, sub, mul, div, neg, lt, eq}
use Rattle.root.specs.Root.{root_of}
use Rattle.numeric.specs.Numeric.{zero64, one64, two64, finite, hypot_of}
use Rattle.numeric.specs.declared.Direction.{Direction}

-- S8's "if x, y or h is not finite or h is 0"
abbrev pub no_direction : Float → Float → Float → Bool
no_direction x y h = not (finite x) || not (finite y) || not (finite h) || eq h zero64

-- x = a00 − a11, y = 2 · a01, h = hypot(x, y): (1, 0) where there is no direction; else cos = root((1 + x/h)/2), sin = root((1 − x/h)/2), and only sin is
-- negated, if y < 0.
unfoldable pub direction_of : Float → Float → Float → Direction
direction_of a00 a01 a11 =
    let x = sub binary64 a00 a11 in
    let y = mul binary64 two64 a01 in
    let h = hypot_of x y in
    let cos = root_of (div binary64 (add binary64 one64 (div binary64 x h)) two64) in
    let sin = root_of (div binary64 (sub binary64 one64 (div binary64 x h)) two64) in
    cond (no_direction x y h) (record { cos = one64; sin = zero64 }) (cond (lt y zero64) (record { cos = cos; sin = neg sin }) (record { cos = cos; sin = sin }))
