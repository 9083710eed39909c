-- The leaves on doubles (S8's hypot, S10), by IEEE 754's cases: `nan` (not-a-number), `inf s` and the numbers `fin s m e`, negative where s is true.
use Rattle.std.specs.Prelude.{Bool, true, false, cond, ◌&&◌, Float}
use Rattle.std.specs.Float.{nan, inf, fin, binary64}
use Rattle.std.specs.Float.Ieee.{add, mul, div, lt, eq, le, is_nan, of_bits}
use Rattle.root.specs.Root.{root_of}

-- the literals that several definitions name
abbrev pub zero64 : Float
zero64 = of_bits binary64 0

-- 0.5
abbrev pub half64 : Float
half64 = of_bits binary64 0x3fe0_0000_0000_0000

abbrev pub one64 : Float
one64 = of_bits binary64 0x3ff0_0000_0000_0000

abbrev pub two64 : Float
two64 = of_bits binary64 0x4000_0000_0000_0000

-- "finite": neither an infinity nor a not-a-number
unfoldable pub finite : Float → Bool
finite nan = false
finite (inf s) = false
finite (fin s m e) = true

-- finite, and from the lower to the upper end, ends included
unfoldable pub within_of : Float → Float → Float → Bool
within_of lower upper x = finite x && (le lower x && le x upper)

-- "absolute value": without the sign, so that −0 gives +0
unfoldable pub abs_of : Float → Float
abs_of nan = nan
abs_of (inf s) = inf false
abs_of (fin s m e) = fin false m e

-- S10's "max": prefers a number to a not-a-number. Where neither is below the other, also for zeros of unlike sign, it is the first: Rust leaves that open,
-- and this is our decision.
unfoldable pub max_of : Float → Float → Float
max_of x y = cond (is_nan x) y (cond (is_nan y) x (cond (lt x y) y x))

-- S10's "clamp": unchanged whatever compares neither below its lower nor above its upper end, so −0 stays −0, and a not-a-number, which compares with
-- nothing, stays too. The lower end is tested first: where the ends are the wrong way round, what is below the lower gives the lower, and else what is above
-- the upper gives the upper.
unfoldable pub clamp_of : Float → Float → Float → Float
clamp_of x lower upper = cond (lt x lower) lower (cond (lt upper x) upper x)

-- S8's "big · root(1 + q · q), q = small/big"
unfoldable pub scaled_of : Float → Float → Float
scaled_of big small =
    let q = div binary64 small big in
    mul binary64 big (root_of (add binary64 one64 (mul binary64 q q)))

-- S8's "hypot": infinity if either part is infinite; else not-a-number if either is; else 0 if both are zero; else by the larger and the smaller absolute
-- value. Of two equal ones q is 1.
unfoldable pub hypot_of : Float → Float → Float
hypot_of (inf s) y = inf false
hypot_of nan (inf t) = inf false
hypot_of nan nan = nan
hypot_of nan (fin t n d) = nan
hypot_of (fin s m e) (inf t) = inf false
hypot_of (fin s m e) nan = nan
hypot_of (fin s m e) (fin t n d) =
    let a = fin false m e in
    let b = fin false n d in
    cond (eq a zero64 && eq b zero64) zero64 (cond (lt a b) (scaled_of b a) (scaled_of a b))
