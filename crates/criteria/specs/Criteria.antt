-- The test of acceptance (S15, S16), of nearness to a bound (S17), and the bounds of the fit, which other crates cite from here.
use Rattle.std.specs.Prelude.{Bool, ◌||◌, Float}
use Rattle.std.specs.Float.{binary64}
use Rattle.std.specs.Float.Ieee.{sub, mul, lt, le, of_bits}

-- TRUING_MV_MIN_FPS, 1000, and TRUING_MV_MAX_FPS, 5000
abbrev pub mv_min : Float
mv_min = of_bits binary64 0x408f_4000_0000_0000

abbrev pub mv_max : Float
mv_max = of_bits binary64 0x40b3_8800_0000_0000

-- TRUING_BC_MIN, 0.05, and TRUING_BC_MAX, 2.0
abbrev pub bc_min : Float
bc_min = of_bits binary64 0x3fa9_9999_9999_999a

abbrev pub bc_max : Float
bc_max = of_bits binary64 0x4000_0000_0000_0000

-- MAP_OBJECTIVE_IMPROVEMENT_TOLERANCE, 1e-8
abbrev pub improvement_tolerance : Float
improvement_tolerance = of_bits binary64 0x3e45_798e_e230_8c3a

-- S16's "material", S15's "accepted": current − candidate > 1e-8, strictly
unfoldable pub material_of : Float → Float → Bool
material_of current candidate = lt improvement_tolerance (sub binary64 current candidate)

-- the part of a range within which its bound is near, 1e-6
abbrev pub bound_tolerance : Float
bound_tolerance = of_bits binary64 0x3eb0_c6f7_a0b5_ed8d

-- how near to a bound counts as at it: 1e-6 times the width of the range, the two operations each rounded
unfoldable pub tolerance_of : Float → Float → Float
tolerance_of lower upper = mul binary64 bound_tolerance (sub binary64 upper lower)

-- S17's "near a bound": the speed or the coefficient is at most its tolerance above its lower or below its upper bound. A not-a-number is near none.
unfoldable pub at_bound_of : Float → Float → Bool
at_bound_of mv bc =
    le (sub binary64 mv mv_min) (tolerance_of mv_min mv_max) || le (sub binary64 mv_max mv) (tolerance_of mv_min mv_max)
    || le (sub binary64 bc bc_min) (tolerance_of bc_min bc_max) || le (sub binary64 bc_max bc) (tolerance_of bc_min bc_max)
