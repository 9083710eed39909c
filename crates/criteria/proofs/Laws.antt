-- The two tolerances worked out: 0.004, and 1.95e-6 as the two roundings leave it. Other crates may cite them. Assumes nothing.
use mathlib.Core.Path.{◌≡◌, refl}
use lib.Ieee.{binary64, sub, mul, of_bits}
use Rattle.criteria.specs.Criteria.{mv_min, mv_max, bc_min, bc_max, tolerance_of}

pub speed_tolerance : tolerance_of mv_min mv_max ≡ of_bits binary64 0x3f70_624d_d2f1_a9fc
unfolding tolerance_of sub mul of_bits
speed_tolerance = refl

pub coefficient_tolerance : tolerance_of bc_min bc_max ≡ of_bits binary64 0x3ec0_5b97_d64a_fad0
unfolding tolerance_of sub mul of_bits
coefficient_tolerance = refl
