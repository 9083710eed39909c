-- S13: `GaussianIntervalV1::from_variance`.
use Rattle.std.specs.Prelude.{◌≡◌, cond, not, Float, Option, None, Some, option_map}
use Rattle.std.specs.Float.{binary64}
use Rattle.std.specs.Float.Ieee.{add, sub, mul, lt, of_bits}
use Rattle.root.specs.Root.{root_of}
use Rattle.numeric.specs.Numeric.{zero64, finite}
use Rattle.interval.specs.declared.GaussianIntervalV1.{GaussianIntervalV1}

-- the level 0.95 and its factor 1.959963984540054
abbrev pub level95 : Float
level95 = of_bits binary64 0x3fee_6666_6666_6666

abbrev pub factor95 : Float
factor95 = of_bits binary64 0x3fff_5c03_31ee_ff84

-- whether an estimate and a variance have an interval, or the first reason why not
pub data Classification : Type 0 where
  sound estimate_not_finite variance_not_finite variance_negative : Classification

-- tested in this order; a variance of −0 is not below 0
unfoldable pub classification_of : Float → Float → Classification
classification_of estimate variance =
    cond (not (finite estimate)) estimate_not_finite (cond (not (finite variance)) variance_not_finite (cond (lt variance zero64) variance_negative sound))

-- the interval about an estimate with this standard deviation, at a level: the half width is the level's factor times the deviation
abbrev pub gaussian_of : Float → Float → Float → Float → GaussianIntervalV1
gaussian_of level factor estimate deviation =
    let half = mul binary64 factor deviation in
    record { estimate = estimate; standard_deviation = deviation; lower = sub binary64 estimate half; upper = add binary64 estimate half; probability = level }

-- an interval exactly where the classification is sound: the standard deviation is the root of the variance
unfoldable pub interval_where : Classification → Float → Float → Float → Float → Option GaussianIntervalV1
interval_where sound level factor estimate variance = Some (gaussian_of level factor estimate (root_of variance))
interval_where estimate_not_finite level factor estimate variance = None
interval_where variance_not_finite level factor estimate variance = None
interval_where variance_negative level factor estimate variance = None

-- the interval of an estimate and a variance, at a level and its factor
unfoldable pub interval_of : Float → Float → Float → Float → Option GaussianIntervalV1
interval_of level factor estimate variance = interval_where (classification_of estimate variance) level factor estimate variance

-- L2: the same estimate and standard deviation at another level
unfoldable pub at_level : Float → Float → GaussianIntervalV1 → GaussianIntervalV1
at_level level factor g = gaussian_of level factor g.estimate g.standard_deviation

-- Theorem `drawn`: an interval taken to a level is the one that its estimate and its variance have there.
abbrev pub Drawn : Type 0
Drawn = (level factor other its estimate variance : Float)
    → interval_of level factor estimate variance ≡ option_map (at_level level factor) (interval_of other its estimate variance)
