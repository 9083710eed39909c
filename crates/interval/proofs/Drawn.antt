-- An interval taken to a level is the one that its estimate and its variance have there: `drawn`. Assumes nothing.
use Rattle.std.specs.Prelude.{◌≡◌, Float, option_map}
use mathlib.Core.Path.{refl}
use Rattle.interval.specs.Interval.{Classification, sound, estimate_not_finite, variance_not_finite, variance_negative, classification_of, interval_where}
use Rattle.interval.specs.Interval.{interval_of, at_level, Drawn}

by_case : (k : Classification) (level factor other its estimate variance : Float)
    → interval_where k level factor estimate variance ≡ option_map (at_level level factor) (interval_where k other its estimate variance)
unfolding interval_where at_level
by_case sound level factor other its estimate variance = refl
by_case estimate_not_finite level factor other its estimate variance = refl
by_case variance_not_finite level factor other its estimate variance = refl
by_case variance_negative level factor other its estimate variance = refl

pub drawn : Drawn
unfolding interval_of
drawn level factor other its estimate variance = by_case (classification_of estimate variance) level factor other its estimate variance
