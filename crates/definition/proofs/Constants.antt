-- Each constant is the double nearest to its decimal: `nearest_to_decimals`. Assumes nothing.
use lib.Ieee.{round, of_bits, to_bits}
use Rattle.definition.specs.Decimals.{NearestToDecimals}

pub nearest_to_decimals : NearestToDecimals
unfolding round of_bits to_bits
nearest_to_decimals = tt
