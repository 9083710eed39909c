-- The cases of one step of a flight. Assumes nothing.
use Rattle.std.proofs.Common.{◌≡◌, ℕ, suc, true, false, None, Some}
use Rattle.std.specs.Float.{binary64, Float}
use Rattle.std.specs.Float.Ieee.{of_bits, lt, le}
use Rattle.point_mass.specs.declared.Flight.{Flight}
use Rattle.point_mass.specs.Flight.{step_of, on_line, flight}

module _ (n : ℕ) (k x : Float) (s t : Flight) where
  pub too_slow : lt s.vx (of_bits binary64 0x4049_0000_0000_0000) ≡ true → flight (suc n) k x s ≡ None
  unfolding flight
  too_slow slow = rw slow

  pub arrives : t ≡ step_of k s → lt s.vx (of_bits binary64 0x4049_0000_0000_0000) ≡ false → le x t.x ≡ true
      → flight (suc n) k x s ≡ Some (on_line s t x)
  unfolding flight
  arrives e fast there = cc

  pub flies_on : t ≡ step_of k s → lt s.vx (of_bits binary64 0x4049_0000_0000_0000) ≡ false → le x t.x ≡ false
      → flight (suc n) k x s ≡ flight n k x t
  unfolding flight
  flies_on e fast short = cc
