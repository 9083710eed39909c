-- `priors_of`: each prior by its bit.
use Rattle.c_api.specs.Desk.{priors_of}
use Rattle.c_api.proofs.priors_of.Goals as goal

pub returns : goal.returns
unfolding priors_of
returns c = rw (c.prior-ballistic_coefficient.ensures, c.prior-muzzle_velocity_fps.ensures)
