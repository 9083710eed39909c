-- How the code holds a request: the first 65 of each list. With more than 64 the opening is refused whatever they are (`kept_whole` in proofs/Openings.antt).
use Rattle.std.specs.Prelude.{◌≡◌, take}
use Rattle.definition.specs.Request.{Opening}
use Rattle.requests.specs.declared.Request.{Request}

-- the first 65 of each list
abbrev pub kept : Opening → Opening
kept o = record {
  measured = record { entered = o.measured.entered; observations = take 65 o.measured.observations; priors = o.measured.priors };
  requested = take 65 o.requested;
}

-- the opening that the code holds
abbrev pub held : Request → Opening
held r = record {
  measured = record { entered = r.entered; observations = r.observations.items; priors = r.priors };
  requested = r.predictions.items;
}

pub record Keeps (r : Request) (o : Opening) : Type 0 where
  pub same : held r ≡ kept o
