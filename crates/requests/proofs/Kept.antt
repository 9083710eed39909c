-- The request holds the first 65 of the request's lists. Assumes nothing.
use Rattle.std.proofs.Common.{◌≡◌, take, ap}
use Rattle.definition.specs.Request.{Opening}
use Rattle.requests.specs.Kept.{Keeps}
use Rattle.requests.specs.declared.Request.{Request}

module _ {r : Request} {o : Opening} (k : Keeps r o) where
  pub observations_in : r.observations.items ≡ take 65 o.measured.observations
  observations_in = ap (λ (x : Opening). x.measured.observations) k.same

  pub requested_in : r.predictions.items ≡ take 65 o.requested
  requested_in = ap (λ (x : Opening). x.requested) k.same
