-- What a band of the code says in the definition's terms.
use Rattle.definition.specs.Summary.{Band}
use Rattle.bands.specs.declared.TruingPredictiveBandV1.{TruingPredictiveBandV1}

abbrev pub band_says : TruingPredictiveBandV1 → Band
band_says b = record {
  range = b.range_yd;
  predicted_drop = b.predicted_drop;
  latent = b.latent_interval_95;
  future = b.future_observation_interval_95;
}
