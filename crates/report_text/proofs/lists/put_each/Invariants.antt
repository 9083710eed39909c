-- The loop of `report_text::put_each`: what stands at the first i places is written. Assumes nothing.
use Rattle.std.proofs.Common.{◌≡◌}
use Rattle.report_text.specs.Lists.{present, separated}
use Rattle.report_text.specs.Writer.{held, put}
use Rattle.report_text.proofs.Listing.{is_nil}
use Rattle.report_text.proofs.lists.put_each.Given as goal

abbrev pub invariant-loop-i : goal.invariant-loop-i
invariant-loop-i g l = record {
  written : held l.w ≡ put (separated l.between (present l.i (g.P.Places.texts l.places))) (held l.fn.w);
  first : l.is_first ≡ is_nil (present l.i (g.P.Places.texts l.places));
}
