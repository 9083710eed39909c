-- The head of a report over plain values: that the report follows from it and from the places of its lists.
use Rattle.std.specs.Prelude.{Option, None, Some}
use Prim.Native.Nat.{◌≤◌}
use mathlib.Core.Path.{◌≡◌, refl}
use mathlib.Core.List.{List}
use native.Mathlib.Omega.{arith}
use lib.ListN.{length}
use Rattle.definition.specs.Summary.{Report, Band}
use Rattle.report.specs.Report.{Results, baseline_says, seen_of}
use Rattle.report.specs.declared.TruingBaselineV1.{TruingBaselineV1}
use Rattle.report.specs.declared.UncertaintyTruingReportV1.{UncertaintyTruingReportV1}
use Rattle.report.specs.Reading.{of_baseline}

read_again : (b : Option TruingBaselineV1) (results : Results) → baseline_says b results ≡ baseline_says b (of_baseline (baseline_says b results))
read_again None results = refl
read_again (Some b) results = refl

pub at_most : (b : Option TruingBaselineV1) (results : Results) → length (of_baseline (baseline_says b results)) ≤ length results
at_most None results = omega arith
at_most (Some b) results = omega arith

pub head_lists : (h : UncertaintyTruingReportV1) (results entered : Results) (bands : List Band) (p : Report) → p ≡ seen_of h results entered bands
    → p ≡ seen_of h p.observations (of_baseline p.baseline) p.bands
head_lists h results entered bands p e =
    let b = read_again h.baseline entered in simp (e, ← b)
