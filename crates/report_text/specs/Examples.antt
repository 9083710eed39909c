-- Examples of a report's parts and of the other lines (S22, L2, docs/PROTOCOL.md). Theorem `examples`, in proofs/Examples.antt, by computation.
use Rattle.std.specs.Prelude.{◌≡◌, [], ◌∷◌, ◌++◌, Option, None, Some, option_map}
use Rattle.std.specs.Float.{binary64}
use Rattle.std.specs.Float.Ieee.{of_bits}
use Rattle.interval.specs.Interval.{level95, factor95, gaussian_of}
use Rattle.interval.specs.declared.GaussianIntervalV1.{GaussianIntervalV1}
use Rattle.definition.specs.declared.TruingPriorsV1.{TruingPriorsV1}
use Rattle.definition.specs.declared.TruingUncertaintyWarningCodeV1.TheVariants.{WeakBcSensitivity, IllConditionedData}
use Rattle.coverage.specs.Rows.{Table, built_in_row, built_in, rows_under}
use Rattle.words.specs.Words.{bytes}
use Rattle.report_text.specs.Writing.{Text}
use Rattle.report_text.specs.Texts.{interval_text, priors_text, results_text, warnings_text, declined_text}

-- a speed of 2000 with sigma 50 and no coefficient
abbrev pub speed_alone : TruingPriorsV1
speed_alone = record {
  muzzle_velocity_fps = Some (record { mean = of_bits binary64 0x409f_4000_0000_0000; sigma = of_bits binary64 0x4049_0000_0000_0000 });
  ballistic_coefficient = None;
}

-- the levels 0.9, 0.95 and 0.99 with the factors 1.644853626951473, 1.959963984540054 and 2.575829303548901
abbrev pub three_rows : Table
three_rows =
    record { level = of_bits binary64 0x3fec_cccc_cccc_cccd; factor = of_bits binary64 0x3ffa_5152_0967_6abf } ∷ built_in_row
    ∷ record { level = of_bits binary64 0x3fef_ae14_7ae1_47ae; factor = of_bits binary64 0x4004_9b4c_64d6_9161 } ∷ []

-- an interval with the estimate 10 and the deviation 1
abbrev pub about_ten : GaussianIntervalV1
about_ten = gaussian_of level95 factor95 (of_bits binary64 0x4024_0000_0000_0000) (of_bits binary64 0x3ff0_0000_0000_0000)

-- an interval under a table, as it is written
abbrev pub shown_under : Table → Option GaussianIntervalV1 → Text
shown_under t i = interval_text (option_map (rows_under t) i)

abbrev pub Examples : Type 0
Examples =
    (priors_text speed_alone ≡ bytes "((409f400000000000 4049000000000000) none)")
    × (results_text [] ≡ bytes "()")
    × (warnings_text (WeakBcSensitivity ∷ IllConditionedData ∷ []) ≡ bytes "((WeakBcSensitivity) (IllConditionedData))")
    × (declined_text 10 0 ≡ bytes "(declined 10 0)")
    × (shown_under built_in (Some about_ten) ≡ bytes "(4024000000000000 3ff0000000000000 4020147f99c22010 4027eb80663ddff0 3fee666666666666)")
    × (shown_under three_rows (Some about_ten)
    ≡ bytes "((4024000000000000 3ff0000000000000 4020b5d5bed312a8 40274a2a412ced58 3feccccccccccccd) "
    ++ bytes "(4024000000000000 3ff0000000000000 4020147f99c22010 4027eb80663ddff0 3fee666666666666) "
    ++ bytes "(4024000000000000 3ff0000000000000 401db259cd94b750 402926d31935a458 3fefae147ae147ae))")
    × (shown_under built_in None ≡ bytes "none")
    × (shown_under three_rows None ≡ bytes "none")
