-- `double_at`: the double of the 8 bytes' number, which the standard library reads.
use Prim.Native.Nat.{ℕ, ◌-◌}
use mathlib.Core.List.{List}
use mathlib.Core.Path.{ap, ◌∙◌}
use native.Mathlib.Omega.{arith}
use lib.ListN.{length, drop}
use lib.Seq.{take-take}
use lib.Ieee.{binary64, of_bits}
use Rattle.std.specs.Int.{w64, from_le_bytes}
use Rattle.c_api.proofs.Laws.{number_le}
use Rattle.c_api.proofs.double_at.Goals as goal

pub returns : goal.returns
returns c =
    let a = c.args in
    let chunk = rw c.unwrap-word.ensures at c.first_chunk.ensures.cases in
    let same = chunk.same ∙ take-take 8 (length a.bytes.now - a.at) (drop a.at a.bytes.now) (omega arith) in
    c.double.ensures
    ∙ ap (of_bits binary64) (c.from_le_bytes.ensures ∙ ap (λ (l : List ℕ). from_le_bytes w64 l) same ∙ number_le a.bytes.now a.at c.requires)
