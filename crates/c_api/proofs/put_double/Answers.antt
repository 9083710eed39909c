-- `put_double`: the bytes of the pattern, which the standard library writes, go over the places from `at` on.
use Prim.Native.Nat.{◌+◌, ◌-◌}
use mathlib.Core.Path.{◌≡◌, sym, ap, ◌∙◌}
use native.Mathlib.Omega.{arith}
use Rattle.c_api.specs.Desk.{bytes_of, double_bytes}
use Rattle.c_api.proofs.Laws.{double_length, put_part, bytes_le}
use Rattle.c_api.proofs.put_double.Goals as goal

pub returns : goal.returns
returns c =
    let a = c.args in
    let e : a.at + 8 - a.at ≡ 8 = omega arith in
    let written = c.copy_from_slice.ensures.after ∙ c.to_le_bytes.ensures ∙ bytes_le c.pattern.result ∙ ap bytes_of c.pattern.ensures in
    rw (e, written) (sym (put_part a.at 8 (double_bytes a.x) a.out.now (double_length a.x) c.requires))
