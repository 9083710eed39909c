-- `put_inverse`: four doubles, each after the one before it.
use Rattle.c_api.proofs.Laws.{put_4}
use Rattle.c_api.proofs.put_inverse.Goals as goal

pub returns : goal.returns
returns c =
    let a = c.args in
    put_4 a.inverse.a00 a.inverse.a01 a.inverse.a11 a.condition a.out.now
    c.put_double.new.out
    c.put_double-2.new.out
    c.put_double-3.new.out
    c.put_double-4.new.out
    c.put_double.ensures
    c.put_double-2.ensures
    c.put_double-3.ensures
    c.put_double-4.ensures
