use native.Mathlib.Omega.{arith}
use Rattle.base_utf8.specs.Bytewise.{trails}
use Rattle.base_utf8.proofs.Seconds.{low-most, by_three}
use Rattle.base_utf8.proofs.is_allowed_three.Goals as goal

pub overflow_add-three : goal.overflow_add-three
overflow_add-three c = omega (arith, low-most c.args.d 0x9F 13)

pub returns : goal.returns
unfolding trails
returns c =
    let a = c.args in
    rw (c.over.ensures, c.low.ensures) (by_three a.b a.c a.d)
