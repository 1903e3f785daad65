use native.Mathlib.Omega.{arith}
use Rattle.base_utf8.specs.Bytewise.{trails, begins}
use Rattle.base_utf8.proofs.Seconds.{low-most, by-four}
use Rattle.base_utf8.proofs.is_allowed.Goals as goal

pub overflow_add-three : goal.overflow_add-three
overflow_add-three c = omega (arith, low-most c.args.d 0x9F 13)

pub overflow_add-four : goal.overflow_add-four
overflow_add-four c = omega (arith, low-most c.args.d 0x8F 4)

pub returns : goal.returns
unfolding trails begins
returns c =
    let a = c.args in
    rw (c.is_due-due.ensures, c.over-past.ensures, c.low.ensures, c.low-2.ensures)
    (by-four a.a a.b a.c a.d)
