use Rattle.std.proofs.Common.{◌≡◌, ◌∙◌, sym, arith}
use Rattle.script_lines.proofs.FindLaws.{found-here, found-later, found-nowhere}
use Rattle.script_lines.proofs.find.find.Goals as goal

pub returns-then-s-i : goal.returns-then-s-i
returns-then-s-i c =
    let a = c.args in
    let l = c.loop-i in
    record { value = sym (l.invariant ∙ found-here a.s.now l.i a.end a.b c.loop-i-test.true c.requires.within c.if-s-i.true); small = omega arith }

pub loop-i-preserved : goal.loop-i-preserved
loop-i-preserved c =
    let a = c.args in
    let l = c.loop-i in
    l.invariant ∙ found-later a.s.now l.i a.end a.b c.loop-i-test.true c.requires.within c.if-s-i.false

pub returns : goal.returns
returns c =
    let a = c.args in
    let l = c.loop-i in
    let e : l.i ≡ a.end = omega arith in
    record { value = sym (l.invariant ∙ (found-nowhere a.s.now l.i a.end a.b e ∙ e)); small = omega arith }
