use mathlib.Core.Path.{◌≡◌, ap, sym, ◌∙◌}
use native.Mathlib.Omega.{arith}
use native.Mathlib.Nat.{le_refl}
use borrow.Author.Tests.{not-true, not-false}
use lib.ListN.{length-set, length-drop, drop}
use Rattle.std.proofs.lemmas.Slice.{between_to_end}
use Rattle.script_lines.specs.Bytes.{byte_in, rest_at, rest_kept}
use Rattle.script_lines.proofs.ByteLaws.{reading-first, reading-none, reading-last, reading-cut, reading-next, two_here, short-here, ends-unread, ends_read, ends-kept}
use borrow.Author.Rules.{rules}
use Rattle.script_lines.proofs.Fills.{filled}
use lib.ListN.{length}
use Rattle.script_lines.proofs.hex.rest.Goals as goal
use Rattle.script_lines.proofs.hex.rest.Goals.{After-first_byte}

pub returns-then-not-s : goal.returns-then-not-s
unfolding rest_at rest_kept
returns-then-not-s c = let m = not-true c.args.s.more c.if-not-s.true in
    record { value = rw m; out_after = rw m; filled = search rules }

pub loop-at-init : goal.loop-at-init
loop-at-init c = reading-first _ _ _

-- what the bytes from the place on begin with
here : (c : After-first_byte) → byte_in (drop c.loop-at.at c.args.line.now) ≡ c.first_byte.result
here c =
    let line = c.args.line.now in
    ap byte_in (sym (between_to_end line c.loop-at.at (length line) (le_refl (length line)))) ∙ sym c.first_byte.ensures

pub returns-in_default : goal.returns-in_default
returns-in_default c =
    let a = c.args in
    let more = not-false a.s.more c.if-not-s.false in
    let z = reading-none c.loop-at.invariant (here (goal.at.returns-in_default c).After-first_byte ∙ c.in_default.is) in
    record { value = ends-unread a.line.now a.s a.out.now more z.0; out_after = ends-kept a.line.now a.s a.out.now more z.1; filled = search rules }

pub returns-then-line-at-eq2 : goal.returns-then-line-at-eq2
returns-then-line-at-eq2 c =
    let a = c.args in
    let more = not-false a.s.more c.if-not-s.false in
    let l = c.loop-at in
    let b = c.in-Some.byte in
    let e = here (goal.at.returns-then-line-at-eq2 c).After-first_byte ∙ c.in-Some.is in
    let k = c.keep-n.ensures in
    let z = reading-last l.invariant b e c.if-line-at-eq2.true in
    record { value = ends_read a.line.now a.s a.out.now more _ z.0 (k.value ∙ z.2); out_after = ends-kept a.line.now a.s a.out.now more (k.out_after ∙ z.1); filled = filled _ _ (omega (arith, k.value, ap length k.out_after, length-set l.out l.n b)) }

pub returns-then-line-at-lt3 : goal.returns-then-line-at-lt3
returns-then-line-at-lt3 c =
    let a = c.args in
    let l = c.loop-at in
    let b = c.in-Some.byte in
    let e = here (goal.at.returns-then-line-at-lt3 c).After-first_byte ∙ c.in-Some.is in
    absurd (omega (arith, two_here (drop l.at a.line.now) b e, length-drop l.at a.line.now))

pub returns-then-line-at-ne32 : goal.returns-then-line-at-ne32
returns-then-line-at-ne32 c =
    let a = c.args in
    let more = not-false a.s.more c.if-not-s.false in
    let l = c.loop-at in
    let b = c.in-Some.byte in
    let e = here (goal.at.returns-then-line-at-ne32 c).After-first_byte ∙ c.in-Some.is in
    let k = c.keep-n.ensures in
    let z = reading-cut l.invariant b e (omega arith) c.if-line-at-ne32.true in
    record { value = ends-unread a.line.now a.s a.out.now more z.0; out_after = ends-kept a.line.now a.s a.out.now more (k.out_after ∙ z.1); filled = search rules }

pub loop-at-preserved : goal.loop-at-preserved
loop-at-preserved c =
    let l = c.loop-at in
    let b = c.in-Some.byte in
    let e = here (goal.at.loop-at-preserved c).After-first_byte ∙ c.in-Some.is in
    let k = c.keep-n.ensures in
    rw (k.value, k.out_after) (reading-next l.invariant b e (omega arith) c.if-line-at-ne32.false)

pub returns : goal.returns
returns c =
    let a = c.args in
    let more = not-false a.s.more c.if-not-s.false in
    let l = c.loop-at in
    let z = reading-none l.invariant (short-here (drop l.at a.line.now) (simp length-drop (omega arith))) in
    record { value = ends-unread a.line.now a.s a.out.now more z.0; out_after = ends-kept a.line.now a.s a.out.now more z.1; filled = search rules }
