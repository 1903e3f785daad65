use native.Mathlib.Nat.{mod-eq_of_lt}
use Prim.Native.Nat.{◌%◌}
use mathlib.Core.Path.{◌≡◌, refl, sym, ◌∙◌}
use native.Mathlib.Omega.{arith}
use borrow.Author.Rules.{rules}
use borrow.Author.Tests.{eq-eqb, ne_eqb}
use Rattle.script_lines.proofs.NumberLaws.{hex-none, hex-more, hex-done, digits-fit, digits-grow}
use Rattle.script_lines.proofs.number.hex8.Goals as goal

pub returns-then-w-ne8 : goal.returns-then-w-ne8
returns-then-w-ne8 c = rw (ne_eqb _ 8 c.if-w-ne8.true)

pub loop-c-init : goal.loop-c-init
loop-c-init c = (search rules, refl)

pub returns-in_err-d : goal.returns-in_err-d
returns-in_err-d c =
    let w = c.args.w.now in
    let l = c.loop-c in
    c.from_residual.ensures ∙ rw (eq-eqb _ 8 c.if-w-ne8.false) (sym (sym l.invariant.1 ∙ hex-none w l.n l.c-index c.loop-c-test.true (sym c.hex_digit.ensures.value ∙ c.in_err-d.was)))

pub loop-c-preserved : goal.loop-c-preserved
loop-c-preserved c =
    let w = c.args.w.now in
    let l = c.loop-c in
    let h = c.loop-c-test.true in
    let fits = digits-fit l.n l.c-index l.invariant.0 (omega arith) in
    let e : l.n % 268435456 ≡ l.n = mod-eq_of_lt fits in
    rw e (digits-grow l.n l.c-index _ l.invariant.0 c.in_ok-d.ensures.small, sym (hex-more w l.n l.c-index h _ (sym c.hex_digit.ensures.value ∙ c.in_ok-d.was)) ∙ l.invariant.1)

pub returns : goal.returns
returns c =
    let w = c.args.w.now in
    let l = c.loop-c in
    rw (eq-eqb _ 8 c.if-w-ne8.false) (sym (sym l.invariant.1 ∙ hex-done w l.n l.c-index (omega arith)))
