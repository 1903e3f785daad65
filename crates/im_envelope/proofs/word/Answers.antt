use mathlib.Core.Path.{◌≡◌, refl, sym, ap, ◌∙◌}
use native.Mathlib.Nat.{pow-zero}
use native.Mathlib.Numerals.{add-one}
use native.Mathlib.Omega.{arith}
use lib.ListN.{take}
use Rattle.base_octets.proofs.NumberLaws.{below_word_lem}
use Rattle.im_writer.specs.Envelope.{big_number}
use Rattle.im_envelope.proofs.BigLaws.{big-turn, big-below}
use Rattle.im_envelope.proofs.word.Goals as goal

pub loop-i-init : goal.loop-i-init
unfolding big_number
loop-i-init c = (refl, omega (arith, pow-zero 256))

pub overflow_mul-v : goal.overflow_mul-v
overflow_mul-v c = omega (arith, below_word_lem c.loop-i.i 7 (omega arith))

pub overflow_add-v : goal.overflow_add-v
overflow_add-v c = omega (arith, below_word_lem c.loop-i.i 7 (omega arith), c.type_inv.s c.loop-i.i)

pub loop-i-preserved : goal.loop-i-preserved
loop-i-preserved c =
    let s = c.args.s.now in
    let l = c.loop-i in
    let b = c.from.result in
    let small = c.type_inv.s l.i in
    (big-turn s l.i l.v b (omega (arith, c.requires)) l.invariant.0 c.from.ensures ∙ ap (λ n. big_number (take n s)) (sym (add-one l.i)), rw add-one (big-below s l.i l.v b l.invariant.1 (omega (arith, c.from.ensures, small))))

pub returns : goal.returns
returns c =
    let l = c.loop-i in
    let e : l.i ≡ 8 = omega arith in
    l.invariant.0 ∙ ap (λ n. big_number (take n c.args.s.now)) e
