use mathlib.Core.Path.{◌≡◌, sym, ap, ◌∙◌}
use mathlib.Core.Bool.{Bool, ◌&&◌}
use Prim.Native.Nat.{◌*◌, ◌-◌, ◌/◌}
use native.Mathlib.Omega.{arith}
use lib.Dec.{ltb}
use lib.ListN.{length, drop, length-drop}
use lib.Seq.{take_all}
use Rattle.base_utf8.specs.Bytewise.{all_below}
use Rattle.base_utf8.proofs.Quarters.{sides-begin, sides-turn, sides-end}
use Rattle.base_utf8.proofs.ascii.Goals as goal

pub loop-i-init : goal.loop-i-init
loop-i-init c = (omega arith, sides-begin c.args.s.now (length c.args.s.now / 4))

pub loop-i-preserved : goal.loop-i-preserved
loop-i-preserved c =
    let s = c.args.s.now in
    let l = c.loop-i in
    (omega arith, sides-turn s (length s / 4) l.bits l.i l.invariant.1 (omega arith) (omega arith))

pub returns : goal.returns
returns c =
    let s = c.args.s.now in
    let l = c.loop-i in
    let side = length s / 4 in
    let e : side ≡ l.i = omega arith in
    ap (λ (b : Bool). ltb l.bits 128 && b)
    (c.greatest.ensures 128 (omega arith) ∙ ap (all_below 128) (take_all (length s - 4 * side) (drop (4 * side) s) (omega (arith, length-drop (4 * side) s))))
    ∙ sym (sides-end s side l.bits l.i l.invariant.1 e)
