use mathlib.Core.Path.{◌≡◌, refl, sym, ◌∙◌}
use Prim.Native.Nat.{◌-◌}
use native.Mathlib.Nat.{add-zero, sub-zero}
use native.Mathlib.Omega.{arith}
use lib.ListN.{length-set}
use Rattle.base_octets.specs.Number.{bytes_of}
use Rattle.base_octets.specs.Store.{store}
use Rattle.base_octets.proofs.NumberLaws.{length-bytes}
use Rattle.base_octets.proofs.StoreLaws.{number-turn}
use Rattle.base_octets.proofs.put_long.Goals as goal

pub loop-i-init : goal.loop-i-init
loop-i-init c = (refl, simp (add-zero, sub-zero))

pub loop-i-preserved : goal.loop-i-preserved
loop-i-preserved c =
    let a = c.args in
    let l = c.loop-i in
    (simp length-set l.invariant.0, l.invariant.1 ∙ number-turn l.b a.at a.w l.i l.x (omega arith))

pub shape_of-b : goal.shape_of-b
shape_of-b c = c.loop-i.invariant.0

pub returns : goal.returns
unfolding store bytes_of
returns c =
    let a = c.args in
    let l = c.loop-i in
    let e : a.w - l.i ≡ 0 = omega arith in
    record {
      content = sym (l.invariant.1 ∙ rw e refl);
      place = omega (arith, length-bytes a.w a.v);
    }
