use mathlib.Core.Path.{◌≡◌, refl}
use Prim.Native.Nat.{suc, ◌+◌, ◌/◌}
use native.Mathlib.Omega.{arith}
use Rattle.base_octets.specs.Store.{store}
use Rattle.im_writer.specs.Envelope.{big_octets}
use Rattle.script_cache.proofs.ask.put_four.Goals as goal

pub returns : goal.returns
unfolding store big_octets
returns c =
    let a = c.args in
    let low : a.n / 1 ≡ a.n = omega arith in
    let one : suc a.at ≡ a.at + 1 = omega arith in
    let two : suc (a.at + 1) ≡ a.at + 2 = omega arith in
    let three : suc (a.at + 2) ≡ a.at + 3 = omega arith in
    rw (low, one, two, three) refl
