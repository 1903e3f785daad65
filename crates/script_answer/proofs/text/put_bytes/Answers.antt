use mathlib.Core.Path.{refl}
use native.Mathlib.Numerals.{add-one}
use native.Mathlib.Omega.{arith}
use lib.ListN.{take}
use lib.Seq.{length-take-le, take_all}
use Rattle.base_octets.specs.Store.{store}
use Rattle.base_octets.proofs.StoreLaws.{then, same_length as stays}
use Rattle.script_answer.specs.Text.{hex_text}
use Rattle.script_answer.proofs.TextLaws.{length-hex, hex-more}
use Rattle.script_answer.proofs.text.put_bytes.Goals as goal

pub loop-x-init : goal.loop-x-init
unfolding store hex_text
loop-x-init c = record { content = refl; place = omega arith }

pub put_byte-next-requires : goal.put_byte-next-requires
put_byte-next-requires c =
    let bytes = c.args.bytes.now in
    let l = c.loop-x in
    omega (arith, l.invariant.place, length-hex (take l.x-index bytes), length-take-le l.x-index bytes (omega arith), stays l.invariant)

pub loop-x-preserved : goal.loop-x-preserved
loop-x-preserved c =
    let bytes = c.args.bytes.now in
    let l = c.loop-x in
    rw (add-one, hex-more bytes l.x-index (omega arith)) (then l.invariant c.put_byte-next.ensures)

pub shape_of-text : goal.shape_of-text
shape_of-text c = stays c.loop-x.invariant

pub returns : goal.returns
returns c =
    let bytes = c.args.bytes.now in
    let l = c.loop-x in
    rw (take_all l.x-index bytes (omega arith)) at l.invariant
