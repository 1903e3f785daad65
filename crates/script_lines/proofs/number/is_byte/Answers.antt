use Rattle.script_lines.proofs.NumberLaws.{byte-none, byte_one}
use Rattle.script_lines.proofs.number.is_byte.Goals as goal

pub returns-then-w-ne1 : goal.returns-then-w-ne1
returns-then-w-ne1 c = byte-none c.args.w.now _ c.if-w-ne1.true

pub returns : goal.returns
returns c = byte_one c.args.w.now _ c.if-w-ne1.false
