use mathlib.Core.Path.{refl, sym}
use native.Mathlib.Omega.{arith}
use lib.Seq.{set_out}
use Rattle.script_lines.proofs.hex.keep.Goals as goal

pub returns-then-n-out : goal.returns-then-n-out
returns-then-n-out c = record { value = omega arith; out_after = refl }

pub returns : goal.returns
returns c = record { value = omega arith; out_after = sym (set_out c.args.out.now c.args.n _ c.if-n-out.false) }
