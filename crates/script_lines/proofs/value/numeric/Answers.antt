use native.Mathlib.Omega.{arith}
use mir.ValLaws.{of_z-to_z}
use mir.Syntax.{w64}
use mathlib.Core.Path.{sym, ◌∙◌}
use Rattle.script_lines.specs.Values.{numeric_at}
use Rattle.script_lines.proofs.value.numeric.Goals as goal

pub returns-then-same_bytes : goal.returns-then-same_bytes
unfolding numeric_at
returns-then-same_bytes c = rw (c.is_done.ensures, c.read_flag-n.ensures.value, sym c.same_bytes.ensures ∙ c.if-same_bytes.true)

pub returns-then-same_bytes-2 : goal.returns-then-same_bytes-2
unfolding numeric_at
returns-then-same_bytes-2 c = rw (c.is_done-then-same_bytes-2.ensures, c.read_number-n.ensures.value, sym c.same_bytes.ensures ∙ c.if-same_bytes.false, sym c.same_bytes-2.ensures ∙ c.if-same_bytes-2.true)

pub returns-then-same_bytes-3 : goal.returns-then-same_bytes-3
unfolding numeric_at
returns-then-same_bytes-3 c = let n = c.read_signed-n in rw (c.is_done-then-same_bytes-3.ensures, c.signed_of.ensures, of_z-to_z w64 n.result.value (omega arith), n.ensures.value, sym c.same_bytes.ensures ∙ c.if-same_bytes.false, sym c.same_bytes-2.ensures ∙ c.if-same_bytes-2.false, sym c.same_bytes-3.ensures ∙ c.if-same_bytes-3.true)

pub returns-then-same_bytes-4 : goal.returns-then-same_bytes-4
unfolding numeric_at
returns-then-same_bytes-4 c = rw (c.is_done-then-same_bytes-4.ensures, c.read_float-n.ensures.value, sym c.same_bytes.ensures ∙ c.if-same_bytes.false, sym c.same_bytes-2.ensures ∙ c.if-same_bytes-2.false, sym c.same_bytes-3.ensures ∙ c.if-same_bytes-3.false, sym c.same_bytes-4.ensures ∙ c.if-same_bytes-4.true)

pub returns : goal.returns
unfolding numeric_at
returns c = rw (sym c.same_bytes.ensures ∙ c.if-same_bytes.false, sym c.same_bytes-2.ensures ∙ c.if-same_bytes-2.false, sym c.same_bytes-3.ensures ∙ c.if-same_bytes-3.false, sym c.same_bytes-4.ensures ∙ c.if-same_bytes-4.false) c.unread.ensures
