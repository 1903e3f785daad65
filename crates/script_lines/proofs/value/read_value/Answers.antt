use mathlib.Core.Path.{sym, ◌∙◌}
use Rattle.script_lines.specs.Values.{value_at, value_kept}
use Rattle.script_lines.proofs.value.read_value.Goals as goal

pub returns-then-same_bytes : goal.returns-then-same_bytes
unfolding value_at value_kept
returns-then-same_bytes c = let w = c.next_word-w.ensures.value in let null = sym c.same_bytes.ensures ∙ c.if-same_bytes.true in
    record { value = rw (c.is_done.ensures, ← w, null); out_after = rw (← w, null) }

pub returns-then-same_bytes-2 : goal.returns-then-same_bytes-2
unfolding value_at value_kept
returns-then-same_bytes-2 c = let w = c.next_word-w.ensures.value in let null = sym c.same_bytes.ensures ∙ c.if-same_bytes.false in let text = sym c.same_bytes-2.ensures ∙ c.if-same_bytes-2.true in
    record { value = rw (← w, null, text) c.text.ensures.value; out_after = rw (← w, null, text) c.text.ensures.out_after }

pub returns : goal.returns
unfolding value_at value_kept
returns c = let w = c.next_word-w.ensures.value in let null = sym c.same_bytes.ensures ∙ c.if-same_bytes.false in let text = sym c.same_bytes-2.ensures ∙ c.if-same_bytes-2.false in
    record { value = rw (← w, null, text) c.numeric.ensures; out_after = rw (← w, null, text) }
