use mathlib.Core.Path.{sym, ◌∙◌}
use Rattle.script_setup.specs.Attributes.{limits_in, kept_in}
use borrow.Author.Rules.{rules}
use Rattle.script_setup.proofs.attribute.read_limits.Goals as goal

pub returns-then-same_bytes : goal.returns-then-same_bytes
unfolding limits_in kept_in
returns-then-same_bytes c = let w = c.next_word-w.ensures.value in
    record { value = rw (← w, sym c.same_bytes.ensures ∙ c.if-same_bytes.true) c.boolean.ensures.value; bytes_after = rw (← w, sym c.same_bytes.ensures ∙ c.if-same_bytes.true); code_bound = c.boolean.ensures.code_bound }

pub returns-then-same_bytes-2 : goal.returns-then-same_bytes-2
unfolding limits_in kept_in
returns-then-same_bytes-2 c = let w = c.next_word-w.ensures.value in
    record { value = rw (← w, sym c.same_bytes.ensures ∙ c.if-same_bytes.false, sym c.same_bytes-2.ensures ∙ c.if-same_bytes-2.true) c.unsigned.ensures.value; bytes_after = rw (← w, sym c.same_bytes.ensures ∙ c.if-same_bytes.false, sym c.same_bytes-2.ensures ∙ c.if-same_bytes-2.true); code_bound = c.unsigned.ensures.code_bound }

pub returns-then-same_bytes-3 : goal.returns-then-same_bytes-3
unfolding limits_in kept_in
returns-then-same_bytes-3 c = let w = c.next_word-w.ensures.value in
    record { value = rw (← w, sym c.same_bytes.ensures ∙ c.if-same_bytes.false, sym c.same_bytes-2.ensures ∙ c.if-same_bytes-2.false, sym c.same_bytes-3.ensures ∙ c.if-same_bytes-3.true) c.integer.ensures.value; bytes_after = rw (← w, sym c.same_bytes.ensures ∙ c.if-same_bytes.false, sym c.same_bytes-2.ensures ∙ c.if-same_bytes-2.false, sym c.same_bytes-3.ensures ∙ c.if-same_bytes-3.true); code_bound = c.integer.ensures.code_bound }

pub returns-then-same_bytes-4 : goal.returns-then-same_bytes-4
unfolding limits_in kept_in
returns-then-same_bytes-4 c = let w = c.next_word-w.ensures.value in
    record { value = rw (← w, sym c.same_bytes.ensures ∙ c.if-same_bytes.false, sym c.same_bytes-2.ensures ∙ c.if-same_bytes-2.false, sym c.same_bytes-3.ensures ∙ c.if-same_bytes-3.false, sym c.same_bytes-4.ensures ∙ c.if-same_bytes-4.true) c.real.ensures.value; bytes_after = rw (← w, sym c.same_bytes.ensures ∙ c.if-same_bytes.false, sym c.same_bytes-2.ensures ∙ c.if-same_bytes-2.false, sym c.same_bytes-3.ensures ∙ c.if-same_bytes-3.false, sym c.same_bytes-4.ensures ∙ c.if-same_bytes-4.true); code_bound = c.real.ensures.code_bound }

pub returns-then-same_bytes-5 : goal.returns-then-same_bytes-5
unfolding limits_in kept_in
returns-then-same_bytes-5 c = let w = c.next_word-w.ensures.value in
    record { value = rw (← w, sym c.same_bytes.ensures ∙ c.if-same_bytes.false, sym c.same_bytes-2.ensures ∙ c.if-same_bytes-2.false, sym c.same_bytes-3.ensures ∙ c.if-same_bytes-3.false, sym c.same_bytes-4.ensures ∙ c.if-same_bytes-4.false, sym c.same_bytes-5.ensures ∙ c.if-same_bytes-5.true) c.text.ensures.value; bytes_after = rw (← w, sym c.same_bytes.ensures ∙ c.if-same_bytes.false, sym c.same_bytes-2.ensures ∙ c.if-same_bytes-2.false, sym c.same_bytes-3.ensures ∙ c.if-same_bytes-3.false, sym c.same_bytes-4.ensures ∙ c.if-same_bytes-4.false, sym c.same_bytes-5.ensures ∙ c.if-same_bytes-5.true) c.text.ensures.bytes_after; code_bound = c.text.ensures.code_bound }

pub returns : goal.returns
unfolding limits_in kept_in
returns c = let w = c.next_word-w.ensures.value in
    record { value = rw (← w, sym c.same_bytes.ensures ∙ c.if-same_bytes.false, sym c.same_bytes-2.ensures ∙ c.if-same_bytes-2.false, sym c.same_bytes-3.ensures ∙ c.if-same_bytes-3.false, sym c.same_bytes-4.ensures ∙ c.if-same_bytes-4.false, sym c.same_bytes-5.ensures ∙ c.if-same_bytes-5.false); bytes_after = rw (← w, sym c.same_bytes.ensures ∙ c.if-same_bytes.false, sym c.same_bytes-2.ensures ∙ c.if-same_bytes-2.false, sym c.same_bytes-3.ensures ∙ c.if-same_bytes-3.false, sym c.same_bytes-4.ensures ∙ c.if-same_bytes-4.false, sym c.same_bytes-5.ensures ∙ c.if-same_bytes-5.false); code_bound = search rules }
