use mathlib.Core.Path.{sym, ◌∙◌}
use Rattle.script_setup.specs.Lines.{setup_read, setup_line, texts_line}
use Rattle.script_setup.proofs.setup_line.Goals as goal

pub returns-then-same_bytes : goal.returns-then-same_bytes
unfolding setup_read setup_line texts_line
returns-then-same_bytes c =
    let t = sym c.same_bytes.ensures ∙ c.if-same_bytes.true in
    let l = c.subject_line.ensures in
    record { value = rw t l.value; setup_after = rw t l.setup_after; texts_after = rw t }

pub returns-then-same_bytes-2 : goal.returns-then-same_bytes-2
unfolding setup_read setup_line texts_line
returns-then-same_bytes-2 c =
    let t = sym c.same_bytes.ensures ∙ c.if-same_bytes.false in
    let u = sym c.same_bytes-2.ensures ∙ c.if-same_bytes-2.true in
    let l = c.cluster_line.ensures in
    record { value = rw (t, u) l.value; setup_after = rw (t, u) l.setup_after; texts_after = rw (t, u) }

pub returns : goal.returns
unfolding setup_read setup_line texts_line
returns c =
    let t = sym c.same_bytes.ensures ∙ c.if-same_bytes.false in
    let u = sym c.same_bytes-2.ensures ∙ c.if-same_bytes-2.false in
    let l = c.attribute_line.ensures in
    record { value = rw (t, u) l.value; setup_after = rw (t, u) l.setup_after; texts_after = rw (t, u) l.texts_after }
