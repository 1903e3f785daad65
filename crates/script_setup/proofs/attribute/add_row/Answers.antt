use borrow.Author.Tests.{lt-ltb, le-ltb, eq-eqb, ne_eqb}
use Rattle.script_setup.specs.Attributes.{setup_added, texts_added}
use Rattle.script_setup.proofs.attribute.add_row.Goals as goal

pub returns-then-i-ge-ATTRIBUTES : goal.returns-then-i-ge-ATTRIBUTES
unfolding setup_added texts_added
returns-then-i-ge-ATTRIBUTES c =
    let i = c.next_row-i.ensures in
    record { setup_after = rw (← i.value, le-ltb _ _ c.if-i-ge-ATTRIBUTES.true) i.setup_after; texts_after = rw (← i.value, le-ltb _ _ c.if-i-ge-ATTRIBUTES.true) }

pub returns-then-limits-eq-TEXT : goal.returns-then-limits-eq-TEXT
unfolding setup_added texts_added
returns-then-limits-eq-TEXT c =
    let i = c.next_row-i.ensures in
    let t = c.set_text.ensures in
    let code = c.args.row.limits.code in
    record { setup_after = rw (← i.value, lt-ltb _ _ c.if-i-ge-ATTRIBUTES.false, eq-eqb code 4 c.if-limits-eq-TEXT.true, ← i.setup_after, ← c.set_row.ensures) t.setup_after; texts_after = rw (← i.value, lt-ltb _ _ c.if-i-ge-ATTRIBUTES.false, eq-eqb code 4 c.if-limits-eq-TEXT.true, ← c.clip-n.ensures.value) t.texts_after }

pub returns-else-limits-eq-TEXT : goal.returns-else-limits-eq-TEXT
unfolding setup_added texts_added
returns-else-limits-eq-TEXT c =
    let i = c.next_row-i.ensures in
    let code = c.args.row.limits.code in
    record { setup_after = rw (← i.value, lt-ltb _ _ c.if-i-ge-ATTRIBUTES.false, ne_eqb code 4 c.if-limits-eq-TEXT.false, ← i.setup_after) c.set_row.ensures; texts_after = rw (← i.value, lt-ltb _ _ c.if-i-ge-ATTRIBUTES.false, ne_eqb code 4 c.if-limits-eq-TEXT.false) }
