use Rattle.cache_entries.specs.Valid.{word_right}
use borrow.Author.Tests.{eq-eqb, ne_eqb}
use Rattle.cache_entries.proofs.valid.word_ok.Goals as goal

pub returns-then-kind-eq-NULL : goal.returns-then-kind-eq-NULL
unfolding word_right
returns-then-kind-eq-NULL c = rw (eq-eqb _ _ c.if-kind-eq-NULL.true)

pub returns-then-kind-eq-BOOLEAN : goal.returns-then-kind-eq-BOOLEAN
unfolding word_right
returns-then-kind-eq-BOOLEAN c = rw (ne_eqb _ _ c.if-kind-eq-NULL.false, eq-eqb _ _ c.if-kind-eq-BOOLEAN.true)

pub returns-then-kind-eq-UNSIGNED : goal.returns-then-kind-eq-UNSIGNED
unfolding word_right
returns-then-kind-eq-UNSIGNED c = rw (ne_eqb _ _ c.if-kind-eq-NULL.false, ne_eqb _ _ c.if-kind-eq-BOOLEAN.false, eq-eqb _ _ c.if-kind-eq-UNSIGNED.true)

pub returns-then-kind-eq-SIGNED : goal.returns-then-kind-eq-SIGNED
unfolding word_right
returns-then-kind-eq-SIGNED c = rw (ne_eqb _ _ c.if-kind-eq-NULL.false, ne_eqb _ _ c.if-kind-eq-BOOLEAN.false, ne_eqb _ _ c.if-kind-eq-UNSIGNED.false, eq-eqb _ _ c.if-kind-eq-SIGNED.true)

pub returns-then-kind-eq-FLOAT : goal.returns-then-kind-eq-FLOAT
unfolding word_right
returns-then-kind-eq-FLOAT c = rw (ne_eqb _ _ c.if-kind-eq-NULL.false, ne_eqb _ _ c.if-kind-eq-BOOLEAN.false, ne_eqb _ _ c.if-kind-eq-UNSIGNED.false, ne_eqb _ _ c.if-kind-eq-SIGNED.false, eq-eqb _ _ c.if-kind-eq-FLOAT.true)

pub returns : goal.returns
unfolding word_right
returns c = rw (ne_eqb _ _ c.if-kind-eq-NULL.false, ne_eqb _ _ c.if-kind-eq-BOOLEAN.false, ne_eqb _ _ c.if-kind-eq-UNSIGNED.false, ne_eqb _ _ c.if-kind-eq-SIGNED.false, ne_eqb _ _ c.if-kind-eq-FLOAT.false)
