use borrow.Author.Tests.{eq-eqb, ne_eqb}
use Rattle.tlv_reader.specs.Walk.{allowed_in}
use Rattle.tlv_reader.proofs.allowed.Goals as goal

pub returns-then-kind-eq-STRUCTURE : goal.returns-then-kind-eq-STRUCTURE
unfolding allowed_in
returns-then-kind-eq-STRUCTURE c = simp (eq-eqb _ _ c.if-kind-eq-STRUCTURE.true)

pub returns-then-kind-eq-ARRAY : goal.returns-then-kind-eq-ARRAY
unfolding allowed_in
returns-then-kind-eq-ARRAY c = simp (ne_eqb _ _ c.if-kind-eq-STRUCTURE.false, eq-eqb _ _ c.if-kind-eq-ARRAY.true)

pub returns : goal.returns
unfolding allowed_in
returns c = simp (ne_eqb _ _ c.if-kind-eq-STRUCTURE.false, ne_eqb _ _ c.if-kind-eq-ARRAY.false)
