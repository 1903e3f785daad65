use mathlib.Core.Path.{sym, ◌∙◌}
use Rattle.server_writes.proofs.EntryLaws.{any-version, same_version, other-version}
use Rattle.server_writes.proofs.entry.at_version.Goals as goal

pub returns-then-given-eq-ABSENT : goal.returns-then-given-eq-ABSENT
returns-then-given-eq-ABSENT c = let a = c.args in sym (any-version a.w.now a.versions.now a.given a.i c.if-given-eq-ABSENT.true)

pub returns-then-given-from : goal.returns-then-given-from
returns-then-given-from c = let a = c.args in sym (other-version a.w.now a.versions.now a.given a.i c.attribute_cluster.ensures c.if-given-eq-ABSENT.false (λ z. c.if-given-from.true (z ∙ sym c.from.ensures)))

pub returns : goal.returns
returns c = let a = c.args in sym (same_version a.w.now a.versions.now a.given a.i c.attribute_cluster.ensures c.if-given-eq-ABSENT.false (c.if-given-from.false ∙ c.from.ensures))
