use mathlib.Core.Path.{refl}
use borrow.Author.Tests.{eq-eqb, ne_eqb}
use Rattle.cache_entries.specs.Coherent.{joined}
use Rattle.cache_entries.proofs.shared.joined.Goals as goal

pub returns-then-so-eq-UNSEEN : goal.returns-then-so-eq-UNSEEN
unfolding joined
returns-then-so-eq-UNSEEN c = rw (eq-eqb _ _ c.if-so-eq-UNSEEN.true) refl

pub returns-then-so-version : goal.returns-then-so-version
unfolding joined
returns-then-so-version c = rw (ne_eqb _ _ c.if-so-eq-UNSEEN.false, eq-eqb _ _ c.if-so-version.true) refl

pub returns-else-so-version : goal.returns-else-so-version
unfolding joined
returns-else-so-version c = rw (ne_eqb _ _ c.if-so-eq-UNSEEN.false, ne_eqb _ _ c.if-so-version.false) refl
