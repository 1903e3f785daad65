use mathlib.Core.Path.{refl}
use borrow.Author.Tests.{le-ltb, lt-ltb, eq-eqb, ne_eqb}
use native.Mathlib.Omega.{arith}
use Rattle.server_selection.specs.Filters.{unfiltered, joined}
use Rattle.server_selection.proofs.filters.join.Goals as goal

pub returns-then-version-ge-UNFILTERED : goal.returns-then-version-ge-UNFILTERED
unfolding joined
returns-then-version-ge-UNFILTERED c = rw (le-ltb c.args.version unfiltered c.if-version-ge-UNFILTERED.true) refl

pub returns-then-word-eq-UNFILTERED : goal.returns-then-word-eq-UNFILTERED
unfolding joined
returns-then-word-eq-UNFILTERED c = rw (lt-ltb c.args.version unfiltered (omega (arith, c.if-version-ge-UNFILTERED.false)), eq-eqb c.args.word unfiltered c.if-word-eq-UNFILTERED.true) refl

pub returns-then-word-version : goal.returns-then-word-version
unfolding joined
returns-then-word-version c = rw (lt-ltb c.args.version unfiltered (omega (arith, c.if-version-ge-UNFILTERED.false)), ne_eqb c.args.word unfiltered c.if-word-eq-UNFILTERED.false, eq-eqb c.args.word c.args.version c.if-word-version.true) refl

pub returns-else-word-version : goal.returns-else-word-version
unfolding joined
returns-else-word-version c = rw (lt-ltb c.args.version unfiltered (omega (arith, c.if-version-ge-UNFILTERED.false)), ne_eqb c.args.word unfiltered c.if-word-eq-UNFILTERED.false, ne_eqb c.args.word c.args.version c.if-word-version.false) refl
