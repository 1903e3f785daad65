use borrow.Author.Tests.{le-ltb, lt-ltb}
use mathlib.Core.Path.{sym, ◌∙◌}
use Rattle.im_responses.specs.Kept.{concrete_p}
use Rattle.im_responses.proofs.kept.concrete.Goals as goal

pub returns-then-not-exact : goal.returns-then-not-exact
unfolding concrete_p
returns-then-not-exact c = rw (sym c.exact.ensures ∙ c.if-not-exact.true)

pub returns-then-p-ge65536 : goal.returns-then-p-ge65536
unfolding concrete_p
returns-then-p-ge65536 c = rw (sym c.exact.ensures ∙ c.if-not-exact.false, le-ltb c.args.p.endpoint 65536 c.if-p-ge65536.true)

pub returns-then-p-ge4294967296 : goal.returns-then-p-ge4294967296
unfolding concrete_p
returns-then-p-ge4294967296 c = rw (sym c.exact.ensures ∙ c.if-not-exact.false, lt-ltb c.args.p.endpoint 65536 c.if-p-ge65536.false, le-ltb c.args.p.cluster 4294967296 c.if-p-ge4294967296.true)

pub returns : goal.returns
unfolding concrete_p
returns c = rw (sym c.exact.ensures ∙ c.if-not-exact.false, lt-ltb c.args.p.endpoint 65536 c.if-p-ge65536.false, lt-ltb c.args.p.cluster 4294967296 c.if-p-ge4294967296.false)
