use mathlib.Core.Path.{refl}
use Rattle.server.proofs.StartLaws.{accepted-schema, is-accepted, is-refused, none-started, is-started}
use Rattle.server.proofs.start.start.Goals as goal

pub returns-then-check-ne0 : goal.returns-then-check-ne0
returns-then-check-ne0 c = let a = c.args in λ edits. none-started a.w.now a.defaults.now edits (is-refused a.w.now a.defaults.now c.check.ensures c.if-check-ne0.true)

pub fresh-requires : goal.fresh-requires
fresh-requires c = let a = c.args in accepted-schema a.w.now a.defaults.now (is-accepted a.w.now a.defaults.now c.check.ensures c.if-check-ne0.false)

pub returns : goal.returns
returns c = let a = c.args in λ edits. is-started a.w.now a.defaults.now edits (is-accepted a.w.now a.defaults.now c.check.ensures c.if-check-ne0.false) c.fresh.ensures refl refl
