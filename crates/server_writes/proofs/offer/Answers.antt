use mathlib.Core.Path.{◌≡◌, ◌∙◌}
use native.Mathlib.Omega.{arith}
use Rattle.node_schema.proofs.RulesLaws.{well-formed-rules}
use Rattle.server_writes.specs.Offer.{verdict_on}
use Rattle.server_writes.proofs.OfferLaws.{verdict-asked, offered-by, cluster-room, text-room}
use Rattle.server_writes.specs.Offer.{held_of}
use Rattle.server_writes.proofs.offer.Goals as goal
use Rattle.server_writes.proofs.offer.Goals.{After-judge-verdict}

-- the verdict that was given is that of the definition
seen : (c : After-judge-verdict) → verdict_on c.args.w.now c.args.i c.args.src.now c.args.new ≡ c.judge-verdict.result
seen c = let a = c.args in verdict-asked a.w.now a.i a.src.now a.new c.kind_of.ensures c.is_nullable.ensures c.judge-verdict.ensures

pub store-requires : goal.store-requires
store-requires c = let a = c.args in let p = c.requires in
    let r = (well-formed-rules a.w.now).0 p.0 in
    (omega (arith, p.1.0), cluster-room a.w.now r a.i p.1.0, text-room a.w.now r a.i p.1.0 a.src.now a.edits.now p.1.1 a.new (seen (goal.at.store-requires c).After-judge-verdict ∙ c.in-Success.is))

pub returns-in-Success : goal.returns-in-Success
returns-in-Success c = let a = c.args in let e = c.store.ensures in
    rw (offered-by a.w.now a.defaults.now (held_of a.words.now a.nulls.now a.texts.now a.versions.now a.edits.now) a.i a.src.now a.new (seen (goal.at.returns-in-Success c).After-judge-verdict ∙ c.in-Success.is))
    (λ j. record { code = c.from.ensures j; held = record { values = e.0 j; edits = e.1 j } })

pub returns-in-ConstraintError : goal.returns-in-ConstraintError
returns-in-ConstraintError c = let a = c.args in
    rw (offered-by a.w.now a.defaults.now (held_of a.words.now a.nulls.now a.texts.now a.versions.now a.edits.now) a.i a.src.now a.new (seen (goal.at.returns-in-ConstraintError c).After-judge-verdict ∙ c.in-ConstraintError.is))
    (λ j. record { code = c.from-in-ConstraintError.ensures j; held = held_of a.words.now a.nulls.now a.texts.now a.versions.now a.edits.now })

pub returns-in-InvalidDataType : goal.returns-in-InvalidDataType
returns-in-InvalidDataType c = let a = c.args in
    rw (offered-by a.w.now a.defaults.now (held_of a.words.now a.nulls.now a.texts.now a.versions.now a.edits.now) a.i a.src.now a.new (seen (goal.at.returns-in-InvalidDataType c).After-judge-verdict ∙ c.in-InvalidDataType.is))
    (λ j. record { code = c.from-in-InvalidDataType.ensures j; held = held_of a.words.now a.nulls.now a.texts.now a.versions.now a.edits.now })
