use mathlib.Core.Path.{◌∙◌}
use borrow.Author.Rules.{rules}
use Rattle.server_values.proofs.QuickLaws.{number-holds, number-fails, number-null}
use Rattle.server_values.proofs.quick.number_ok.Goals as goal

pub limits_hold-requires : goal.limits_hold-requires
limits_hold-requires c = (search rules, c.requires.1.0)

pub returns-then-limits_hold : goal.returns-then-limits_hold
returns-then-limits_hold c =
    let a = c.args in
    number-holds a.w.now a.words.now a.nulls.now a.i c.requires.1.1 _ c.limits_hold.ensures c.if-limits_hold.true

pub returns-then-nulls-i : goal.returns-then-nulls-i
returns-then-nulls-i c =
    let a = c.args in
    c.first_ok.ensures ∙ number-null a.w.now a.words.now a.nulls.now a.i c.requires.1.1 c.if-nulls-i.true

pub returns-else-nulls-i : goal.returns-else-nulls-i
returns-else-nulls-i c =
    let a = c.args in
    number-fails a.w.now a.words.now a.nulls.now a.i c.requires.1.1 _ c.limits_hold.ensures c.if-limits_hold.false c.if-nulls-i.false
