use mathlib.Core.Path.{sym, ◌∙◌}
use lib.Dec.{leb}
use lib.ListN.{length}
use Rattle.node_schema.proofs.BoolLaws.{right}
use Rattle.server_values.proofs.QuickLaws.{plain-formed}
use Rattle.server_values.proofs.pages.is_fit.Goals as goal

pub returns-then-is_plain : goal.returns-then-is_plain
returns-then-is_plain c =
    let a = c.args in
    plain-formed a.w.now a.page.now a.texts.now a.factory a.n (sym c.is_plain.ensures ∙ c.if-is_plain.true)

pub all_formed-requires : goal.all_formed-requires
all_formed-requires c =
    (c.requires, λ h. right (leb (length c.args.page.now) c.whole_limit.result) _ (sym c.whole_page-whole.ensures ∙ h))

pub returns : goal.returns
returns c = c.all_formed.ensures
