use mathlib.Core.Path.{◌≡◌, ap, ◌∙◌}
use mathlib.Core.Bool.{true}
use borrow.Author.Tests.{eq-eqb, ne_eqb}
use lib.Dec.{eqb}
use lib.ListN.{length, take, drop}
use Rattle.base_utf8.specs.WellFormed.{well_formed}
use Rattle.server_values.proofs.ValidLaws.{too_long, not-whole, whole-text}
use Rattle.server_values.proofs.valid.part_ok.Goals as goal

-- `values::valid::part_ok` meets its contract.
pub returns-then-len-gt-TEXT_MAX : goal.returns-then-len-gt-TEXT_MAX
returns-then-len-gt-TEXT_MAX c = let a = c.args in too_long (take a.len (drop a.start a.page.now)) a.len c.if-len-gt-TEXT_MAX.true

pub returns-then-text-len : goal.returns-then-text-len
returns-then-text-len c =
    let a = c.args in
    not-whole (take a.len (drop a.start a.page.now)) a.len c.if-len-gt-TEXT_MAX.false (rw (← c.part-text.ensures) (ne_eqb _ _ c.if-text-len.true))

pub returns : goal.returns
returns c =
    let a = c.args in
    let e : eqb (length (take a.len (drop a.start a.page.now))) a.len ≡ true = rw (← c.part-text.ensures) (eq-eqb _ _ c.if-text-len.false) in
    c.valid.ensures ∙ ap well_formed c.part-text.ensures ∙ whole-text (take a.len (drop a.start a.page.now)) a.len c.if-len-gt-TEXT_MAX.false e
