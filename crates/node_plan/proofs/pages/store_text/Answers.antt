use mathlib.Core.Path.{ap, ◌∙◌}
use native.Mathlib.Omega.{arith}
use lib.ListN.{length}
use Rattle.base_octets.proofs.StoreLaws.{length-store}
use Rattle.node_plan.proofs.PageLaws.{padded-stored}
use Rattle.node_plan.proofs.pages.store_text.Goals as goal

pub clear-requires : goal.clear-requires
clear-requires c =
    let e = c.put_bytes-end.ensures in
    (omega (arith, e.place, c.requires.0), omega (arith, c.place_of-at.ensures, c.requires.1, ap length e.content ∙ length-store c.args.edits.now _ c.args.text.now))

pub returns : goal.returns
returns c =
    let a = c.args in
    let e = c.put_bytes-end.ensures in
    padded-stored a.edits.now a.rank a.text.now c.place_of-at.ensures e.content e.place c.clear.ensures
