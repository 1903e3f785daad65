use mathlib.Core.Path.{sym, ap, ◌∙◌}
use Prim.Native.Nat.{ℕ}
use lib.Dec.{leb}
use Rattle.im_writer.proofs.LengthLaws.{data-block-within}
use Rattle.server_report.proofs.OfferLaws.{within-room}
use Rattle.server_report.proofs.block.data_fits.Goals as goal

pub returns-then-is_ample : goal.returns-then-is_ample
returns-then-is_ample c =
    let a = c.args in
    let f = c.ranges in
    let most = data-block-within a.endpoint a.cluster a.attribute f.endpoint.fits f.cluster.fits f.attribute.fits a.version a.page.now a.v f.version.fits in
    within-room _ _ _ most (sym c.is_ample.ensures ∙ c.if-is_ample.true)

pub returns : goal.returns
returns c = ap (λ (k : ℕ). leb k c.args.room) c.data_block_len.ensures.value
