use Prim.Native.Nat.{◌/◌, ◌%◌}
use Rattle.node_schema.specs.Layout.{half}
use Rattle.server_values.proofs.QuickLaws.{near-high, near-long, near-short}
use Rattle.server_values.proofs.quick.is_near.Goals as goal

pub returns-then-mark-gt-MARK_MAX : goal.returns-then-mark-gt-MARK_MAX
returns-then-mark-gt-MARK_MAX c = let a = c.args in near-high (a.factory / half) (a.factory % half) a.mark a.len c.if-mark-gt-MARK_MAX.true

pub returns-then-n : goal.returns-then-n
returns-then-n c =
    let a = c.args in
    near-long (a.factory / half) (a.factory % half) a.mark a.len c.if-mark-gt-MARK_MAX.false c.if-n.true

pub returns : goal.returns
returns c =
    let a = c.args in
    near-short (a.factory / half) (a.factory % half) a.mark a.len c.if-mark-gt-MARK_MAX.false c.if-n.false
