use mathlib.Core.Path.{sym}
use Prim.Native.Nat.{◌+◌}
use native.Mathlib.Omega.{arith}
use borrow.Author.Tests.{lt-leb}
use Rattle.server_report.proofs.OfferLaws.{beside}
use Rattle.server_report.proofs.block.is_ample.Goals as goal

pub returns-then-room-lt-BESIDE_TEXT : goal.returns-then-room-lt-BESIDE_TEXT
returns-then-room-lt-BESIDE_TEXT c = let a = c.args in sym (lt-leb (40 + a.n) a.room (omega arith))

pub returns-else-room-lt-BESIDE_TEXT : goal.returns-else-room-lt-BESIDE_TEXT
returns-else-room-lt-BESIDE_TEXT c = let a = c.args in beside 40 a.n a.room c.if-room-lt-BESIDE_TEXT.false
