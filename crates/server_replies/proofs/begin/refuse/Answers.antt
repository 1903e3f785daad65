use mathlib.Core.Path.{◌≡◌}
use native.Mathlib.Omega.{arith}
use lib.ListN.{length}
use Rattle.server_replies.specs.Row.{request_in, row_in}
use Rattle.server_replies.specs.Begin.{answered, refusal_of}
use Rattle.server_replies.proofs.MessageLaws.{status-length}
use Rattle.server_replies.proofs.RowLaws.{ends-within, part-short, both-given}
use Rattle.server_replies.proofs.begin.refuse.Goals as goal
use Rattle.server_replies.proofs.begin.refuse.Goals.{Start}

size : (c : Start) → length (refusal_of c.args.exchange c.args.code) ≡ 16
size c = status-length _ c.args.exchange _ c.args.code c.ranges.code.fits

pub slice_bounds-once_kept-end : goal.slice_bounds-once_kept-end
slice_bounds-once_kept-end c = ends-within c.put_status-end.ensures (omega (arith, c.requires.1, size (goal.at.slice_bounds-once_kept-end c).Start))

pub once_kept-requires : goal.once_kept-requires
once_kept-requires c = omega (arith, part-short c.put_status-end.ensures (omega (arith, c.requires.1, size (goal.at.once_kept-requires c).Start)), size (goal.at.once_kept-requires c).Start)

pub returns : goal.returns
returns c = let a = c.args in λ row. both-given (row_in row a.t a.kept.now) c.once_kept.ensures.whole (answered a.exchange) (request_in row a.t.asked) a.t.place c.put_status-end.ensures (omega (arith, size (goal.at.returns c).Start)) c.requires.1 (c.once_kept.ensures.by_index row)
