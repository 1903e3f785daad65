use Prim.Native.Nat.{◌+◌}
use native.Mathlib.Omega.{arith}
use Rattle.server_replies.specs.Row.{row_in, request_in, next_part, keeping}
use Rattle.server_replies.proofs.RowLaws.{report-within, report-short, report-end, part-given, row-right}
use Rattle.server_replies.proofs.LentLaws.{begins-same}
use Rattle.server_replies.proofs.kept.next_part.Goals as goal

pub put_part-f-requires : goal.put_part-f-requires
put_part-f-requires c = let r = row-right (row_in c.args.row.now c.args.t c.args.kept.now) c.requires.1.0 in (c.requires.0, (r.asked, (omega arith, (r.exchange, c.requires.1.1.1))))

pub slice_bounds-keep-end : goal.slice_bounds-keep-end
slice_bounds-keep-end c = report-within c.put_part-f.ensures c.requires.1.1.1

pub keep-requires : goal.keep-requires
keep-requires c = report-short c.put_part-f.ensures c.requires.1.1.1

pub returns : goal.returns
unfolding next_part keeping
returns c =
    let a = c.args in
    let x = row_in a.row.now a.t a.kept.now in
    let s = c.put_part-f.ensures in
    let f = c.put_part-f.result in
    let g = part-given x c.keep.ensures.whole s c.requires.1.1.1 (request_in a.row.now a.t.asked)
    (λ j. record { progress = record { last = a.t.progress.last; turn = a.t.progress.turn + 1; next = c.next_of.ensures j; closed = 0 }; request = request_in a.row.now a.t.asked; place = f.place; kept = c.keep.ensures.kept_after j; len = report-end s c.requires.1.1.1 j }) in
    begins-same g.0 g.1
