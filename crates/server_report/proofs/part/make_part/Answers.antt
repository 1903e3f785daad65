use Prim.Native.Nat.{◌+◌, ◌≤◌}
use native.Mathlib.Omega.{arith}
use Rattle.im_writer.proofs.LengthLaws.{length-opening, length-closing, length-empty-report}
use Rattle.server_values.specs.Values.{values_of}
use Rattle.server_selection.specs.Request.{filters_in, asked_paths}
use Rattle.server_report.specs.Blocks.{view_of, blocks_from}
use Rattle.server_report.specs.Chunk.{block_room}
use Rattle.server_report.specs.Part.{Filling}
use Rattle.server_report.proofs.FillLaws.{filling-of}
use Rattle.server_report.proofs.PartLaws.{same_blocks, end-within, made_none, made_some}
use Rattle.server_report.proofs.part.make_part.Goals as goal
use Rattle.server_report.proofs.part.make_part.Goals.{After-fill-f}

-- the blocks filled in are those of the reader's view
filled : (c : After-fill-f) →
    let a = c.args in
    let o = c.put_report_open-p in
    Filling o.new.b o.result block_room a.from
    (blocks_from (view_of a.w.now (values_of a.words.now a.nulls.now a.texts.now a.versions.now) a.defaults.now a.edits.now a.g (filters_in a.row.now)) (asked_paths a.row.now a.asked) a.from)
    c.fill-f.new.out c.fill-f.result
filled c =
    let a = c.args in
    filling-of (same_blocks a.w.now (values_of a.words.now a.nulls.now a.texts.now a.versions.now) a.defaults.now a.edits.now a.g (filters_in a.row.now) (asked_paths a.row.now a.asked) a.from c.skipped-skips.ensures) c.fill-f.ensures

-- and end within their room
ends : (c : After-fill-f) → c.fill-f.result.end ≤ c.put_report_open-p.result + block_room
ends c = end-within (filled c)

pub returns : goal.returns
returns c = made_some {o₃ = c.put_report_close.new.b} {e = c.put_report_close.result} c.put_report_open-p.ensures (filled (goal.at.returns c).After-fill-f) c.if-f-p.false c.put_report_close.ensures

pub returns-then-f-p : goal.returns-then-f-p
returns-then-f-p c = made_none {o₃ = c.put_report_empty.new.b} {e = c.put_report_empty.result} c.put_report_open-p.ensures (filled (goal.at.returns-then-f-p c).After-fill-f) c.if-f-p.true c.put_report_empty.ensures

pub put_report_open-p-requires : goal.put_report_open-p-requires
put_report_open-p-requires c = omega (arith, c.requires.1.1, length-opening)

pub fill-f-requires : goal.fill-f-requires
fill-f-requires c =
    let p = c.put_report_open-p in
    (c.requires.0, (c.requires.1.0, omega (arith, c.requires.1.1, p.ensures.place, p.auto, length-opening)))

pub put_report_empty-requires : goal.put_report_empty-requires
put_report_empty-requires c =
    let p = c.put_report_open-p in
    let f = c.fill-f in
    omega (arith, c.requires.1.1, p.auto, f.auto, length-empty-report f.result.more)

pub put_report_close-requires : goal.put_report_close-requires
put_report_close-requires c =
    let p = c.put_report_open-p in
    let f = c.fill-f in
    omega (arith, c.requires.1.1, p.ensures.place, p.auto, f.auto, length-opening, ends (goal.at.put_report_close-requires c).After-fill-f, length-closing f.result.more)
