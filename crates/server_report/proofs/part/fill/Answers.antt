use mathlib.Core.Path.{◌≡◌, refl}
use mathlib.Core.List.{List, ◌++◌}
use Prim.Native.Nat.{◌+◌}
use native.Mathlib.Omega.{arith}
use Rattle.server_selection.specs.Request.{asked_paths}
use Rattle.server_selection.proofs.RequestLaws.{paths-count, paths-here}
use Rattle.server_report.specs.Blocks.{View, PlacedBlock, path_blocks, blocks_from}
use Rattle.server_report.proofs.BlockLaws.{ahead, ahead-done, ahead-path}
use Rattle.server_report.proofs.PartLaws.{end-within}
use Rattle.server_report.proofs.FillLaws.{seen, fill-ends, filling-of, fill-full, fill-both}
use Rattle.server_report.proofs.part.fill.Goals as goal
use Rattle.server_report.proofs.part.fill.Goals.{After-asked_at-p}

abbrev view : (c : After-asked_at-p) → View
view c = let a = c.args in seen a.w.now a.words.now a.nulls.now a.texts.now a.versions.now a.defaults.now a.edits.now (record { level = a.level.now }) a.skips.now

-- the blocks of the paths after this one
abbrev later : (c : After-asked_at-p) → List PlacedBlock
later c = ahead (view c) (asked_paths c.args.row.now c.args.asked) (c.loop-path.path + 1) 0

-- what is ahead are the blocks of the path that was read, then those
split : (c : After-asked_at-p) →
    let l = c.loop-path in
    ahead (view c) (asked_paths c.args.row.now c.args.asked) l.path l.i ≡ path_blocks (view c) l.path c.asked_at-p.result l.i ++ later c
split c =
    let l = c.loop-path in
    ahead-path (view c) (asked_paths c.args.row.now c.args.asked) l.path l.i c.asked_at-p.result (paths-here c.args.row.now c.args.asked l.path c.asked_at-p.result c.loop-path-test.true c.asked_at-p.ensures)

pub loop-path-init : goal.loop-path-init
unfolding blocks_from
loop-path-init c = (omega arith, (refl, λ new r x. x))

pub asked_at-p-requires : goal.asked_at-p-requires
asked_at-p-requires c = omega (arith, c.requires.1.0, c.loop-path-test.true)

pub fill_path-f-requires : goal.fill_path-f-requires
fill_path-f-requires c =
    let l = c.loop-path in
    (c.requires.0, omega (arith, l.invariant.0, l.invariant.1.0, c.requires.1.1))

pub shape_of-out-then-f : goal.shape_of-out-then-f
shape_of-out-then-f c = omega (arith, c.loop-path.invariant.1.0, c.fill_path-f.auto)

pub returns-then-f : goal.returns-then-f
returns-then-f c = c.loop-path.invariant.1.1 _ _ (filling-of (split (goal.at.returns-then-f c).After-asked_at-p) (fill-full c.fill_path-f.ensures (later (goal.at.returns-then-f c).After-asked_at-p) c.if-f.true))

pub overflow_sub-room : goal.overflow_sub-room
overflow_sub-room c = omega (arith, c.fill_path-f.ensures.stored.place)

pub overflow_sub-room-in-loop-path : goal.overflow_sub-room-in-loop-path
overflow_sub-room-in-loop-path c = omega (arith, end-within c.fill_path-f.ensures)

pub loop-path-preserved : goal.loop-path-preserved
loop-path-preserved c =
    let l = c.loop-path in
    let f = c.fill_path-f in
    (omega (arith, l.invariant.0, f.ensures.stored.place, end-within f.ensures), (omega (arith, l.invariant.1.0, f.auto), λ new r x. l.invariant.1.1 new r (filling-of (split (goal.at.loop-path-preserved c).After-asked_at-p) (fill-both f.ensures (later (goal.at.loop-path-preserved c).After-asked_at-p) c.if-f.false x))))

pub shape_of-out : goal.shape_of-out
shape_of-out c = c.loop-path.invariant.1.0

pub returns : goal.returns
returns c =
    let a = c.args in
    let v = seen a.w.now a.words.now a.nulls.now a.texts.now a.versions.now a.defaults.now a.edits.now (record { level = a.level.now }) a.skips.now in
    c.loop-path.invariant.1.1 _ _ (fill-ends _ _ _ _ _ (ahead-done v (asked_paths a.row.now a.asked) _ _ (omega (arith, paths-count c.args.row.now c.args.asked, c.loop-path-test.false))))
