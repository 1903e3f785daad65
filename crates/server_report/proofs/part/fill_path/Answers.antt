use mathlib.Core.Path.{refl, sym, ◌∙◌}
use Prim.Native.Nat.{◌+◌, ◌<◌}
use native.Mathlib.Omega.{arith}
use Rattle.server_selection.specs.Items.{span}
use Rattle.server_report.specs.Blocks.{View, start_of, path_blocks}
use Rattle.server_report.proofs.BlockLaws.{value-index, places-done, places-none}
use Rattle.server_report.proofs.FillLaws.{seen, fill-ends, filling-of, Turn, turn}
use Rattle.server_report.proofs.part.fill_path.Goals as goal
use Rattle.server_report.proofs.part.fill_path.Goals.{After-offer_item-next, In-loop-i}

abbrev view : (c : After-offer_item-next) → View
view c = let a = c.args in seen a.w.now a.words.now a.nulls.now a.texts.now a.versions.now a.defaults.now a.edits.now (record { level = a.level.now }) a.skips.now

-- in the loop, the place is one of its path's
inside : (c : In-loop-i) → c.loop-i.i < span c.args.w.now c.args.p
inside c = omega (arith, c.span_of-span.ensures, c.loop-i-test.true)

-- what offering the block at a place came to
turned : (c : After-offer_item-next) →
    let l = c.loop-i in
    Turn l.out l.end l.left (path_blocks (view c) c.args.path c.args.p l.i)
    (start_of c.args.path (l.i + 1)) (path_blocks (view c) c.args.path c.args.p (l.i + 1))
    c.offer_item-next.new.out c.offer_item-next.result
turned c =
    let l = c.loop-i in
    let x = c.item_at-x in
    turn (view c) c.args.path l.i c.args.p (omega (arith, c.span_of-span.ensures, c.loop-i-test.true)) x.result x.ensures (sym c.is_nothing.ensures ∙ c.if-is_nothing.false) l.out l.end l.left _ _ c.offer_item-next.ensures

pub loop-i-init : goal.loop-i-init
loop-i-init c = (refl, (refl, λ new r x. x))

pub item_at-x-requires : goal.item_at-x-requires
item_at-x-requires c = (c.requires.0, inside (goal.at.item_at-x-requires c).In-loop-i)

pub loop-i-preserved-then-is_nothing : goal.loop-i-preserved-then-is_nothing
loop-i-preserved-then-is_nothing c =
    let a = c.args in
    let w = seen a.w.now a.words.now a.nulls.now a.texts.now a.versions.now a.defaults.now a.edits.now (record { level = a.level.now }) a.skips.now in
    let v = c.loop-i in
    (v.invariant.0, (v.invariant.1.0, λ new r x. v.invariant.1.1 new r (filling-of (places-none w c.args.path c.args.p v.i (inside (goal.at.loop-i-preserved-then-is_nothing c).In-loop-i) c.item_at-x.result c.item_at-x.ensures (sym c.is_nothing.ensures ∙ c.if-is_nothing.true)) x)))

pub offer_item-next-requires : goal.offer_item-next-requires
offer_item-next-requires c =
    let l = c.loop-i in
    (c.requires.0, (value-index c.args.w.now (record { level = c.args.level.now }) c.args.skips.now c.args.p l.i _ (inside (goal.at.offer_item-next-requires c).In-loop-i) c.item_at-x.ensures, omega (arith, l.invariant.0, l.invariant.1.0, c.requires.1)))

pub returns-then-next-end : goal.returns-then-next-end
returns-then-next-end c = c.loop-i.invariant.1.1 _ _ ((turned (goal.at.returns-then-next-end c).After-offer_item-next).stops _ c.if-next-end.true)

pub overflow_sub-left : goal.overflow_sub-left
overflow_sub-left c = omega (arith, (turned (goal.at.overflow_sub-left c).After-offer_item-next).low)

pub overflow_sub-left-in-loop-i : goal.overflow_sub-left-in-loop-i
overflow_sub-left-in-loop-i c = omega (arith, (turned (goal.at.overflow_sub-left-in-loop-i c).After-offer_item-next).high)

pub loop-i-preserved : goal.loop-i-preserved
loop-i-preserved c =
    let l = c.loop-i in
    let t = turned (goal.at.loop-i-preserved c).After-offer_item-next in
    (omega (arith, l.invariant.0, t.low, t.high), (omega (arith, l.invariant.1.0, c.offer_item-next.auto), λ new r x. l.invariant.1.1 new r (t.takes _ new r c.if-next-end.false x)))

pub shape_of-out : goal.shape_of-out
shape_of-out c = c.loop-i.invariant.1.0

pub returns : goal.returns
returns c =
    let a = c.args in
    let v = seen a.w.now a.words.now a.nulls.now a.texts.now a.versions.now a.defaults.now a.edits.now (record { level = a.level.now }) a.skips.now in
    c.loop-i.invariant.1.1 _ _ (fill-ends _ _ _ _ _ (places-done v c.args.path c.args.p _ (omega (arith, c.span_of-span.ensures, c.loop-i-test.false))))
