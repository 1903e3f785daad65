use mathlib.Core.Path.{sym, ap, subst, ◌∙◌}
use native.Mathlib.Omega.{arith}
use lib.ListN.{length}
use Rattle.node_schema.proofs.RowLaws.{rows-length}
use Rattle.im_requests.specs.Write.{entry_in}
use Rattle.server_selection.proofs.RequestLaws.{rows-here}
use Rattle.server_writes.specs.Offer.{StoreOutcome, held_of}
use Rattle.server_writes.specs.Entry.{InWidth}
use Rattle.server_writes.proofs.HeldLaws.{entry_length}
use Rattle.server_writes.proofs.LoopLaws.{writing_begins, writing-goes, writing-ends}
use Rattle.server_writes.proofs.entry.write_all.Goals as goal

pub loop-i-init : goal.loop-i-init
loop-i-init c = (c.requires.1.1.1, writing_begins _ _ _ _ _ _)

pub entry_in-x-requires : goal.entry_in-x-requires
entry_in-x-requires c = omega (arith, c.requires.1.0, c.loop-i-test.true)

pub write_entry-requires : goal.write_entry-requires
write_entry-requires c = (c.requires.0, ((subst InWidth (sym c.entry_in-x.ensures) (c.requires.1.1.0 _ c.loop-i-test.true)), c.loop-i.invariant.0))

pub bounds-codes-i : goal.bounds-codes-i
bounds-codes-i c = omega (arith, c.requires.1.0, c.loop-i-test.true)

pub loop-i-preserved : goal.loop-i-preserved
loop-i-preserved c = let a = c.args in let l = c.loop-i in let e = c.write_entry.ensures in let x = c.entry_in-x in let h = held_of l.words l.nulls l.texts l.versions l.edits in (
  ap (λ (o : StoreOutcome). length o.held.edits) e ∙ entry_length a.w.now a.defaults.now h a.g a.s.now _ ∙ l.invariant.0,
  writing-goes a.w.now a.g a.defaults.now a.s.now l.invariant.1 x.result _ (omega (arith, c.requires.1.0, c.loop-i-test.true)) (rows-here (entry_in a.entries.now) a.n l.i x.result c.loop-i-test.true x.ensures) e,
)

pub shape_of-edits : goal.shape_of-edits
shape_of-edits c = c.loop-i.invariant.0 ∙ sym c.requires.1.1.1

pub returns : goal.returns
returns c = let a = c.args in let l = c.loop-i in
    let e = writing-ends a.w.now a.g a.defaults.now a.s.now l.invariant.1 (omega (arith, rows-length (entry_in a.entries.now) a.n 0, c.loop-i-test.false)) in
    (sym e.0, e.1)
