use mathlib.Core.Path.{◌≡◌, refl, sym, ap, subst, ◌∙◌}
use Prim.Native.Nat.{ℕ}
use native.Mathlib.Omega.{arith}
use borrow.Author.Rules.{elem_Fits, rules}
use lib.ListN.{length, take, get_or}
use lib.Seq.{take-length}
use mir.Syntax.{w8}
use Rattle.base_bounds.specs.Bounds.{write_limit}
use Rattle.base_octets.specs.Store.{store}
use Rattle.base_octets.proofs.StoreLaws.{same_length as kept-length}
use Rattle.node_schema.proofs.RowLaws.{rows-length}
use Rattle.im_requests.specs.Write.{entry_in}
use Rattle.im_writer.specs.Spelling.{joined}
use Rattle.server_writes.specs.Entry.{InWidth, entries_in}
use Rattle.server_writes.specs.Response.{answer_trees}
use Rattle.server_writes.proofs.ResponseLaws.{status-next, answer-bound}
use Rattle.server_writes.proofs.response.put_statuses.Goals as goal

pub loop-i-init : goal.loop-i-init
unfolding joined answer_trees store
loop-i-init c = (search rules, record { content = refl; place = omega arith })

pub entry_in-x-requires : goal.entry_in-x-requires
entry_in-x-requires c = omega (arith, c.requires.0, c.loop-i-test.true)

pub overflow_cast-x : goal.overflow_cast-x
overflow_cast-x c = record { fits = (subst InWidth (sym c.entry_in-x.ensures) (c.requires.1.0 c.loop-i.i c.loop-i-test.true)).endpoint }

pub overflow_cast-x-in-loop-i : goal.overflow_cast-x-in-loop-i
overflow_cast-x-in-loop-i c = record { fits = (subst InWidth (sym c.entry_in-x.ensures) (c.requires.1.0 c.loop-i.i c.loop-i-test.true)).cluster }

pub overflow_cast-x-in-loop-i-2 : goal.overflow_cast-x-in-loop-i-2
overflow_cast-x-in-loop-i-2 c = record { fits = (subst InWidth (sym c.entry_in-x.ensures) (c.requires.1.0 c.loop-i.i c.loop-i-test.true)).attribute }

pub bounds-codes-i : goal.bounds-codes-i
bounds-codes-i c = omega (arith, c.requires.0, c.loop-i-test.true)

pub put_write_status-at-requires : goal.put_write_status-at-requires
put_write_status-at-requires c = omega (arith, answer-bound c.entry_in-x.result (get_or c.args.codes c.loop-i.i 0) (subst InWidth (sym c.entry_in-x.ensures) (c.requires.1.0 c.loop-i.i c.loop-i-test.true)) (elem_Fits w8 w8 c.args.codes c.well_formed.1.0.0 c.loop-i.i c.well_formed.1.0.1.1 tt).fits, c.loop-i.invariant.0, c.requires.1.1, c.loop-i-test.true, kept-length c.loop-i.invariant.1)

pub loop-i-preserved : goal.loop-i-preserved
loop-i-preserved c = let a = c.args in let l = c.loop-i in let x = c.entry_in-x in let e = c.put_write_status-at.ensures in let h = c.loop-i-test.true in let whole : length a.codes ≡ write_limit = c.well_formed.1.0.1.0.1 in (
  omega (arith, answer-bound c.entry_in-x.result (get_or c.args.codes c.loop-i.i 0) (subst InWidth (sym c.entry_in-x.ensures) (c.requires.1.0 c.loop-i.i c.loop-i-test.true)) (elem_Fits w8 w8 c.args.codes c.well_formed.1.0.0 c.loop-i.i c.well_formed.1.0.1.1 tt).fits, l.invariant.0, e.place),
  status-next a.entries.now a.codes a.n l.i x.result h x.ensures (omega (arith, whole, c.requires.0, h)) l.invariant.1 e,
)

pub shape_of-out : goal.shape_of-out
shape_of-out c = kept-length c.loop-i.invariant.1

pub returns : goal.returns
returns c = let a = c.args in let l = c.loop-i in let q : l.i ≡ a.n = omega (arith, c.loop-i-test.false) in let xs = entries_in a.entries.now a.n in
    let t : take l.i xs ≡ xs = ap (λ (i : ℕ). take i xs) (q ∙ sym (rows-length (entry_in a.entries.now) a.n 0)) ∙ take-length xs in rw (t, q) at l.invariant.1
