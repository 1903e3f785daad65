use Prim.Native.Nat.{ℕ, ◌^◌, ◌<◌}
use native.Mathlib.Omega.{arith}
use borrow.Author.Rules.{elem_Fits}
use lib.ListN.{take}
use mir.Syntax.{w8}
use Rattle.base_octets.proofs.StoreLaws.{same_length as kept-length}
use Rattle.node_schema.proofs.RowLaws.{rows-length}
use Rattle.im_requests.specs.Write.{no_entry, entry_in}
use Rattle.im_writer.proofs.LengthLaws.{length-response-opening, length-response-closing}
use Rattle.im_writer.proofs.MessageLaws.{response-stored}
use Rattle.server_writes.specs.Entry.{InWidth, entries_in}
use Rattle.server_writes.specs.Response.{answer_trees, response_payload}
use Rattle.server_writes.proofs.ResponseLaws.{answers-bound, of-taken, of-rows}
use Rattle.server_writes.proofs.response.put_response.Goals as goal

pub put_write_response_open-p-requires : goal.put_write_response_open-p-requires
put_write_response_open-p-requires c = omega (arith, length-response-opening, c.requires.1.1)

pub put_statuses-q-requires : goal.put_statuses-q-requires
put_statuses-q-requires c = let o = c.put_write_response_open-p.ensures in (c.requires.0, (c.requires.1.0, omega (arith, length-response-opening, c.requires.0, c.requires.1.1, o.place, kept-length o)))

pub put_write_response_close-requires : goal.put_write_response_close-requires
put_write_response_close-requires c = let a = c.args in let o = c.put_write_response_open-p.ensures in let e = c.put_statuses-q.ensures in let at = entry_in a.entries.now in
    let bound = answers-bound (entries_in a.entries.now a.n) (take a.n a.codes) (of-rows InWidth at a.n no_entry c.requires.1.0) (of-taken (λ (x : ℕ). x < 2 ^ 8) a.codes a.n 0 (λ i l. (elem_Fits w8 w8 a.codes c.well_formed.1.0.0 i c.well_formed.1.0.1.1 tt).fits)) in
    omega (arith, length-response-opening, length-response-closing, c.requires.0, c.requires.1.1, o.place, kept-length o, e.place, kept-length e, bound, rows-length at a.n 0)

pub returns : goal.returns
unfolding response_payload
returns c = let a = c.args in response-stored (answer_trees (entries_in a.entries.now a.n) (take a.n a.codes)) c.put_write_response_open-p.ensures c.put_statuses-q.ensures c.put_write_response_close.ensures
