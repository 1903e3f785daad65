use mathlib.Core.Path.{◌≡◌, refl, sym, ap, ◌∙◌}
use mathlib.Core.List.{List, []}
use Prim.Native.Nat.{ℕ, ◌≤◌, ◌<◌}
use native.Mathlib.Omega.{arith}
use lib.ListN.{length}
use Rattle.base_bounds.specs.Bounds.{write_limit}
use Rattle.base_octets.specs.Store.{Stored}
use Rattle.im_requests.specs.declared.write.WriteEntry.{WriteEntry}
use Rattle.im_requests.specs.Write.{entry_in, write_in, WriteRequest, write_read}
use Rattle.im_writer.specs.Envelope.{cache_edition}
use Rattle.im_exchange.specs.Rules.{first_reply}
use Rattle.server_writes.specs.Offer.{HeldValues, held_of}
use Rattle.server_writes.specs.Entry.{InWidth, entries_in, held_after, codes_of, codes_in}
use Rattle.server_replies.specs.Server.{Server, server_with}
use Rattle.server_replies.specs.Row.{row_in}
use Rattle.server_replies.specs.Refusal.{refusal_code, write_refusal}
use Rattle.server_replies.specs.Begin.{answered, entries_of, once, refusal_of}
use Rattle.server_replies.specs.Messages.{max_message, response_message}
use Rattle.server_replies.proofs.RowLaws.{ends-within, part-short, kept_full, both-given, nothing-given}
use Rattle.server_replies.proofs.RequestLaws.{refusal-none}
use Rattle.server_replies.proofs.AskLaws.{write-as, write-malformed, write-code, write-suppress, write-count, write_entries, write-widths, response-as}
use Rattle.server_replies.proofs.BeginLaws.{wrote-refused, wrote-done, response-sent, response-short, silent, spoken}
use Rattle.server_replies.proofs.begin.begin_write.Goals as goal
use Rattle.server_replies.proofs.begin.begin_write.Goals.{After-put_statuses-end, After-refusal_code-refusal, After-write_request, Else-refusal-ne0}

-- the request that is meant, and what decides it
abbrev meant : After-write_request → WriteRequest
meant c = write_read (write_in c.args.payload.now)

-- what is held before
abbrev held : After-write_request → HeldValues
held c = held_of c.args.words.now c.args.nulls.now c.args.texts.now c.args.versions.now c.args.edits.now

refusal : (c : After-refusal_code-refusal) → c.refusal_code-refusal.result ≡ write_refusal ((write_read (write_in c.args.payload.now)))
refusal c = c.refusal_code-refusal.ensures ∙ write-code c.args.payload.now (write-as c.in-Some.is c.write_request.ensures)

few : (c : Else-refusal-ne0) → c.in-Some.r.entries ≤ write_limit
few c = (refusal-none ((record { timed = c.in-Some.r.timed; paths = 0; filters = 0; writes = c.in-Some.r.entries })) (sym c.refusal_code-refusal.ensures ∙ c.if-refusal-ne0.false)).writes

accepted : (c : Else-refusal-ne0) → write_refusal ((write_read (write_in c.args.payload.now))) ≡ 0
accepted c = sym ((c.refusal_code-refusal.ensures ∙ write-code c.args.payload.now (write-as c.in-Some.is c.write_request.ensures))) ∙ c.if-refusal-ne0.false

-- the entries in words are those that are meant
entries : (c : Else-refusal-ne0) → entries_in c.write_request.new.entries c.in-Some.r.entries ≡ entries_of ((write_read (write_in c.args.payload.now)))
entries c = write_entries c.args.payload.now (write-as c.in-Some.is c.write_request.ensures) (few c)

widths : (c : Else-refusal-ne0) (i : ℕ) → i < c.in-Some.r.entries → InWidth (entry_in c.write_request.new.entries i)
widths c i h = write-widths c.args.payload.now (write-as c.in-Some.is c.write_request.ensures) (few c) i h

-- the statuses in the buffer are those of the write
sent : (c : After-put_statuses-end) →
    let a = c.args in
    let r = (write_read (write_in c.args.payload.now)) in
    Stored a.out.now 0 (response_message cache_edition a.exchange first_reply (entries_of r) (codes_of a.w.now a.g a.defaults.now a.payload.now ((held_of c.args.words.now c.args.nulls.now c.args.texts.now c.args.versions.now c.args.edits.now)) (entries_of r))) c.put_statuses-end.new.out c.put_statuses-end.result
sent c =
    let a = c.args in
    let h = (held_of c.args.words.now c.args.nulls.now c.args.texts.now c.args.versions.now c.args.edits.now) in
    let w = c.write_all-codes in
    let n = write-count a.payload.now (write-as c.in-Some.is c.write_request.ensures) in
    let q = write_entries c.args.payload.now (write-as c.in-Some.is c.write_request.ensures) (refusal-none ((record { timed = c.in-Some.r.timed; paths = 0; filters = 0; writes = c.in-Some.r.entries })) (sym c.refusal_code-refusal.ensures ∙ c.if-refusal-ne0.false)).writes in
    response-sent a.payload.now refl (server_with a.w.now a.defaults.now h (row_in [] a.t a.kept.now)) a.g a.exchange ((sym ((c.refusal_code-refusal.ensures ∙ write-code c.args.payload.now (write-as c.in-Some.is c.write_request.ensures))) ∙ c.if-refusal-ne0.false)) (w.ensures.1 ∙ ap (λ (xs : List WriteEntry). codes_in (codes_of a.w.now a.g a.defaults.now a.payload.now h xs)) q) (response-as cache_edition a.exchange first_reply w.result q n c.put_statuses-end.ensures)

short : (c : After-put_statuses-end) →
    let a = c.args in
    let r = (write_read (write_in c.args.payload.now)) in
    length (response_message cache_edition a.exchange first_reply (entries_of r) (codes_of a.w.now a.g a.defaults.now a.payload.now ((held_of c.args.words.now c.args.nulls.now c.args.texts.now c.args.versions.now c.args.edits.now)) (entries_of r))) ≤ max_message
short c =
    let a = c.args in
    response-short a.payload.now refl (server_with a.w.now a.defaults.now ((held_of c.args.words.now c.args.nulls.now c.args.texts.now c.args.versions.now c.args.edits.now)) (row_in [] a.t a.kept.now)) a.g a.exchange ((sym ((c.refusal_code-refusal.ensures ∙ write-code c.args.payload.now (write-as c.in-Some.is c.write_request.ensures))) ∙ c.if-refusal-ne0.false))

pub returns-in_default : goal.returns-in_default
unfolding refusal_code
returns-in_default c = let a = c.args in let n = sym (write-malformed a.payload.now (write-as c.in_default.is c.write_request.ensures)) in λ row. wrote-refused a.payload.now refl (server_with a.w.now a.defaults.now (held (goal.at.returns-in_default c).After-write_request) (row_in row a.t a.kept.now)) a.g a.exchange (λ z. absurd (omega (arith, n, z))) (let f = c.refuse.ensures row in (f.0 ∙ ap (λ n. once (row_in row a.t a.kept.now) a.exchange (refusal_of a.exchange n)) (c.refusal_code.ensures ∙ n), f.1))

pub returns-then-refusal-ne0 : goal.returns-then-refusal-ne0
returns-then-refusal-ne0 c = let a = c.args in let n = refusal (goal.at.returns-then-refusal-ne0 c).After-refusal_code-refusal in λ row. wrote-refused a.payload.now refl (server_with a.w.now a.defaults.now (held (goal.at.returns-then-refusal-ne0 c).After-write_request) (row_in row a.t a.kept.now)) a.g a.exchange (λ z. c.if-refusal-ne0.true (n ∙ z)) (let f = c.refuse-then-refusal-ne0.ensures row in (f.0 ∙ ap (λ n. once (row_in row a.t a.kept.now) a.exchange (refusal_of a.exchange n)) n, f.1))

pub write_all-codes-requires : goal.write_all-codes-requires
write_all-codes-requires c = let p = c.requires in (p.0, (few (goal.at.write_all-codes-requires c).Else-refusal-ne0, (widths (goal.at.write_all-codes-requires c).Else-refusal-ne0, p.1.0)))

pub returns-then-r-eq1 : goal.returns-then-r-eq1
returns-then-r-eq1 c = let a = c.args in let h = held (goal.at.returns-then-r-eq1 c).After-write_request in let k = c.once_kept.ensures in λ row. let x = row_in row a.t a.kept.now in let u : Server = server_with a.w.now a.defaults.now (held_of a.words.now a.nulls.now a.texts.now a.versions.now a.edits.now) x in
    wrote-done a.payload.now refl u a.g a.exchange (accepted (goal.at.returns-then-r-eq1 c).Else-refusal-ne0) (c.write_all-codes.ensures.0 ∙ ap (held_after a.w.now a.g a.defaults.now a.payload.now h) (entries (goal.at.returns-then-r-eq1 c).Else-refusal-ne0)) (silent a.payload.now refl u a.g a.exchange (sym (write-suppress a.payload.now (write-as c.in-Some.is c.write_request.ensures)) ∙ c.if-r-eq1.true))
    (k.by_index row, (nothing-given x k.whole (answered a.exchange) x.request x.place a.out.now (k.by_index row), kept_full x k.whole (answered a.exchange) x.request x.place [] (omega arith) (k.by_index row)))

pub put_statuses-end-requires : goal.put_statuses-end-requires
put_statuses-end-requires c = let p = c.requires in (few (goal.at.put_statuses-end-requires c).Else-refusal-ne0, (widths (goal.at.put_statuses-end-requires c).Else-refusal-ne0, (omega arith, (p.1.1.0, p.1.1.1))))

pub slice_bounds-once_kept-end-2 : goal.slice_bounds-once_kept-end-2
slice_bounds-once_kept-end-2 c = ends-within (sent (goal.at.slice_bounds-once_kept-end-2 c).After-put_statuses-end) (omega (arith, short (goal.at.slice_bounds-once_kept-end-2 c).After-put_statuses-end, c.requires.1.1.1))

pub once_kept-requires-2 : goal.once_kept-requires-2
once_kept-requires-2 c = omega (arith, part-short (sent (goal.at.once_kept-requires-2 c).After-put_statuses-end) (omega (arith, short (goal.at.once_kept-requires-2 c).After-put_statuses-end, c.requires.1.1.1)), short (goal.at.once_kept-requires-2 c).After-put_statuses-end)

pub returns : goal.returns
returns c = let a = c.args in let h = held (goal.at.returns c).After-write_request in let k = c.once_kept-2.ensures in λ row. let x = row_in row a.t a.kept.now in let u : Server = server_with a.w.now a.defaults.now (held_of a.words.now a.nulls.now a.texts.now a.versions.now a.edits.now) x in
    wrote-done a.payload.now refl u a.g a.exchange (accepted (goal.at.returns c).Else-refusal-ne0) (c.write_all-codes.ensures.0 ∙ ap (held_after a.w.now a.g a.defaults.now a.payload.now h) (entries (goal.at.returns c).Else-refusal-ne0)) (spoken a.payload.now refl u a.g a.exchange (λ z. c.if-r-eq1.false (write-suppress a.payload.now (write-as c.in-Some.is c.write_request.ensures) ∙ z)))
    (both-given x k.whole (answered a.exchange) x.request x.place (sent (goal.at.returns c).After-put_statuses-end) (short (goal.at.returns c).After-put_statuses-end) c.requires.1.1.1 (k.by_index row))
