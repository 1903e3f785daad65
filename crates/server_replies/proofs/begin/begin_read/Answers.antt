use mathlib.Core.Path.{◌≡◌, refl, sym, ap, ◌∙◌}
use borrow.Author.Rules.{rules}
use native.Mathlib.Omega.{arith}
use Prim.Native.Nat.{◌≤◌}
use lib.ListN.{length}
use Rattle.base_octets.specs.Store.{store}
use Rattle.im_requests.specs.Read.{ReadRequest, read_in, read_read}
use Rattle.im_exchange.specs.Rules.{first_reply}
use Rattle.server_selection.specs.Request.{filters_at, standing_at}
use Rattle.server_selection.specs.Filters.{filter_words}
use Rattle.server_selection.proofs.RequestLaws.{filters-length}
use Rattle.server_writes.specs.Offer.{held_of}
use Rattle.server_report.specs.declared.part.OpenRead.{OpenRead}
use Rattle.server_replies.specs.declared.ExchangeRow.{ExchangeRow}
use Rattle.server_replies.specs.Server.{server_with}
use Rattle.server_replies.specs.Row.{row_in, request_in, keeping, blocks_of, put_request}
use Rattle.server_replies.specs.Refusal.{refusal_code, read_refusal}
use Rattle.server_replies.specs.Begin.{once, refusal_of, beginning_place, request_of}
use Rattle.server_replies.proofs.MessageLaws.{sent-of}
use Rattle.server_replies.proofs.RowLaws.{report-within, report-short, report-end, part-given}
use Rattle.server_replies.proofs.LentLaws.{begins-same, begins-anew, request-back}
use Rattle.server_replies.proofs.RequestLaws.{Few, refusal-none}
use Rattle.server_replies.proofs.AskLaws.{read-as, read-malformed, read-asks, read-code, read-paths, read-filters}
use Rattle.server_replies.proofs.BeginLaws.{request-length, read-refused, read-answered}
use Rattle.server_replies.proofs.begin.begin_read.Goals as goal
use Rattle.server_replies.proofs.begin.begin_read.Goals.{After-put_filters, After-read_request, After-refusal_code-refusal, Else-refusal-ne0}

-- the request that is meant, and what decides it
abbrev meant : After-read_request → ReadRequest
meant c = read_read (read_in c.args.payload.now)

refusal : (c : After-refusal_code-refusal) → c.refusal_code-refusal.result ≡ read_refusal ((read_read (read_in c.args.payload.now)))
refusal c = c.refusal_code-refusal.ensures ∙ read-code c.args.payload.now (read-as c.in-Some.is c.read_request.ensures)

few : (c : Else-refusal-ne0) → Few ((record { timed = 0; paths = c.in-Some.r.paths; filters = c.in-Some.r.filters; writes = 0 }))
few c = refusal-none ((record { timed = 0; paths = c.in-Some.r.paths; filters = c.in-Some.r.filters; writes = 0 })) (sym c.refusal_code-refusal.ensures ∙ c.if-refusal-ne0.false)

-- the request in the row's words
stored-request : (c : After-put_filters) → c.put_filters.new.row ≡ put_request c.args.row.now (request_of c.args.w.now ((read_read (read_in c.args.payload.now))))
unfolding put_request request_of
stored-request c =
    let s = c.args.payload.now in let e = read-as c.in-Some.is c.read_request.ensures in
    c.put_filters.ensures
    ∙ (λ j. store ((c.put_paths.ensures ∙ ap (store c.args.row.now 0) (read-paths s e)) j) filters_at (filter_words c.args.w.now (read-filters s e ((refusal-none ((record { timed = 0; paths = c.in-Some.r.paths; filters = c.in-Some.r.filters; writes = 0 })) (sym c.refusal_code-refusal.ensures ∙ c.if-refusal-ne0.false))).filters j)))

-- and read back from them
kept-request : (c : After-put_filters) → request_in c.put_filters.new.row c.in-Some.r.paths ≡ request_of c.args.w.now ((read_read (read_in c.args.payload.now)))
unfolding request_of
kept-request c =
    let a = c.args in let r = (read_read (read_in c.args.payload.now)) in
    let room : standing_at ≤ length a.row.now = search rules in
    (λ j. request_in (stored-request c j) (read-asks a.payload.now (read-as c.in-Some.is c.read_request.ensures) j).paths)
    ∙ request-back a.row.now (request_of a.w.now r) (request-length a.payload.now refl) (filters-length a.w.now _) room

pub returns-in_default : goal.returns-in_default
unfolding refusal_code
returns-in_default c = let a = c.args in let f = c.refuse.ensures a.row.now in let n = sym (read-malformed a.payload.now (read-as c.in_default.is c.read_request.ensures)) in begins-same (f.0 ∙ ap (λ n. once (row_in a.row.now a.t a.kept.now) a.exchange (refusal_of a.exchange n)) (c.refusal_code.ensures ∙ n) ∙ sym (read-refused a.payload.now refl (server_with a.w.now a.defaults.now (held_of a.words.now a.nulls.now a.texts.now a.versions.now a.edits.now) (row_in a.row.now a.t a.kept.now)) a.g a.exchange (λ z. absurd (omega (arith, n, z))))) f.1

pub returns-then-refusal-ne0 : goal.returns-then-refusal-ne0
returns-then-refusal-ne0 c = let a = c.args in let f = c.refuse-then-refusal-ne0.ensures a.row.now in let n = refusal (goal.at.returns-then-refusal-ne0 c).After-refusal_code-refusal in begins-same (f.0 ∙ ap (λ n. once (row_in a.row.now a.t a.kept.now) a.exchange (refusal_of a.exchange n)) n ∙ sym (read-refused a.payload.now refl (server_with a.w.now a.defaults.now (held_of a.words.now a.nulls.now a.texts.now a.versions.now a.edits.now) (row_in a.row.now a.t a.kept.now)) a.g a.exchange (λ z. c.if-refusal-ne0.true (n ∙ z)))) f.1

pub slice_bounds-put_paths-end-2 : goal.slice_bounds-put_paths-end-2
slice_bounds-put_paths-end-2 c = sym (ap length (read-paths c.args.payload.now (read-as c.in-Some.is c.read_request.ensures)) ∙ request-length c.args.payload.now refl)

pub put_paths-requires : goal.put_paths-requires
put_paths-requires c = let k = ap length (read-paths c.args.payload.now (read-as c.in-Some.is c.read_request.ensures)) ∙ request-length c.args.payload.now refl in let room : standing_at ≤ length c.args.row.now = search rules in omega (arith, k, room)

pub put_filters-requires : goal.put_filters-requires
put_filters-requires c = (c.requires.0, ((few (goal.at.put_filters-requires c).Else-refusal-ne0).filters, search rules))

pub put_part-f-requires : goal.put_part-f-requires
put_part-f-requires c = let p = c.requires in (p.0, ((few (goal.at.put_part-f-requires c).Else-refusal-ne0).paths, (omega arith, (p.1.0, p.1.1))))

pub slice_bounds-keep-end : goal.slice_bounds-keep-end
slice_bounds-keep-end c = report-within c.put_part-f.ensures c.requires.1.1

pub keep-requires : goal.keep-requires
keep-requires c = report-short c.put_part-f.ensures c.requires.1.1

pub returns : goal.returns
unfolding keeping
returns c = let a = c.args in let room = c.requires.1.1 in
    let x = row_in a.row.now a.t a.kept.now in
    let u = server_with a.w.now a.defaults.now (held_of a.words.now a.nulls.now a.texts.now a.versions.now a.edits.now) x in
    let q : OpenRead = request_of a.w.now (meant (goal.at.returns c).After-read_request) in
    let y = read-answered a.payload.now refl u a.g a.exchange (sym (refusal (goal.at.returns c).After-refusal_code-refusal) ∙ c.if-refusal-ne0.false) in
    let s = sent-of (ap (λ (p : OpenRead). blocks_of u a.g p beginning_place) (kept-request (goal.at.returns c).After-put_filters)) c.put_part-f.ensures in
    let f = c.put_part-f.result in
    let g = part-given x c.keep.ensures.whole s room q
    (λ j. record { progress = record { last = a.exchange; turn = first_reply; next = c.next_of.ensures j; closed = 0 }; request = kept-request (goal.at.returns c).After-put_filters j; place = f.place; kept = c.keep.ensures.kept_after j; len = report-end s room j }) in
    begins-anew (g.0 ∙ sym y) (stored-request (goal.at.returns c).After-put_filters ∙ ap (λ (z : ExchangeRow). put_request a.row.now z.request) (sym y)) g.1
