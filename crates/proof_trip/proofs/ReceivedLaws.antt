-- Whole messages of the server, received: the reply awaited is taken; a report with a status block is refused whole, one without is never refused as unusable.
use Rattle.std.specs.Prelude.{Some, None, Option, Ok}
use mathlib.Core.Path.{◌≡◌, refl, sym, ap, ◌∙◌}
use mathlib.Core.Bool.{Bool, true, false}
use mathlib.Core.List.{List, [], ◌∷◌, ◌++◌}
use Prim.Native.Nat.{ℕ, ◌^◌, ◌≤◌, ◌<◌}
use native.Mathlib.Omega.{arith}
use borrow.Author.Tests.{eq-eqb, ne_eqb, leb-true, ltb-true}
use lib.Dec.{eqb, leb, ltb}
use lib.ListN.{length, length-append}
use Rattle.base_bounds.specs.Bounds.{payload_limit}
use Rattle.tlv_reader.specs.Octet.{pick}
use Rattle.tlv_reader.proofs.Picks.{pick-elim}
use Rattle.im_members.specs.Scalar.{ABSENT}
use Rattle.im_responses.specs.Report.{PartOf}
use Rattle.im_blocks.specs.Data.{ReportOf}
use Rattle.im_blocks.proofs.BlockLaws.{never}
use Rattle.node_schema.proofs.BoolLaws.{left, right, by-test}
use Rattle.im_writer.specs.Envelope.{envelope_octets, cache_edition, exchange_limit}
use Rattle.im_writer.specs.Spelling.{Each, spelling, joined}
use Rattle.im_writer.specs.Block.{Block}
use Rattle.im_writer.proofs.EnvelopeLaws.{length-envelope}
use Rattle.im_writer.proofs.LengthLaws.{write-status-bound}
use Rattle.im_writer.proofs.MessageLaws.{length-response}
use Rattle.proof_round_trip.specs.Meant.{report_octets, WriteStatus, OutcomeFits, outcome_tree, outcomes_octets}
use Rattle.im_exchange.specs.Rules.{report_opcode, write_response_opcode, max_turn}
use Rattle.im_envelope.specs.Envelope.{max_message}
use Rattle.im_envelope.proofs.BigLaws.{envelope-read}
use Rattle.cache_entries.specs.declared.Cached.{Cached}
use Rattle.cache_entries.specs.Valid.{held_right}
use Rattle.cache_report.specs.declared.block.NewEntry.{NewEntry}
use Rattle.cache_report.specs.Part.{Judged, blocks_in, judgement_in, judged_next, judged_all}
use Rattle.cache_report.specs.Entry.{position_of, position_number, number_for, worse}
use Rattle.cache_state.specs.declared.CacheState.{CacheState}
use Rattle.cache_state.specs.State.{reading, writing, is_open, asked_right, cache_right}
use Rattle.cache_state.specs.Reaction.{CacheReaction, refusal, unsent}
use Rattle.cache_receive.specs.Receive.{for_cache, opcode_awaited, awaited, by_answer, goes_on, ends, past_turns, part_taken, takes_part, takes, received}
use Rattle.proof_cache_laws.proofs.ReceiveLaws.{taken_as}
use Rattle.proof_trip.specs.Taken.{Sent, TakenAs, InStep, any_status, OfPath, ended_by, judged_for, held_with, page_with, reply_to}
use Rattle.proof_trip.proofs.BeginLaws.{after-envelope}
use Rattle.proof_trip.proofs.TakenLaws.{report-taken}
use Rattle.proof_trip.proofs.AnswerLaws.{answer-taken}

-- THE NUMBER of blocks: 6 once one of them gets 6
pub six-first : (a b : ℕ) → a ≡ 6 → worse a b ≡ 6
unfolding worse
six-first a b e = rw (eq-eqb a 6 e) refl

pub six-last : (a b : ℕ) → b ≡ 6 → worse a b ≡ 6
unfolding worse
six-last a b e = by-test (eqb a 6) (λ t. rw t refl) (λ f. rw (f, eq-eqb b 6 e) refl)

not-six : (a b : ℕ) → (a ≡ 6 → ⊥) → (b ≡ 6 → ⊥) → worse a b ≡ 6 → ⊥
unfolding worse
not-six a b na nb h =
    pick-elim (λ (x : ℕ). x ≡ 6 → ⊥) (eqb a 7) 7 b (λ _ q. omega (arith, q)) (λ _ q. nb q) (rw (ne_eqb a 6 na, ne_eqb b 6 nb) at h)

taken-not-six : (c : Cached) (x : NewEntry) → number_for c (Ok x) ≡ 6 → ⊥
unfolding number_for
taken-not-six c x = go (position_of c x)
  where
    go : (r : (Option (ℕ × ℕ))) → position_number r ≡ 6 → ⊥
    go (Some (k, i)) q = omega (arith, q)
    go None q = omega (arith, q)

module _ (s : List ℕ) where
  six-stays : (m : List (ReportOf ℕ)) (j : Judged) → j.number ≡ 6 → (judged_all s j m).number ≡ 6
  unfolding judged_all
  six-stays [] j e = e
  six-stays (r ∷ m) j e = six-stays m (judged_next s j r) (six-first j.number (number_for j.held (judgement_in s r)) e)

  judged-six : (l : List Block) (m : List (ReportOf ℕ)) → InStep (TakenAs s) l m → (j : Judged) → any_status l ≡ true → (judged_all s j m).number ≡ 6
  unfolding InStep TakenAs any_status judged_all number_for
  judged-six [] [] h j t = never (cc)
  judged-six [] (r ∷ m) h j t = absurd h
  judged-six (b ∷ l) [] h j t = absurd h
  judged-six (Block.value version e c a d ∷ l) (r ∷ m) h j t = judged-six l m h.1 (judged_next s j r) t
  judged-six (Block.status e c a code ∷ l) (r ∷ m) h j t =
      six-stays m (judged_next s j r) (six-last j.number (number_for j.held (judgement_in s r)) (ap (number_for j.held) h.0))

  judged-not-six : (l : List Block) (m : List (ReportOf ℕ)) → InStep (TakenAs s) l m → (j : Judged) → (j.number ≡ 6 → ⊥) → any_status l ≡ false → (judged_all s j m).number ≡ 6 → ⊥
  unfolding InStep TakenAs any_status judged_all
  judged-not-six [] [] h j n t = n
  judged-not-six [] (r ∷ m) h j n t = absurd h
  judged-not-six (b ∷ l) [] h j n t = absurd h
  judged-not-six (Block.value version e c a d ∷ l) (r ∷ m) h j n t =
      judged-not-six l m h.1 (judged_next s j r) (not-six j.number (number_for j.held (judgement_in s r)) n (λ q. taken-not-six j.held h.0.0 (sym (ap (number_for j.held) h.0.1) ∙ q))) t
  judged-not-six (Block.status e c a code ∷ l) (r ∷ m) h j n t = never (cc)

-- A REPORT with a status block is refused whole, and leaves everything as it was
module _ (l : List Block) (m : Bool) (h : Each Sent l) (page : List ℕ) (s : CacheState) where
  pub status-refused : any_status l ≡ true → takes_part page s (report_octets l m) ≡ refusal 6 s page
  unfolding takes_part
  status-refused t =
      let (p, here, more, step) = report-taken l m h in
      let six : judged_for s.held l m ≡ 6 = judged-six (report_octets l m) l (blocks_in (report_octets l m)) step (record { number = 0; held = s.held }) t in
      ap (part_taken page s (report_octets l m)) here
      ∙ pick-elim (λ (r : CacheReaction). r ≡ refusal 6 s page) (past_turns p.more s.asked.turn) _ _ (λ _. refl) (λ _. rw six refl)

  -- where there is room it is taken: with more promised a success is sent, and on the last part the read has ended
  part-as : (p : PartOf ℕ) (b : Bool) → p.more ≡ pick b 1 ABSENT → (b ≡ true → s.asked.turn ≡ max_turn → ⊥) → judged_for s.held l m ≡ 0 → part_taken page s (report_octets l m) (Some p) ≡ pick b (goes_on (held_with s.held l m) s.asked (page_with s.held page l m)) (ends (held_with s.held l m) s.asked (page_with s.held page l m))
  unfolding past_turns
  part-as p true e n z = rw (e, ne_eqb s.asked.turn max_turn (n refl), z) refl
  part-as p false e n z = rw (e, z) refl

  pub part-taken : (m ≡ true → s.asked.turn ≡ max_turn → ⊥) → judged_for s.held l m ≡ 0 → takes_part page s (report_octets l m) ≡ pick m (goes_on (held_with s.held l m) s.asked (page_with s.held page l m)) (ends (held_with s.held l m) s.asked (page_with s.held page l m))
  unfolding takes_part
  part-taken n z =
      let (p, here, more, step) = report-taken l m h in
      ap (part_taken page s (report_octets l m)) here ∙ part-as p m more n z

-- THE REPLY AWAITED, in its envelope
module _ (page : List ℕ) (s : CacheState) (room : ℕ) (valid : cache_right page s ≡ true) (large : max_message ≤ room) (turn-fits : s.asked.turn < 2 ^ 16) (payload : List ℕ) (short : length payload ≤ payload_limit) where
  exchange-fits : s.asked.exchange < exchange_limit
  unfolding cache_right asked_right
  exchange-fits =
      let a = right (held_right page s.held) _ valid in
      let b = right (ltb s.asked.used exchange_limit) _ a in
      omega (arith, ltb-true s.asked.used exchange_limit (left (ltb s.asked.used exchange_limit) _ a), leb-true s.asked.exchange s.asked.used (left (leb s.asked.exchange s.asked.used) _ b))

  replied : (opcode : ℕ) → opcode < 16 → for_cache cache_edition opcode ≡ true → awaited s.asked (record { edition = cache_edition; opcode = opcode; exchange = s.asked.exchange; turn = s.asked.turn }) ≡ true → received page s (reply_to s.asked opcode payload) room ≡ takes page s opcode payload
  replied opcode small for a =
      taken_as page s (reply_to s.asked opcode payload) room valid large (envelope-read cache_edition opcode s.asked.exchange s.asked.turn (omega arith) small exchange-fits turn-fits payload) (omega (arith, short, length-append (envelope_octets cache_edition opcode s.asked.exchange s.asked.turn) payload, length-envelope cache_edition opcode s.asked.exchange s.asked.turn)) for a (sym (after-envelope cache_edition opcode s.asked.exchange s.asked.turn payload))

  pub report-received : s.asked.stage ≡ reading → received page s (reply_to s.asked report_opcode payload) room ≡ takes_part page s payload
  unfolding takes for_cache awaited opcode_awaited is_open
  report-received e =
      replied report_opcode (omega arith) refl (rw (e, eq-eqb s.asked.exchange s.asked.exchange refl, eq-eqb s.asked.turn s.asked.turn refl) refl)

  pub response-received : s.asked.stage ≡ writing → received page s (reply_to s.asked write_response_opcode payload) room ≡ unsent (by_answer s payload) page
  unfolding takes for_cache awaited opcode_awaited is_open
  response-received e =
      replied write_response_opcode (omega arith) refl (rw (e, eq-eqb s.asked.exchange s.asked.exchange refl, eq-eqb s.asked.turn s.asked.turn refl) refl)

-- one status is short
outcome-short : (o : WriteStatus) → OutcomeFits o → length (outcomes_octets (o ∷ [])) ≤ payload_limit
unfolding joined
outcome-short o f =
    let p = f.path-fits in
    omega (arith, length-response (outcome_tree o ∷ []), length-append (spelling (outcome_tree o)) [], write-status-bound o.endpoint o.cluster o.attribute p.endpoint-fits p.cluster-fits p.attribute-fits o.code f.code_fits)

-- so a write ends with the status that the server wrote, and nothing else changes
pub write-ended : (page : List ℕ) (s : CacheState) (room : ℕ) → cache_right page s ≡ true → max_message ≤ room → s.asked.turn < 2 ^ 16 → s.asked.stage ≡ writing → (o : WriteStatus) → OutcomeFits o → OfPath s.asked o → received page s (envelope_octets cache_edition write_response_opcode s.asked.exchange s.asked.turn ++ outcomes_octets (o ∷ [])) room ≡ unsent (ended_by s o.code) page
write-ended page s room valid large turn-fits e o f p =
    response-received page s room valid large turn-fits (outcomes_octets (o ∷ [])) (outcome-short o f) e ∙ ap (λ r. unsent r page) (answer-taken s o f p)
