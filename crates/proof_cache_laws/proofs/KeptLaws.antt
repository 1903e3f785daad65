-- A VALID CACHE STAYS VALID, whatever it is handed; so it never answers 2 on its own account.
use Rattle.std.specs.Prelude.{Some, None, Option}
use mathlib.Core.Path.{◌≡◌, refl, sym, ap, ◌∙◌}
use mathlib.Core.Bool.{Bool, true, false, ◌&&◌, not, false≢true}
use mathlib.Core.List.{List, []}
use Prim.Native.Nat.{ℕ, ◌+◌, ◌^◌, ◌≤◌, ◌<◌}
use native.Mathlib.Omega.{arith}
use borrow.Author.Tests.{eq-eqb, eqb-true}
use lib.Dec.{eqb, leb, ltb}
use lib.ListN.{length, drop}
use Rattle.base_octets.proofs.StoreLaws.{length-store}
use Rattle.tlv_reader.specs.Octet.{pick}
use Rattle.tlv_reader.proofs.Picks.{pick-elim}
use Rattle.node_schema.proofs.BoolLaws.{left, right}
use Rattle.im_blocks.specs.declared.Answer.{Answer}
use Rattle.im_requests.specs.Status.{response_in}
use Rattle.im_responses.specs.Report.{PartOf, part_in}
use Rattle.im_responses.specs.Answered.{answered_in}
use Rattle.im_envelope.specs.declared.Fields.{Fields}
use Rattle.im_envelope.specs.Envelope.{envelope_in, envelope_length, max_message}
use Rattle.im_exchange.specs.Rules.{status_opcode, report_opcode}
use Rattle.cache_entries.specs.declared.Cached.{Cached}
use Rattle.cache_entries.specs.Valid.{clusters_right, entries_right, texts_right}
use Rattle.cache_report.specs.Part.{blocks_in, judged_all, held_all, page_all}
use Rattle.im_writer.specs.Envelope.{cache_edition}
use Rattle.cache_report.specs.Entry.{Good}
use Rattle.cache_report.proofs.RightLaws.{part_right}
use Rattle.cache_messages.specs.Messages.{success_message}
use Rattle.proof_cache_laws.proofs.BoundLaws.{success-sized}
use Rattle.cache_state.specs.declared.Request.{Request}
use Rattle.cache_state.specs.declared.CacheState.{CacheState}
use Rattle.cache_state.specs.Reaction.{Silent, CacheReaction, refusal, begins-none, unsent}
use Rattle.cache_state.specs.State.{reading, writing, last_part, with_status, is_open, open_right, cache_right, RightAsked}
use Rattle.cache_state.specs.Begin.{keeping}
use Rattle.proof_cache_laws.specs.Valid.{ValidCache, Holds}
use Rattle.proof_cache_laws.proofs.BegunLaws.{valid-right, keeping-right}
use Rattle.cache_receive.specs.Receive.{for_cache, opcode_awaited, awaited, ended_as, primed_as, ended_with, status_taken, by_status, of_write, answer_taken, by_answer, next_awaited, goes_on, ends, past_turns, part_taken, takes_part, takes, in_envelope, received}

-- a request ended: it is open no more
ended-right : (x : Request) (stage status : ℕ) → stage ≤ with_status → is_open stage ≡ false → RightAsked x → RightAsked (ended_as x stage status)
unfolding ended_as
ended-right x stage status l o r =
    record { used = r.used; exchange = r.exchange; unknown = r.unknown; stage = l; len = r.len; sent = rw o refl }

closed-status : is_open with_status ≡ false
unfolding is_open
closed-status = refl

closed-part : is_open last_part ≡ false
unfolding is_open
closed-part = refl

-- priming changes no entry
primed-good : (page : List ℕ) (c : Cached) → Good page c → Good page (primed_as c)
unfolding primed_as clusters_right entries_right texts_right
primed-good page c g = record {
  right = record {
    size = g.right.size;
    few-entries = g.right.few-entries;
    few-clusters = g.right.few-clusters;
    clusters = g.right.clusters;
    cluster-order = g.right.cluster-order;
    entry-order = g.right.entry-order;
    entries = g.right.entries;
    texts = g.right.texts;
  };
  whole = record { clusters = g.whole.clusters; keys = g.whole.keys; versions = g.whole.versions; kinds = g.whole.kinds; words = g.whole.words; order = g.whole.order; lengths = g.whole.lengths };
}

kept-length : (x : Request) (m : List ℕ) → length (keeping x m).kept ≡ length x.kept
unfolding keeping
kept-length x m = length-store x.kept 0 m

ended-length : (x : Request) (stage status : ℕ) → length (ended_as x stage status).kept ≡ length x.kept
unfolding ended_as
ended-length x stage status = refl

module _ (page : List ℕ) (s : CacheState) (v : ValidCache page s) where
  -- a read that is open has an exchange
  reads-open : s.asked.stage ≡ reading → is_open s.asked.stage ≡ true
  unfolding is_open
  reads-open q = rw q refl

  open-right : is_open s.asked.stage ≡ true → open_right s.asked ≡ true
  open-right o = rw o at v.asked.sent

  open-exchange : s.asked.stage ≡ reading → s.asked.exchange ≡ 0 → ⊥
  unfolding open_right
  open-exchange q z =
      false≢true (sym (ap not (eq-eqb s.asked.exchange 0 z)) ∙ left (not (eqb s.asked.exchange 0)) _ (open-right (reads-open q)))

  -- a report that is awaited is that of a read
  report-awaited : (e : Fields) → awaited s.asked e ≡ true → eqb e.opcode status_opcode ≡ false → eqb e.opcode report_opcode ≡ true → s.asked.stage ≡ reading
  unfolding awaited opcode_awaited
  report-awaited e a n y =
      let b = right (is_open s.asked.stage) _ a in
      let c = right (eqb e.exchange s.asked.exchange) _ b in
      let d = right (eqb e.turn s.asked.turn) _ c in
      eqb-true s.asked.stage reading (rw (n, y) at d)

  ended-valid : (code : ℕ) → ValidCache page (ended_with s code).state
  unfolding ended_with
  ended-valid code = pick-elim (λ (o : Silent). ValidCache page o.state) (ltb code 256) _ _ (λ _. done) (λ _. v)
    where
      done : ValidCache page (record { held = s.held; asked = ended_as s.asked with_status code })
      done = record { held = v.held; asked = ended-right s.asked with_status code (omega arith) closed-status v.asked; kept = ended-length s.asked with_status code ∙ v.kept }

  status-valid : (payload : List ℕ) → ValidCache page (by_status s payload).state
  unfolding by_status
  status-valid payload = go (response_in payload)
    where
      go : (o : Option ℕ) → ValidCache page (status_taken s o).state
      go None = v
      go (Some code) = ended-valid code

  answer-valid : (payload : List ℕ) → ValidCache page (by_answer s payload).state
  unfolding by_answer
  answer-valid payload = go (answered_in payload)
    where
      go : (o : Option Answer) → ValidCache page (answer_taken s o).state
      go None = v
      go (Some a) = pick-elim (λ (o : Silent). ValidCache page o.state) (of_write s.asked a.path) _ _ (λ _. ended-valid a.status.code) (λ _. v)

  -- a part, of a read
  part-valid : s.asked.stage ≡ reading → (payload : List ℕ) → Holds (takes_part page s payload)
  unfolding takes_part goes_on
  part-valid q payload = go (part_in payload)
    where
      good : Good (page_all payload s.held page (blocks_in payload)) (held_all payload s.held (blocks_in payload))
      good = part_right payload page s.held v.held (blocks_in payload)

      more : Holds (goes_on (held_all payload s.held (blocks_in payload)) s.asked (page_all payload s.held page (blocks_in payload)))
      more = record {
        held = good;
        asked = keeping-right (next_awaited s.asked) v.asked.used v.asked.exchange v.asked.unknown v.asked.stage (open-exchange q) (λ z. omega (arith, z)) (λ z. absurd (omega (arith, q, z))) (success-sized cache_edition s.asked.exchange s.asked.turn);
        kept = kept-length (next_awaited s.asked) (success_message cache_edition s.asked.exchange s.asked.turn) ∙ v.kept;
      }

      last : Holds (ends (held_all payload s.held (blocks_in payload)) s.asked (page_all payload s.held page (blocks_in payload)))
      last = record {
        held = primed-good (page_all payload s.held page (blocks_in payload)) (held_all payload s.held (blocks_in payload)) good;
        asked = ended-right s.asked last_part 0 (omega arith) closed-part v.asked;
        kept = ended-length s.asked last_part 0 ∙ v.kept;
      }

      go : (o : Option (PartOf ℕ)) → Holds (part_taken page s payload o)
      go None = v
      go (Some p) =
          pick-elim Holds (past_turns p.more s.asked.turn) _ _ (λ _. v)
          (λ _. pick-elim Holds (eqb (judged_all payload (record { number = 0; held = s.held }) (blocks_in payload)).number 0) _ _
          (λ _. pick-elim Holds (eqb p.more 1) _ _ (λ _. more) (λ _. last)) (λ _. v))

  takes-valid : (e : Fields) → awaited s.asked e ≡ true → (payload : List ℕ) → Holds (takes page s e.opcode payload)
  unfolding takes
  takes-valid e a payload =
      pick-elim Holds (eqb e.opcode status_opcode) _ _ (λ _. status-valid payload)
      (λ n. pick-elim Holds (eqb e.opcode report_opcode) _ _ (λ y. part-valid (report-awaited e a n y) payload) (λ _. answer-valid payload))

  -- A MESSAGE, any bytes, with any buffer
  pub received-kept : (m : List ℕ) (room : ℕ) → Holds (received page s m room)
  unfolding received
  received-kept m room =
      pick-elim Holds (cache_right page s) _ _
      (λ _. pick-elim Holds (ltb room max_message) _ _ (λ _. v) (λ _. go (envelope_in m))) (λ _. v)
    where
      go : (e : (Option Fields)) → Holds (in_envelope page s m e)
      go None = v
      go (Some e) =
          pick-elim Holds (leb (length m) max_message && for_cache e.edition e.opcode) _ _
          (λ _. pick-elim Holds (awaited s.asked e) _ _ (λ a. takes-valid e a (drop envelope_length m)) (λ _. v)) (λ _. v)
