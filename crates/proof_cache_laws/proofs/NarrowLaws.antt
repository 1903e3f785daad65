-- A MESSAGE LEAVES NUMBERS IN THEIR WIDTHS, whatever it is, so that the words of a cache stay a cache's: its own calls never lead to 2 because of them.
use Rattle.std.specs.Prelude.{Some, None, Option}
use mathlib.Core.Path.{◌≡◌}
use mathlib.Core.Bool.{true, false, ◌&&◌}
use mathlib.Core.List.{List}
use Prim.Native.Nat.{ℕ, ◌+◌, ◌^◌, ◌<◌}
use native.Mathlib.Omega.{arith}
use borrow.Author.Tests.{eqb-false, ltb-true}
use lib.Dec.{eqb, leb, ltb}
use lib.ListN.{length, drop}
use Rattle.tlv_reader.proofs.Picks.{pick-elim}
use Rattle.im_blocks.specs.declared.Answer.{Answer}
use Rattle.im_requests.specs.Status.{response_in}
use Rattle.im_responses.specs.Report.{PartOf, part_in}
use Rattle.im_responses.specs.Answered.{answered_in}
use Rattle.im_envelope.specs.Envelope.{envelope_in, envelope_length, max_message}
use Rattle.im_exchange.specs.Rules.{status_opcode, report_opcode, max_turn}
use Rattle.cache_report.specs.Part.{blocks_in, judged_all}
use Rattle.cache_entries.specs.declared.Cached.{Cached}
use Rattle.cache_state.specs.declared.CacheState.{CacheState}
use Rattle.cache_state.specs.declared.Outcome.{Outcome}
use Rattle.cache_state.specs.State.{cache_right}
use Rattle.cache_state.specs.Words.{asked_size, words_right, Narrow}
use Rattle.cache_state.specs.Reaction.{CacheReaction, Silent, of_cache, CacheReacted}
use Rattle.cache_state.specs.Begin.{keeping}
use Rattle.cache_state.proofs.NarrowLaws.{stays-cache}
use Rattle.cache_receive.specs.Receive.{for_cache, awaited, ended_as, ended_with, status_taken, by_status, of_write, answer_taken, by_answer, goes_on, past_turns, part_taken, takes_part, takes, in_envelope, received}
use Rattle.im_envelope.specs.declared.Fields.{Fields}

abbrev NarrowR : CacheReaction → Type 0
NarrowR r = Narrow r.state

abbrev NarrowS : Silent → Type 0
NarrowS o = Narrow o.state

module _ (page : List ℕ) (s : CacheState) (n : Narrow s) where
  -- a request ended with a status of 8 bits
  ended-as : (held : Cached) (stage status : ℕ) → status < 256 → Narrow (record { held = held; asked = ended_as s.asked stage status })
  unfolding ended_as
  ended-as held stage status l =
      record { turn = n.turn; status = l; endpoint = n.endpoint; cluster = n.cluster; attribute = n.attribute }

  ended-narrow : (code : ℕ) → NarrowS (ended_with s code)
  unfolding ended_with
  ended-narrow code = pick-elim NarrowS (ltb code 256) _ _ (λ t. ended-as s.held _ code (ltb-true code 256 t)) (λ _. n)

  status-narrow : (payload : List ℕ) → NarrowS (by_status s payload)
  unfolding by_status
  status-narrow payload = go (response_in payload)
    where
      go : (o : Option ℕ) → NarrowS (status_taken s o)
      go None = n
      go (Some code) = ended-narrow code

  answer-narrow : (payload : List ℕ) → NarrowS (by_answer s payload)
  unfolding by_answer
  answer-narrow payload = go (answered_in payload)
    where
      go : (o : Option Answer) → NarrowS (answer_taken s o)
      go None = n
      go (Some a) = pick-elim NarrowS (of_write s.asked a.path) _ _ (λ _. ended-narrow a.status.code) (λ _. n)

  -- where more is promised there is a turn left for it
  turn-left : (more : ℕ) → eqb more 1 ≡ true → past_turns more s.asked.turn ≡ false → s.asked.turn + 1 < 2 ^ 16
  unfolding past_turns
  turn-left more t f = omega (arith, n.turn, eqb-false s.asked.turn max_turn (rw t at f))

  goes_on_lem : (held : Cached) (after : List ℕ) → s.asked.turn + 1 < 2 ^ 16 → NarrowR (goes_on held s.asked after)
  unfolding goes_on keeping
  goes_on_lem held after l = record { turn = l; status = n.status; endpoint = n.endpoint; cluster = n.cluster; attribute = n.attribute }

  part-narrow : (payload : List ℕ) → NarrowR (takes_part page s payload)
  unfolding takes_part
  part-narrow payload = go (part_in payload)
    where
      go : (o : Option (PartOf ℕ)) → NarrowR (part_taken page s payload o)
      go None = n
      go (Some p) =
          pick-elim NarrowR (past_turns p.more s.asked.turn) _ _ (λ _. n)
          (λ f. pick-elim NarrowR (eqb (judged_all payload (record { number = 0; held = s.held }) (blocks_in payload)).number 0) _ _
          (λ _. pick-elim NarrowR (eqb p.more 1) _ _ (λ t. goes_on_lem _ _ (turn-left p.more t f)) (λ _. ended-as _ _ 0 (omega arith))) (λ _. n))

  takes-narrow : (opcode : ℕ) (payload : List ℕ) → NarrowR (takes page s opcode payload)
  unfolding takes
  takes-narrow opcode payload =
      pick-elim NarrowR (eqb opcode status_opcode) _ _ (λ _. status-narrow payload)
      (λ _. pick-elim NarrowR (eqb opcode report_opcode) _ _ (λ _. part-narrow payload) (λ _. answer-narrow payload))

  -- A MESSAGE, any bytes, with any buffer
  pub received-narrow : (m : List ℕ) (room : ℕ) → Narrow (received page s m room).state
  unfolding received
  received-narrow m room =
      pick-elim NarrowR (cache_right page s) _ _
      (λ _. pick-elim NarrowR (ltb room max_message) _ _ (λ _. n) (λ _. go (envelope_in m))) (λ _. n)
    where
      go : (e : (Option Fields)) → NarrowR (in_envelope page s m e)
      go None = n
      go (Some e) =
          pick-elim NarrowR (leb (length m) max_message && for_cache e.edition e.opcode) _ _
          (λ _. pick-elim NarrowR (awaited s.asked e) _ _ (λ _. takes-narrow e.opcode (drop envelope_length m)) (λ _. n)) (λ _. n)

-- SO THE WORDS OF A CACHE STAY A CACHE'S, as every call has it that says what it leaves
pub words-stay : (page : List ℕ) (before : CacheState) (x : CacheReaction) {r : Outcome} {after : CacheState} {asked new_asked new_page old new : List ℕ} → words_right asked ≡ true → length asked ≡ asked_size → Narrow x.state → CacheReacted (of_cache asked page before x) r after asked new_asked new_page old new → words_right new_asked ≡ true
words-stay page before x h size n k = stays-cache k h size (rw h n)
