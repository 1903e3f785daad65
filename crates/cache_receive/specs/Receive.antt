-- WHAT A CACHE MAKES OF A MESSAGE (RULES 6 and 7).
use Rattle.std.specs.Prelude.{Bool, true, ◌&&◌, ◌||◌, List, [], ℕ, ◌+◌, eqb, ltb, leb, length, drop, Some, None, Option}
use Rattle.tlv_reader.specs.Octet.{pick}
use Rattle.im_blocks.specs.declared.Path.{Path}
use Rattle.im_blocks.specs.declared.Answer.{Answer}
use Rattle.im_blocks.specs.Path.{exact_p}
use Rattle.im_requests.specs.Status.{response_in}
use Rattle.im_responses.specs.Report.{PartOf, part_in}
use Rattle.im_responses.specs.Answered.{answered_in}
use Rattle.im_writer.specs.Envelope.{cache_edition}
use Rattle.im_envelope.specs.declared.Fields.{Fields}
use Rattle.im_envelope.specs.Envelope.{envelope_in, envelope_length, max_message}
use Rattle.im_exchange.specs.Rules.{status_opcode, report_opcode, write_response_opcode, first_reply, max_turn}
use Rattle.cache_entries.specs.declared.Cached.{Cached}
use Rattle.cache_report.specs.Part.{blocks_in, judged_all, held_all, page_all}
use Rattle.cache_messages.specs.Messages.{success_message}
use Rattle.cache_state.specs.declared.Request.{Request}
use Rattle.cache_state.specs.declared.CacheState.{CacheState}
use Rattle.cache_state.specs.State.{reading, writing, last_part, with_status, is_open, cache_right}
use Rattle.cache_state.specs.Reaction.{CacheReaction, refusal, Silent, begins-none, unsent}
use Rattle.cache_state.specs.Begin.{keeping}

-- refusal 4 (RULES 6.1): the edition, and the opcodes that a cache takes (RULES 6.8)
unfoldable pub for_cache : ℕ → ℕ → Bool
for_cache edition opcode =
    eqb edition cache_edition && (eqb opcode status_opcode || (eqb opcode report_opcode || eqb opcode write_response_opcode))

-- RULES 6.8: opcode 1 at turn 1, 5 in a read, 7 in a write
unfoldable pub opcode_awaited : ℕ → Fields → Bool
opcode_awaited stage e =
    pick (eqb e.opcode status_opcode) (eqb e.turn first_reply) (pick (eqb e.opcode report_opcode) (eqb stage reading) (eqb stage writing))

-- refusal 5 (RULES 6.1): what is awaited
unfoldable pub awaited : Request → Fields → Bool
awaited x e =
    is_open x.stage && (eqb e.exchange x.exchange && (eqb e.turn x.turn && opcode_awaited x.stage e))

-- the newest request, ended
unfoldable pub ended_as : Request → ℕ → ℕ → Request
ended_as x stage status =
    record {
      used = x.used;
      exchange = x.exchange;
      stage = stage;
      turn = x.turn;
      status = status;
      endpoint = x.endpoint;
      cluster = x.cluster;
      attribute = x.attribute;
      unknown = x.unknown;
      kept = x.kept;
      len = x.len;
    }

-- RULES 7.10: filled
unfoldable pub primed_as : Cached → Cached
primed_as c =
    record {
      clusters = c.clusters;
      cluster_count = c.cluster_count;
      keys = c.keys;
      versions = c.versions;
      kinds = c.kinds;
      words = c.words;
      count = c.count;
      order = c.order;
      lengths = c.lengths;
      primed = true;
    }

-- a status has 8 bits, as the readers of statuses see to
unfoldable pub ended_with : CacheState → ℕ → Silent
ended_with s code =
    pick (ltb code 256) (begins-none 1 (record { held = s.held; asked = ended_as s.asked with_status code })) (begins-none 6 s)

-- RULES 7.13: a status ends a request
abbrev pub status_taken : CacheState → Option ℕ → Silent
status_taken s None = begins-none 6 s
status_taken s (Some code) = ended_with s code

unfoldable pub by_status : CacheState → List ℕ → Silent
by_status s payload = status_taken s (response_in payload)

-- refusal 6 (RULES 6.3 g): the path of an answer is not the write's
unfoldable pub of_write : Request → Path → Bool
of_write x p =
    exact_p p && (eqb p.endpoint x.endpoint && (eqb p.cluster x.cluster && eqb p.attribute x.attribute))

abbrev pub answer_taken : CacheState → Option Answer → Silent
answer_taken s None = begins-none 6 s
answer_taken s (Some a) = pick (of_write s.asked a.path) (ended_with s a.status.code) (begins-none 6 s)

unfoldable pub by_answer : CacheState → List ℕ → Silent
by_answer s payload = answer_taken s (answered_in payload)

-- more was promised: a success for this turn, and the next one is awaited
abbrev pub next_awaited : Request → Request
next_awaited x =
    record {
      used = x.used;
      exchange = x.exchange;
      stage = x.stage;
      turn = x.turn + 1;
      status = x.status;
      endpoint = x.endpoint;
      cluster = x.cluster;
      attribute = x.attribute;
      unknown = x.unknown;
      kept = x.kept;
      len = x.len;
    }

unfoldable pub goes_on : Cached → Request → List ℕ → CacheReaction
goes_on held x page =
    record {
      number = 0;
      state = record { held = held; asked = keeping (next_awaited x) (success_message cache_edition x.exchange x.turn) };
      page = page;
      reply = success_message cache_edition x.exchange x.turn;
    }

-- the last part: the read has ended, and the cache is primed
abbrev pub ends : Cached → Request → List ℕ → CacheReaction
ends held x page =
    record { number = 1; state = record { held = primed_as held; asked = ended_as x last_part 0 }; page = page; reply = [] }

-- refusal 6 (RULES 6.3 f): no turn is left for more
unfoldable pub past_turns : ℕ → ℕ → Bool
past_turns more turn = eqb more 1 && eqb turn max_turn

-- RULES 7.9: which part is the last
abbrev pub part_taken : List ℕ → CacheState → List ℕ → Option (PartOf ℕ) → CacheReaction
part_taken page s payload None = refusal 6 s page
part_taken page s payload (Some p) =
    pick (past_turns p.more s.asked.turn) (refusal 6 s page)
    (pick (eqb (judged_all payload (record { number = 0; held = s.held }) (blocks_in payload)).number 0)
    (pick (eqb p.more 1)
    (goes_on (held_all payload s.held (blocks_in payload)) s.asked (page_all payload s.held page (blocks_in payload)))
    (ends (held_all payload s.held (blocks_in payload)) s.asked (page_all payload s.held page (blocks_in payload))))
    (refusal (judged_all payload (record { number = 0; held = s.held }) (blocks_in payload)).number s page))

unfoldable pub takes_part : List ℕ → CacheState → List ℕ → CacheReaction
takes_part page s payload = part_taken page s payload (part_in payload)

-- THE AWAITED REPLY; writes never touch entries
unfoldable pub takes : List ℕ → CacheState → ℕ → List ℕ → CacheReaction
takes page s opcode payload =
    pick (eqb opcode status_opcode) (unsent (by_status s payload) page)
    (pick (eqb opcode report_opcode) (takes_part page s payload) (unsent (by_answer s payload) page))

-- refusal 4 (RULES 6.1), then 5
abbrev pub in_envelope : List ℕ → CacheState → List ℕ → Option Fields → CacheReaction
in_envelope page s m None = refusal 4 s page
in_envelope page s m (Some e) =
    pick (leb (length m) max_message && for_cache e.edition e.opcode)
    (pick (awaited s.asked e) (takes page s e.opcode (drop envelope_length m)) (refusal 5 s page))
    (refusal 4 s page)

-- RECEIVING a message: 2, 3, 4, 5, then 6 and 7; `room` is the buffer's length
unfoldable pub received : List ℕ → CacheState → List ℕ → ℕ → CacheReaction
received page s m room =
    pick (cache_right page s) (pick (ltb room max_message) (refusal 3 s page) (in_envelope page s m (envelope_in m))) (refusal 2 s page)
