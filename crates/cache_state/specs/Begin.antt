-- A fresh cache, beginning and resending (RULES 7.1 to 7.6), and in which order they are refused (RULES 6.6, 6.7).
use Rattle.std.specs.Prelude.{Bool, false, ◌&&◌, not, List, ℕ, ◌+◌, ◌-◌, eqb, ltb, length, take, replicate}
use Rattle.base_octets.specs.Store.{store}
use Rattle.tlv_reader.specs.declared.Value.{Value}
use Rattle.tlv_reader.specs.Octet.{pick}
use Rattle.tlv_reader.specs.Value.{datum_in}
use Rattle.cache_entries.specs.Limits.{max_entries, max_clusters, order_size, text_places}
use Rattle.cache_entries.specs.Values.{usable_in, long_v}
use Rattle.cache_messages.specs.Filters.{filters_of}
use Rattle.cache_messages.specs.Messages.{read_message, write_message}
use Rattle.im_writer.specs.Envelope.{cache_edition, exchange_limit}
use Rattle.im_envelope.specs.Envelope.{max_message}
use Rattle.im_exchange.specs.Rules.{first_reply}
use Rattle.cache_state.specs.declared.Request.{Request}
use Rattle.cache_state.specs.declared.CacheState.{CacheState}
use Rattle.cache_state.specs.State.{none_yet, reading, writing, is_open, cache_right}
use Rattle.cache_state.specs.Words.{words_right}
use Rattle.cache_state.specs.Reaction.{CacheReaction, refusal}

unfoldable pub fresh : CacheState
fresh =
    record {
      held = record {
        clusters = replicate max_clusters 0;
        cluster_count = 0;
        keys = replicate max_entries 0;
        versions = replicate max_entries 0;
        kinds = replicate max_entries 0;
        words = replicate max_entries 0;
        count = 0;
        order = replicate order_size 0;
        lengths = replicate text_places 0;
        primed = false;
      };
      asked = record {
        used = 0;
        exchange = 0;
        stage = none_yet;
        turn = 0;
        status = 0;
        endpoint = 0;
        cluster = 0;
        attribute = 0;
        unknown = 0;
        kept = replicate max_message 0;
        len = 0;
      };
    }

-- RULES 7.6: a write that is abandoned is `unknown`
unfoldable pub unknown_after : Request → ℕ
unknown_after x = pick (eqb x.stage writing) x.exchange x.unknown

-- the newest message kept
unfoldable pub keeping : Request → List ℕ → Request
keeping x message =
    record {
      used = x.used;
      exchange = x.exchange;
      stage = x.stage;
      turn = x.turn;
      status = x.status;
      endpoint = x.endpoint;
      cluster = x.cluster;
      attribute = x.attribute;
      unknown = x.unknown;
      kept = store x.kept 0 message;
      len = length message;
    }

abbrev pub kept_message : Request → List ℕ
kept_message x = take x.len x.kept

-- the next exchange, of which reply 1 is awaited
abbrev pub next_request : Request → ℕ → ℕ → ℕ → ℕ → Request
next_request x stage endpoint cluster attribute =
    record {
      used = x.used + 1;
      exchange = x.used + 1;
      stage = stage;
      turn = first_reply;
      status = 0;
      endpoint = endpoint;
      cluster = cluster;
      attribute = attribute;
      unknown = unknown_after x;
      kept = x.kept;
      len = x.len;
    }

unfoldable pub asked_as : Request → ℕ → ℕ → ℕ → ℕ → List ℕ → Request
asked_as x stage endpoint cluster attribute message = keeping (next_request x stage endpoint cluster attribute) message

abbrev pub asking : CacheState → ℕ → ℕ → ℕ → ℕ → List ℕ → CacheState
asking s stage endpoint cluster attribute message = record { held = s.held; asked = asked_as s.asked stage endpoint cluster attribute message }

abbrev pub sent : List ℕ → CacheState → ℕ → ℕ → ℕ → ℕ → List ℕ → CacheReaction
sent page s stage endpoint cluster attribute message =
    record {
      number = 0;
      state = asking s stage endpoint cluster attribute message;
      page = page;
      reply = message;
    }

-- RULES 6.6: 2, 3, then 8
abbrev pub beginning : List ℕ → CacheState → ℕ → CacheReaction → CacheReaction
beginning page s room next =
    pick (cache_right page s)
    (pick (ltb room max_message) (refusal 3 s page) (pick (ltb s.asked.used (exchange_limit - 1)) next (refusal 8 s page)))
    (refusal 2 s page)

-- BEGINNING A READ
unfoldable pub begins_read : List ℕ → CacheState → ℕ → CacheReaction
begins_read page s room =
    beginning page s room (sent page s reading 0 0 0 (read_message cache_edition (s.asked.used + 1) (filters_of s.held)))

-- refusal 10 (RULES 6.1): whether a value can be written
unfoldable pub sendable : List ℕ → Value → Bool
sendable src v = usable_in src v && not (long_v v)

-- BEGINNING A WRITE
unfoldable pub begins_write : List ℕ → CacheState → ℕ → ℕ → ℕ → Bool → ℕ → List ℕ → Value → ℕ → CacheReaction
begins_write page s e c a given version src v room =
    beginning page s room
    (pick (sendable src v) (sent page s writing e c a (write_message cache_edition (s.asked.used + 1) given version e c a (datum_in src v))) (refusal 10 s page))

-- RESENDING
unfoldable pub resends : List ℕ → CacheState → ℕ → CacheReaction
resends page s room =
    pick (cache_right page s)
    (pick (ltb room max_message) (refusal 3 s page)
    (pick (is_open s.asked.stage) (record { number = 0; state = s; page = page; reply = kept_message s.asked }) (refusal 9 s page)))
    (refusal 2 s page)

-- ---- AS THE CODE HAS IT: 2, 3 or 8 where nothing can be begun, else 0

unfoldable pub unready : List ℕ → List ℕ → CacheState → ℕ → ℕ
unready asked page s room =
    pick (words_right asked && cache_right page s)
    (pick (ltb room max_message) 3 (pick (ltb s.asked.used (exchange_limit - 1)) 0 8))
    2
