-- Which lines the cache acts by, and its memory between the lines.
use Rattle.std.specs.Prelude.{◌≡◌, List, [], ◌∷◌, Bool, ◌||◌, ℕ, leb, replicate}
use Rattle.base_octets.specs.Store.{store}
use Rattle.tlv_reader.specs.Octet.{pick}
use Rattle.cache_state.specs.declared.CacheState.{CacheState}
use Rattle.cache_state.specs.declared.CacheStanding.{CacheStanding}
use Rattle.cache_state.specs.Words.{asked_size, standing_in, standing_words, state_in}
use Rattle.cache_state.specs.Begin as begins
use Rattle.script_lines.specs.Words.{is_one_of}
use Rattle.script_cache.specs.declared.CacheMemory.{CacheMemory}

-- read, resend, write; back, panel
abbrev pub read_name : List ℕ
read_name = 114 ∷ 101 ∷ 97 ∷ 100 ∷ []

abbrev pub resend_name : List ℕ
resend_name = 114 ∷ 101 ∷ 115 ∷ 101 ∷ 110 ∷ 100 ∷ []

abbrev pub write_name : List ℕ
write_name = 119 ∷ 114 ∷ 105 ∷ 116 ∷ 101 ∷ []

abbrev pub back_name : List ℕ
back_name = 98 ∷ 97 ∷ 99 ∷ 107 ∷ []

abbrev pub panel_name : List ℕ
panel_name = 112 ∷ 97 ∷ 110 ∷ 101 ∷ 108 ∷ []

-- whether a line begins a request
abbrev pub begins_request : List ℕ → Bool
begins_request name = is_one_of name (read_name ∷ resend_name ∷ write_name ∷ [])

-- whether the cache acts by a line
abbrev pub is_cache : List ℕ → Bool
is_cache name = begins_request name || is_one_of name (back_name ∷ panel_name ∷ [])

-- the state that a memory holds
abbrev pub state_of : CacheMemory → CacheState
state_of m = state_in m.clusters m.keys m.versions m.kinds m.words m.order m.lengths m.asked m.kept

-- a fresh cache's
pub record FreshMemory (m : CacheMemory) : Type 0 where
  pub state : state_of m ≡ begins.fresh
  pub asked-words : m.asked ≡ replicate asked_size 0

abbrev pub with_asked : CacheMemory → List ℕ → CacheMemory
with_asked m asked =
    record {
      clusters = m.clusters;
      keys = m.keys;
      versions = m.versions;
      kinds = m.kinds;
      words = m.words;
      order = m.order;
      lengths = m.lengths;
      asked = asked;
      kept = m.kept;
    }

-- a standing whose exchange numbers up to n count as used
abbrev pub used_to : CacheStanding → ℕ → CacheStanding
used_to t n =
    record {
      cluster_count = t.cluster_count;
      count = t.count;
      primed = t.primed;
      used = n;
      exchange = t.exchange;
      stage = t.stage;
      turn = t.turn;
      status = t.status;
      endpoint = t.endpoint;
      cluster = t.cluster;
      attribute = t.attribute;
      unknown = t.unknown;
      len = t.len;
    }

-- a memory whose exchange numbers up to n count as used; that never lowers them
abbrev pub used_by : CacheMemory → CacheStanding → ℕ → CacheMemory
used_by m t n = pick (leb n t.used) m (with_asked m (store m.asked 0 (standing_words (used_to t n))))

unfoldable pub used_up : CacheMemory → ℕ → CacheMemory
used_up m n = used_by m (standing_in m.asked) n
