-- A CACHE AS IT IS LENT: an array for each column of what it holds, the counts and the newest request in words, the newest message in bytes.
use Rattle.std.specs.Prelude.{Bool, ◌&&◌, List, [], ◌∷◌, ℕ, ◌^◌, ◌<◌, eqb, ltb, leb, get_or}
use Rattle.base_octets.specs.Store.{store}
use Rattle.tlv_reader.specs.Octet.{pick}
use Rattle.cache_entries.specs.declared.Cached.{Cached}
use Rattle.cache_entries.specs.Entries.{held_of}
use Rattle.cache_state.specs.declared.Request.{Request}
use Rattle.cache_state.specs.declared.CacheState.{CacheState}
use Rattle.cache_state.specs.declared.CacheStanding.{CacheStanding}

abbrev pub asked_size : ℕ
asked_size = 16

abbrev pub word : List ℕ → ℕ → ℕ
word w i = get_or w i 0

-- words 0 to 12; what they say goes by value
unfoldable pub standing_in : List ℕ → CacheStanding
standing_in w =
    record {
      cluster_count = word w 0;
      count = word w 1;
      primed = word w 2;
      used = word w 3;
      exchange = word w 4;
      stage = word w 5;
      turn = word w 6;
      status = word w 7;
      endpoint = word w 8;
      cluster = word w 9;
      attribute = word w 10;
      unknown = word w 11;
      len = word w 12;
    }

unfoldable pub standing_words : CacheStanding → List ℕ
standing_words t =
    t.cluster_count ∷ t.count ∷ t.primed ∷ t.used ∷ t.exchange ∷ t.stage ∷ t.turn ∷ t.status ∷ t.endpoint ∷ t.cluster ∷ t.attribute ∷ t.unknown
    ∷ t.len ∷ []

-- numbers in their widths; words 13 to 15 are spare. What breaks this is no cache's
unfoldable pub words_right : List ℕ → Bool
words_right w =
    leb (word w 2) 1
    && (ltb (word w 6) (2 ^ 16)
    && (ltb (word w 7) 256
    && (ltb (word w 8) (2 ^ 16)
    && (ltb (word w 9) (2 ^ 32) && (ltb (word w 10) (2 ^ 32) && (eqb (word w 13) 0 && (eqb (word w 14) 0 && eqb (word w 15) 0)))))))

-- ---- THE STATE that is lent

abbrev pub request_of : CacheStanding → List ℕ → Request
request_of t kept =
    record {
      used = t.used;
      exchange = t.exchange;
      stage = t.stage;
      turn = t.turn;
      status = t.status;
      endpoint = t.endpoint;
      cluster = t.cluster;
      attribute = t.attribute;
      unknown = t.unknown;
      kept = kept;
      len = t.len;
    }

abbrev pub held_in : List ℕ → List ℕ → List ℕ → List ℕ → List ℕ → List ℕ → List ℕ → CacheStanding → Cached
held_in clusters keys versions kinds words order lengths t =
    held_of clusters keys versions kinds words order lengths t.cluster_count t.count (eqb t.primed 1)

abbrev pub state_with : List ℕ → List ℕ → List ℕ → List ℕ → List ℕ → List ℕ → List ℕ → CacheStanding → List ℕ → CacheState
state_with clusters keys versions kinds words order lengths t kept =
    record { held = held_in clusters keys versions kinds words order lengths t; asked = request_of t kept }

abbrev pub state_in : List ℕ → List ℕ → List ℕ → List ℕ → List ℕ → List ℕ → List ℕ → List ℕ → List ℕ → CacheState
state_in clusters keys versions kinds words order lengths asked kept =
    state_with clusters keys versions kinds words order lengths (standing_in asked) kept

-- what a state says in words
abbrev pub standing_of : CacheState → CacheStanding
standing_of s =
    record {
      cluster_count = s.held.cluster_count;
      count = s.held.count;
      primed = pick s.held.primed 1 0;
      used = s.asked.used;
      exchange = s.asked.exchange;
      stage = s.asked.stage;
      turn = s.asked.turn;
      status = s.asked.status;
      endpoint = s.asked.endpoint;
      cluster = s.asked.cluster;
      attribute = s.asked.attribute;
      unknown = s.asked.unknown;
      len = s.asked.len;
    }

-- a state stored over the words of another; spare words stay, and so do words that are no cache's
unfoldable pub put_state : List ℕ → CacheState → List ℕ
put_state old s = pick (words_right old) (store old 0 (standing_words (standing_of s))) old

-- a state whose numbers have their widths, so that its words are a cache's
pub record Narrow (s : CacheState) : Type 0 where
  pub turn : s.asked.turn < 2 ^ 16
  pub status : s.asked.status < 256
  pub endpoint : s.asked.endpoint < 2 ^ 16
  pub cluster : s.asked.cluster < 2 ^ 32
  pub attribute : s.asked.attribute < 2 ^ 32
