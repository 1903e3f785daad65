-- A cache's state as it stands for the protocol's.
use Rattle.std.specs.Prelude.{◌≡◌, true, ℕ, ◌^◌, ◌<◌, eqb, get_or, Some}
use mathlib.Core.List.{List, Memᴰ}
use Rattle.tlv_reader.specs.Value.{Datum}
use Rattle.node_schema.specs.Rows.{cluster_row, count_of_clusters}
use Rattle.node_schema.specs.Rules.{path, path_at}
use Rattle.cache_entries.specs.declared.Cached.{Cached}
use Rattle.cache_entries.specs.Entries as cached
use Rattle.cache_entries.specs.Entries.{cluster_word, lookup}
use Rattle.cache_state.specs.declared.CacheState.{CacheState}
use Rattle.cache_state.specs.State.{reading, writing, is_open}
use Rattle.cache_state.specs.Begin.{kept_message}
use Rattle.proof_trip.specs.Exact.{Distinct}
use Rattle.proof_protocol.specs.Model.{Entry, Cache}
use Rattle.proof_refinement.specs.Bytes.{EntryRight, Wrote}
use Rattle.proof_cache_laws.specs.Valid.{ValidCache}

-- no entry twice
abbrev pub DistinctKeys : Cached → Type 0
DistinctKeys c = (i j : ℕ) → i < c.count → j < c.count → get_or c.keys i 0 ≡ get_or c.keys j 0 → i ≡ j

-- each cluster is one of the schema's, so that there is room for every other of the schema
abbrev pub ClusterRows : List ℕ → Cached → Type 0
ClusterRows w c =
    (k : ℕ) → k < c.cluster_count → (r : ℕ) × (r < count_of_clusters w) × (get_or c.clusters k 0 ≡ cluster_word (cluster_row w r).endpoint (cluster_row w r).cluster)

-- the protocol has an entry for this path, with this version and value
pub record Found (w : List ℕ) (entries : List (Entry Datum)) (endpoint cluster attribute : ℕ) (x : cached.CacheEntry) : Type 0 where
  pub entry : Entry Datum
  pub there : Memᴰ entry entries
  pub same : path_at w entry.place.attribute ≡ path endpoint cluster attribute
  pub version : entry.version ≡ x.version
  pub value : entry.value ≡ x.value

-- WHAT IS HELD: the same entries, path by path
pub record HeldAs (w page : List ℕ) (c : Cached) (entries : List (Entry Datum)) : Type 0 where
  pub clusters-once : Distinct c
  pub keys-once : DistinctKeys c
  pub cluster-rows : ClusterRows w c
  pub right : (e : Entry Datum) → Memᴰ e entries → EntryRight w e
  pub has : (e : Entry Datum) → Memᴰ e entries → let q = path_at w e.place.attribute in lookup c page q.endpoint q.cluster q.attribute ≡ Some (record { version = e.version; value = e.value })
  pub only : (endpoint cluster attribute : ℕ) → endpoint < 2 ^ 16 → cluster < 2 ^ 32 → attribute < 2 ^ 32 → (x : cached.CacheEntry) → lookup c page endpoint cluster attribute ≡ Some x → Found w entries endpoint cluster attribute x

-- the open write is of this path: no other write has its exchange
pub record Writing (sent : List (List ℕ)) (s : CacheState) : Type 0 where
  pub first : s.asked.turn ≡ 1
  pub own : (e c a : ℕ) → Wrote sent s.asked.exchange e c a → (s.asked.endpoint ≡ e) × (s.asked.cluster ≡ c) × (s.asked.attribute ≡ a)

pub record CacheAs (w : List ℕ) (sent : List (List ℕ)) (page : List ℕ) (s : CacheState) (c : Cache Datum) : Type 0 where
  pub valid : ValidCache page s
  pub held : HeldAs w page s.held c.entries
  pub primed : c.primed ≡ s.held.primed
  pub used : s.asked.used ≡ s.asked.exchange
  pub exchange : c.exchange ≡ s.asked.exchange
  pub reading-is : c.reading ≡ eqb s.asked.stage reading
  pub next : s.asked.stage ≡ reading → c.next ≡ s.asked.turn
  pub turn-fits : s.asked.turn < 2 ^ 16
  pub writing-is : s.asked.stage ≡ writing → Writing sent s
  pub newest : is_open s.asked.stage ≡ true → Memᴰ (kept_message s.asked) sent
