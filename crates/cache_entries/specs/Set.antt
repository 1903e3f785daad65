-- Setting an entry: path, version and value (RULES 7.8); refusal 7 (RULES 6.1).
use Rattle.std.specs.Prelude.{List, ◌++◌, ℕ, ◌+◌, eqb, ltb, set, take, Some, None, Option}
use Rattle.tlv_reader.specs.Octet.{pick}
use Rattle.cache_order.specs.Order.{place_in, inserted}
use Rattle.cache_entries.specs.declared.Cached.{Cached}
use Rattle.cache_entries.specs.Limits.{max_entries, max_clusters, text_kind}
use Rattle.cache_entries.specs.Entries.{cluster_at, entry_at, cluster_order}

-- where something goes: where it stands, else after the last, if there is room
abbrev pub place_for : ℕ → ℕ → Option ℕ → Option ℕ
place_for count limit (Some i) = Some i
place_for count limit None = pick (ltb count limit) (Some count) None

unfoldable pub cluster_place : Cached → ℕ → Option ℕ
cluster_place c word = place_for c.cluster_count max_clusters (cluster_at c word)

unfoldable pub entry_place : Cached → ℕ → Option ℕ
entry_place c key = place_for c.count max_entries (entry_at c key)

-- one more where it stands just after the last
abbrev pub count_with : ℕ → ℕ → ℕ
count_with count i = pick (ltb i count) count (i + 1)

-- the order of the words with x at i: as it was, or i put where x belongs
unfoldable pub order_with : List ℕ → List ℕ → ℕ → ℕ → ℕ → List ℕ
order_with words order count i x = pick (ltb i count) order (inserted order (place_in words order count x) count i)

-- a cluster at k
unfoldable pub with_cluster : Cached → ℕ → ℕ → Cached
with_cluster c k word =
    record {
      clusters = set c.clusters k word;
      cluster_count = count_with c.cluster_count k;
      keys = c.keys;
      versions = c.versions;
      kinds = c.kinds;
      words = c.words;
      count = c.count;
      order = take max_entries c.order ++ order_with c.clusters (cluster_order c.order) c.cluster_count k word;
      lengths = c.lengths;
      primed = c.primed;
    }

-- an entry at i; of a text the word is its place, and its length stands there
unfoldable pub with_entry : Cached → ℕ → ℕ → ℕ → ℕ → ℕ → ℕ → Cached
with_entry c i key version kind word len =
    record {
      clusters = c.clusters;
      cluster_count = c.cluster_count;
      keys = set c.keys i key;
      versions = set c.versions i version;
      kinds = set c.kinds i kind;
      words = set c.words i word;
      count = count_with c.count i;
      order = order_with c.keys c.order c.count i key;
      lengths = pick (eqb kind text_kind) (set c.lengths word len) c.lengths;
      primed = c.primed;
    }
