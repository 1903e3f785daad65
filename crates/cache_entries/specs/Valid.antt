-- What a cache may hold (refusal 2, RULES 6.1): at most 256 entries of at most 32 clusters, no path
-- twice, each of a cluster that is there, with null or a value of one of the five kinds; a text has a place of its own, at most 200 bytes, and is UTF-8; a
-- page of its size.
use Rattle.std.specs.Prelude.{Bool, true, not, ◌&&◌, ◌≡◌, List, ℕ, ◌/◌, ◌^◌, ◌≤◌, eqb, ltb, leb, length, get_or}
use Rattle.tlv_reader.specs.Octet.{pick}
use Rattle.base_utf8.specs.Bytewise.{all_below}
use Rattle.base_utf8.specs.WellFormed.{well_formed}
use Rattle.node_schema.specs.Check.{every}
use Rattle.cache_order.specs.Order.{order_right}
use Rattle.cache_entries.specs.declared.Cached.{Cached}
use Rattle.cache_entries.specs.Limits.{max_entries, max_clusters, text_places, text_size, page_size, order_size, half, no_version, null_kind, boolean_kind, unsigned_kind, signed_kind, float_kind, text_kind}
use Rattle.cache_entries.specs.Entries.{cluster_order, text_in}
use Rattle.cache_entries.specs.Texts.{is_text, place_used}

-- a value's 64 bits by its kind; of a text the place is judged with the text
unfoldable pub word_right : ℕ → ℕ → Bool
word_right kind word =
    pick (eqb kind null_kind) (eqb word 0)
    (pick (eqb kind boolean_kind) (leb word 1)
    (pick (eqb kind unsigned_kind) true (pick (eqb kind signed_kind) true (pick (eqb kind float_kind) (ltb word half) (eqb kind text_kind)))))

-- an entry of a cluster that is there; its version may be none
unfoldable pub entry_right : ℕ → ℕ → ℕ → ℕ → ℕ → Bool
entry_right clusters key version kind word = ltb (key / half) clusters && (leb version no_version && word_right kind word)

abbrev pub entry_right_at : Cached → ℕ → Bool
entry_right_at c i = entry_right c.cluster_count (get_or c.keys i 0) (get_or c.versions i 0) (get_or c.kinds i 0) (get_or c.words i 0)

unfoldable pub entries_right : Cached → Bool
entries_right c = every (entry_right_at c) c.count

-- a text: at most 200 bytes of UTF-8
unfoldable pub text_right : List ℕ → List ℕ → ℕ → Bool
text_right page lengths p = leb (get_or lengths p 0) text_size && well_formed (text_in page lengths p)

-- a text entry has a place that there is, and that no text before it has
unfoldable pub text_right_at : List ℕ → List ℕ → List ℕ → List ℕ → ℕ → Bool
text_right_at page kinds words lengths i =
    pick (is_text kinds i)
    (ltb (get_or words i 0) text_places && (not (place_used kinds words i (get_or words i 0)) && text_right page lengths (get_or words i 0)))
    true

unfoldable pub texts_right : List ℕ → Cached → Bool
texts_right page c = every (text_right_at page c.kinds c.words c.lengths) c.count

-- an endpoint has 16 bits
unfoldable pub clusters_right : List ℕ → ℕ → Bool
clusters_right l n = every (λ k. ltb (get_or l k 0) (2 ^ 48)) n

-- at most 256 entries and 32 clusters, no path and no cluster twice: both stand in a rising order
unfoldable pub held_right : List ℕ → Cached → Bool
held_right page c =
    eqb (length page) page_size
    && (leb c.count max_entries
    && (leb c.cluster_count max_clusters
    && (clusters_right c.clusters c.cluster_count
    && (order_right c.clusters (cluster_order c.order) c.cluster_count
    && (order_right c.keys c.order c.count && (entries_right c && texts_right page c))))))

-- ---- AS THE CODE HAS IT

-- a stretch of the page: all of it ASCII, or valid as a whole, or neither
unfoldable pub form_of : List ℕ → ℕ
form_of l = pick (all_below 128 l) 2 (pick (well_formed l) 1 0)

-- what the types of the columns say: how long each is
pub record ColumnsSized (c : Cached) : Type 0 where
  pub clusters : length c.clusters ≡ max_clusters
  pub keys : length c.keys ≡ max_entries
  pub versions : length c.versions ≡ max_entries
  pub kinds : length c.kinds ≡ max_entries
  pub words : length c.words ≡ max_entries
  pub order : length c.order ≡ order_size
  pub lengths : length c.lengths ≡ text_places

-- the same, with each of its parts by name
pub record RightHeld (page : List ℕ) (c : Cached) : Type 0 where
  pub size : length page ≡ page_size
  pub few-entries : c.count ≤ max_entries
  pub few-clusters : c.cluster_count ≤ max_clusters
  pub clusters : clusters_right c.clusters c.cluster_count ≡ true
  pub cluster-order : order_right c.clusters (cluster_order c.order) c.cluster_count ≡ true
  pub entry-order : order_right c.keys c.order c.count ≡ true
  pub entries : entries_right c ≡ true
  pub texts : texts_right page c ≡ true
