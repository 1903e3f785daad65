-- What a cache holds (RULES 7.8): a finite map from path to version and value, read off the arrays that it is lent.
use Rattle.std.specs.Prelude.{Bool, not, List, ℕ, ◌+◌, ◌*◌, ◌%◌, eqb, get_or, take, drop, Some, None, Option}
use Rattle.std.specs.Int.{w64}
use Rattle.std.proofs.Common.{to_z}
use Rattle.tlv_reader.specs.Octet.{pick}
use Rattle.tlv_reader.specs.Value.{Datum, null, boolean, unsigned, signed, float, text}
use Rattle.cache_order.specs.Order.{word_at}
use Rattle.cache_entries.specs.declared.Cached.{Cached}
use Rattle.cache_entries.specs.Limits.{max_entries, half, text_size, null_kind, boolean_kind, unsigned_kind, signed_kind, float_kind}

-- the arrays as one record
abbrev pub held_of : List ℕ → List ℕ → List ℕ → List ℕ → List ℕ → List ℕ → List ℕ → ℕ → ℕ → Bool → Cached
held_of clusters keys versions kinds words order lengths count_of_clusters count primed =
    record {
      clusters = clusters;
      cluster_count = count_of_clusters;
      keys = keys;
      versions = versions;
      kinds = kinds;
      words = words;
      count = count;
      order = order;
      lengths = lengths;
      primed = primed;
    }

-- the number of a cluster on an endpoint, and of an attribute of the cluster that stands at k
abbrev pub cluster_word : ℕ → ℕ → ℕ
cluster_word endpoint cluster = endpoint * half + cluster

abbrev pub key_word : ℕ → ℕ → ℕ
key_word k attribute = k * half + attribute

-- where a cluster stands among those that have entries, and where an entry stands
abbrev pub cluster_at : Cached → ℕ → Option ℕ
cluster_at c word = word_at c.clusters c.cluster_count word

abbrev pub entry_at : Cached → ℕ → Option ℕ
entry_at c key = word_at c.keys c.count key

-- the rising orders by which both are found: of the entries, and behind it of the clusters
abbrev pub cluster_order : List ℕ → List ℕ
cluster_order order = drop max_entries order

-- the text at place p of the page; its length stands by its place
abbrev pub place_start : ℕ → ℕ
place_start p = text_size * p

abbrev pub text_in : List ℕ → List ℕ → ℕ → List ℕ
text_in page lengths p = take (get_or lengths p 0) (drop (place_start p) page)

-- a value by its kind; null, boolean, unsigned, signed, float by its bits, text
unfoldable pub datum_by : ℕ → ℕ → List ℕ → Datum
datum_by kind word shown =
    pick (eqb kind null_kind) null
    (pick (eqb kind boolean_kind) (boolean (not (eqb word 0)))
    (pick (eqb kind unsigned_kind) (unsigned word)
    (pick (eqb kind signed_kind) (signed (to_z w64 word)) (pick (eqb kind float_kind) (float (word % half)) (text shown)))))

-- an entry: the version of its cluster when it was reported, and its value; the word of a text is its place
pub record CacheEntry : Type 0 where
  pub version : ℕ
  pub value : Datum

abbrev pub entry_of : Cached → List ℕ → ℕ → CacheEntry
entry_of c page i =
    record {
      version = get_or c.versions i 0;
      value = datum_by (get_or c.kinds i 0) (get_or c.words i 0) (text_in page c.lengths (get_or c.words i 0));
    }

abbrev pub at_entry : Cached → List ℕ → Option ℕ → Option CacheEntry
at_entry c page (Some i) = Some (entry_of c page i)
at_entry c page None = None

abbrev pub in_cluster : Cached → ℕ → Option ℕ → Option ℕ
in_cluster c attribute (Some k) = entry_at c (key_word k attribute)
in_cluster c attribute None = None

unfoldable pub path_at : Cached → ℕ → ℕ → ℕ → Option ℕ
path_at c endpoint cluster attribute = in_cluster c attribute (cluster_at c (cluster_word endpoint cluster))

-- THE MAP: what the cache has for a path
unfoldable pub lookup : Cached → List ℕ → ℕ → ℕ → ℕ → Option CacheEntry
lookup c page endpoint cluster attribute = at_entry c page (path_at c endpoint cluster attribute)
