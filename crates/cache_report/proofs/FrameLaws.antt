-- Where a block goes is decided by the clusters and the keys alone.
use Rattle.std.specs.Prelude.{Some, None, Option}
use mathlib.Core.Path.{◌≡◌, refl, sym, ap, ◌∙◌}
use Prim.Native.Nat.{ℕ, ◌/◌, ◌%◌}
use native.Mathlib.Omega.{arith}
use lib.ListN.{set}
use Rattle.tlv_reader.specs.declared.Value.{Value}
use Rattle.cache_order.specs.Order.{word_at}
use Rattle.cache_entries.specs.declared.Cached.{Cached}
use Rattle.cache_entries.specs.Limits.{max_clusters, half}
use Rattle.cache_entries.specs.Entries.{cluster_word}
use Rattle.cache_entries.specs.Set.{place_for, count_with, cluster_place, entry_place, with_cluster, with_entry}
use Rattle.cache_report.specs.Entry.{at_cluster, entry_position, position_of, with_item}
use Rattle.cache_report.specs.Words.{item_words, Frame, frame_of, key_of, in_frame, position_in, frame_at}

-- a word is its two halves
pub word_back : (a : ℕ) → cluster_word (a / half) (a % half) ≡ a
word_back a = omega arith

-- THE SPOT of a block is that of its item
pub frame-position : (c : Cached) (a b : ℕ) (v : Value) → position_in (frame_of c) a b ≡ position_of c (item_words a b v)
unfolding position_in position_of cluster_place entry_position entry_place
frame-position c a b v =
    go (place_for c.cluster_count max_clusters (word_at c.clusters c.cluster_count a))
    ∙ ap (λ (w : ℕ). at_cluster c (b / half) (cluster_place c w)) (sym (word_back a))
  where
    go : (p : (Option ℕ)) → in_frame (frame_of c) b p ≡ at_cluster c (b / half) p
    go (Some k) = refl
    go None = refl

-- THE CLUSTERS AND KEYS with its entry set
pub frame-next : (c : Cached) (k i a b : ℕ) (v : Value) → frame_of (with_item c k i (item_words a b v)) ≡ frame_at (frame_of c) a b (Some (k, i))
unfolding with_item with_entry with_cluster
frame-next c k i a b v = ap with (word_back a)
  where
    with : ℕ → Frame
    with w = record {
      clusters = set c.clusters k w;
      count_of_clusters = count_with c.cluster_count k;
      keys = set c.keys i (key_of k b);
      count = count_with c.count i;
    }
