-- A part as the code has it: each block in three words (interaction_report, specs/Kept), and the places that they are given.
use Rattle.std.specs.Prelude.{Bool, true, false, not, ◌&&◌, List, [], ◌∷◌, ℕ, zero, suc, ◌+◌, ◌*◌, ◌/◌, ◌%◌, ltb, set, Some, None, Option, Ok, Err}
use Rattle.tlv_reader.specs.declared.Value.{Value}
use Rattle.tlv_reader.specs.declared.Value.TheVariants as value
use Rattle.tlv_reader.specs.Octet.{pick}
use Rattle.tlv_reader.specs.Value.{value_in}
use Rattle.cache_order.specs.Order.{word_at}
use Rattle.im_responses.specs.Kept.{unshown, block_word}
use Rattle.cache_entries.specs.declared.Cached.{Cached}
use Rattle.cache_entries.specs.Limits.{max_entries, max_clusters, half}
use Rattle.cache_entries.specs.Entries.{key_word}
use Rattle.cache_entries.specs.Set.{place_for, count_with}
use Rattle.cache_report.specs.declared.block.NewEntry.{NewEntry}
use Rattle.cache_report.specs.Block.{Judgement}
use Rattle.cache_report.specs.declared.block.Unfit.TheVariants.{Long, Unusable}
use Rattle.cache_entries.specs.Values.{usable_in, long_v}
use Rattle.cache_report.specs.Entry.{at_entry, held_for, number_for, page_for, worse}
use Rattle.cache_report.specs.Part.{Judged}

-- endpoint and cluster, attribute and version
abbrev pub item_words : ℕ → ℕ → Value → NewEntry
item_words a b v = record { endpoint = a / half; cluster = a % half; attribute = b / half; version = b % half; value = v }

-- how many bytes a text has, 0 for any other value
unfoldable pub length_v : Value → ℕ
length_v value.Null = 0
length_v (value.Boolean b) = 0
length_v (value.Unsigned n) = 0
length_v (value.Signed z) = 0
length_v (value.Float n) = 0
length_v (value.Text a n) = n
length_v value.Other = 0

-- what a block gets by itself
unfoldable pub judgement_words : List ℕ → ℕ → ℕ → ℕ → Judgement
judgement_words s a b p =
    pick (ltb a unshown && usable_in s (value_in s p)) (pick (long_v (value_in s p)) (Err Long) (Ok (item_words a b (value_in s p)))) (Err Unusable)

abbrev pub judgement_at : List ℕ → List ℕ → ℕ → Judgement
judgement_at s words j = judgement_words s (block_word words j 0) (block_word words j 1) (block_word words j 2)

-- of the n blocks from j on
unfoldable pub judgements_from : List ℕ → List ℕ → ℕ → ℕ → List Judgement
judgements_from s words zero j = []
judgements_from s words (suc n) j = judgement_at s words j ∷ judgements_from s words n (j + 1)

-- 6, 7 or 0 of each, and of all: 6 before 7
abbrev pub alone : Judgement → ℕ
alone (Ok x) = 0
alone (Err Long) = 7
alone (Err Unusable) = 6

unfoldable pub alone_all : List Judgement → ℕ
alone_all [] = 0
alone_all (f ∷ l) = worse (alone f) (alone_all l)

-- the entries, the page and the number after blocks
unfoldable pub held_by : Cached → List Judgement → Cached
held_by c [] = c
held_by c (f ∷ l) = held_by (held_for c f) l

unfoldable pub page_by : List ℕ → Cached → List ℕ → List Judgement → List ℕ
page_by s c page [] = page
page_by s c page (f ∷ l) = page_by s (held_for c f) (page_for s c page f) l

unfoldable pub judged_by : Judged → List Judgement → Judged
judged_by j [] = j
judged_by j (f ∷ l) = judged_by (record { number = worse j.number (number_for j.held f); held = held_for j.held f }) l

-- WHERE EACH BLOCK GOES, by its words alone: what decides it are the clusters and the keys that there are
pub record Frame : Type 0 where
  pub clusters : List ℕ
  pub count_of_clusters : ℕ
  pub keys : List ℕ
  pub count : ℕ

abbrev pub frame_of : Cached → Frame
frame_of c = record { clusters = c.clusters; count_of_clusters = c.cluster_count; keys = c.keys; count = c.count }

abbrev pub key_of : ℕ → ℕ → ℕ
key_of k b = key_word k (b / half)

abbrev pub in_frame : Frame → ℕ → Option ℕ → Option (ℕ × ℕ)
in_frame f b (Some k) = at_entry k (place_for f.count max_entries (word_at f.keys f.count (key_of k b)))
in_frame f b None = None

unfoldable pub position_in : Frame → ℕ → ℕ → Option (ℕ × ℕ)
position_in f a b = in_frame f b (place_for f.count_of_clusters max_clusters (word_at f.clusters f.count_of_clusters a))

abbrev pub frame_at : Frame → ℕ → ℕ → Option (ℕ × ℕ) → Frame
frame_at f a b (Some (k, i)) = record {
  clusters = set f.clusters k a;
  count_of_clusters = count_with f.count_of_clusters k;
  keys = set f.keys i (key_of k b);
  count = count_with f.count i;
}
frame_at f a b None = f

abbrev pub frame_next : List ℕ → Frame → ℕ → Frame
frame_next words f j = frame_at f (block_word words j 0) (block_word words j 1) (position_in f (block_word words j 0) (block_word words j 1))

-- whether there is room for the n blocks from j on
abbrev pub has_room : Option (ℕ × ℕ) → Bool
has_room (Some (k, i)) = true
has_room None = false

unfoldable pub room_from : List ℕ → Frame → ℕ → ℕ → Bool
room_from words f zero j = true
room_from words f (suc n) j =
    has_room (position_in f (block_word words j 0) (block_word words j 1)) && room_from words (frame_next words f j) n (j + 1)

-- their places, a word for each
abbrev pub position_word : Option (ℕ × ℕ) → ℕ
position_word (Some (k, i)) = k * max_entries + i
position_word None = 0

unfoldable pub positions_from : List ℕ → Frame → ℕ → ℕ → List ℕ
positions_from words f zero j = []
positions_from words f (suc n) j =
    position_word (position_in f (block_word words j 0) (block_word words j 1)) ∷ positions_from words (frame_next words f j) n (j + 1)

-- where a word stands among the n that are held, or behind them among the m new ones
abbrev pub behind : ℕ → Option ℕ → Option ℕ
behind n (Some j) = Some (n + j)
behind n None = None

abbrev pub or_else : Option ℕ → Option ℕ → Option ℕ
or_else (Some i) g = Some i
or_else None g = g

unfoldable pub found_in : List ℕ → ℕ → List ℕ → ℕ → ℕ → Option ℕ
found_in held n new m x = or_else (word_at held n x) (behind n (word_at new m x))

-- whether a place is that of a new word
abbrev pub is_new : ℕ → Option ℕ → Bool
is_new n (Some i) = not (ltb i n)
is_new n None = false
