-- A block sets an entry: path, version, value (RULES 7.8); refusal 7 where there is no room (RULES 6.1).
use Rattle.std.specs.Prelude.{◌≡◌, true, false, List, ℕ, ◌^◌, ◌<◌, eqb, take, drop, Some, None, Option, Ok, Err}
use Rattle.base_octets.specs.Store.{store}
use Rattle.tlv_reader.specs.declared.Value.{Value}
use Rattle.tlv_reader.specs.declared.Value.TheVariants as value
use Rattle.tlv_reader.specs.Octet.{pick}
use Rattle.node_kinds.specs.Stored.{word_of, Sized}
use Rattle.cache_entries.specs.declared.Cached.{Cached}
use Rattle.cache_entries.specs.Limits.{null_kind, boolean_kind, unsigned_kind, signed_kind, float_kind, text_kind}
use Rattle.cache_entries.specs.Entries.{cluster_word, key_word, place_start}
use Rattle.cache_entries.specs.Texts.{text_place}
use Rattle.cache_entries.specs.Values.{usable_in, long_v}
use Rattle.cache_entries.specs.Valid.{ColumnsSized, RightHeld}
use Rattle.cache_entries.specs.Set.{cluster_place, entry_place, with_cluster, with_entry}
use Rattle.cache_report.specs.declared.block.NewEntry.{NewEntry}
use Rattle.cache_report.specs.Block.{Judgement}
use Rattle.cache_report.specs.declared.block.Unfit.TheVariants.{Long, Unusable}

-- where an entry of the cluster that goes to k goes, and where an item goes
abbrev pub at_entry : ℕ → Option ℕ → Option (ℕ × ℕ)
at_entry k (Some i) = Some (k, i)
at_entry k None = None

unfoldable pub entry_position : Cached → ℕ → ℕ → Option (ℕ × ℕ)
entry_position c k attribute = at_entry k (entry_place c (key_word k attribute))

abbrev pub at_cluster : Cached → ℕ → Option ℕ → Option (ℕ × ℕ)
at_cluster c attribute (Some k) = entry_position c k attribute
at_cluster c attribute None = None

unfoldable pub position_of : Cached → NewEntry → Option (ℕ × ℕ)
position_of c x = at_cluster c x.attribute (cluster_place c (cluster_word x.endpoint x.cluster))

-- the kind under which a value is kept
unfoldable pub kind_v : Value → ℕ
kind_v value.Null = null_kind
kind_v (value.Boolean b) = boolean_kind
kind_v (value.Unsigned n) = unsigned_kind
kind_v (value.Signed z) = signed_kind
kind_v (value.Float n) = float_kind
kind_v (value.Text a n) = text_kind
kind_v value.Other = null_kind

-- its 64 bits; of a text at place p the place
unfoldable pub word_as : ℕ → Value → ℕ
word_as p v = pick (eqb (kind_v v) text_kind) p (word_of v)

-- the entry set
unfoldable pub with_item : Cached → ℕ → ℕ → NewEntry → Cached
with_item c k i x =
    with_entry (with_cluster c k (cluster_word x.endpoint x.cluster)) i (key_word k x.attribute) x.version (kind_v x.value) (word_as (text_place c i) x.value) (word_of x.value)

abbrev pub held_at : Cached → NewEntry → Option (ℕ × ℕ) → Cached
held_at c x (Some (k, i)) = with_item c k i x
held_at c x None = c

unfoldable pub held_for : Cached → Judgement → Cached
held_for c (Err Unusable) = c
held_for c (Err Long) = c
held_for c (Ok x) = held_at c x (position_of c x)

-- the number that a block gets
abbrev pub position_number : Option (ℕ × ℕ) → ℕ
position_number (Some (k, i)) = 0
position_number None = 7

unfoldable pub number_for : Cached → Judgement → ℕ
number_for c (Err Unusable) = 6
number_for c (Err Long) = 7
number_for c (Ok x) = position_number (position_of c x)

-- 6 before 7 before 0
unfoldable pub worse : ℕ → ℕ → ℕ
worse a b = pick (eqb a 6) 6 (pick (eqb b 6) 6 (pick (eqb a 7) 7 b))

-- a text stored at place p of the page; another value leaves the page as it is
unfoldable pub text_stored : List ℕ → List ℕ → ℕ → Value → List ℕ
text_stored s page p value.Null = page
text_stored s page p (value.Boolean b) = page
text_stored s page p (value.Unsigned n) = page
text_stored s page p (value.Signed z) = page
text_stored s page p (value.Float n) = page
text_stored s page p (value.Text a n) = store page (place_start p) (take n (drop a s))
text_stored s page p value.Other = page

abbrev pub page_at : List ℕ → Cached → List ℕ → NewEntry → Option (ℕ × ℕ) → List ℕ
page_at s c page x (Some (k, i)) = text_stored s page (text_place c i) x.value
page_at s c page x None = page

unfoldable pub page_for : List ℕ → Cached → List ℕ → Judgement → List ℕ
page_for s c page (Err Unusable) = page
page_for s c page (Err Long) = page
page_for s c page (Ok x) = page_at s c page x (position_of c x)

-- an item that is taken: its numbers have their widths, its value can be kept
pub record ItemRight (s : List ℕ) (x : NewEntry) : Type 0 where
  pub endpoint : x.endpoint < 2 ^ 16
  pub cluster : x.cluster < 2 ^ 32
  pub attribute : x.attribute < 2 ^ 32
  pub version : x.version < 2 ^ 32
  pub sized : Sized x.value
  pub usable : usable_in s x.value ≡ true
  pub short : long_v x.value ≡ false

-- what is held keeps the rules; its arrays have their lengths, as those of the code do
pub record Good (page : List ℕ) (c : Cached) : Type 0 where
  pub right : RightHeld page c
  pub whole : ColumnsSized c
