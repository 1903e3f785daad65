-- What a cache holds at most, which is what a server may have (refusal 7, RULES 6.1).
use Rattle.std.specs.Prelude.{ℕ, ◌+◌, ◌*◌, ◌^◌}
use Rattle.base_bounds.specs.Bounds.{cluster_limit, attribute_limit, text_bytes_limit, version_limit}

abbrev pub max_entries : ℕ
max_entries = attribute_limit

abbrev pub max_clusters : ℕ
max_clusters = cluster_limit

-- the page of texts: so many places of this size
abbrev pub text_places : ℕ
text_places = max_entries

abbrev pub text_size : ℕ
text_size = text_bytes_limit

abbrev pub page_size : ℕ
page_size = text_places * text_size

-- the order: a byte for each entry, then one for each cluster
abbrev pub order_size : ℕ
order_size = max_entries + max_clusters

abbrev pub half : ℕ
half = 2 ^ 32

-- the version of an entry that has none
abbrev pub no_version : ℕ
no_version = version_limit

-- the kinds of value that an entry may have
abbrev pub null_kind : ℕ
null_kind = 0

abbrev pub boolean_kind : ℕ
boolean_kind = 1

abbrev pub unsigned_kind : ℕ
unsigned_kind = 2

abbrev pub signed_kind : ℕ
signed_kind = 3

abbrev pub float_kind : ℕ
float_kind = 4

abbrev pub text_kind : ℕ
text_kind = 5
