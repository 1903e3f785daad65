-- Where the schema's words lie. The code has constants of the same names; the contracts hold the two together.
use Rattle.std.specs.Prelude.{ℕ, ◌+◌, ◌-◌, ◌^◌}
use Rattle.base_bounds.specs.Bounds.{cluster_limit, attribute_limit, text_bytes_limit}

-- what one text takes in the page of edits
abbrev pub text_size : ℕ
text_size = text_bytes_limit

-- how many texts a schema may have: as many as attributes, so that RULES 2.1 is not narrowed
abbrev pub text_limit : ℕ
text_limit = attribute_limit

-- the last of the five kinds, which is text, and the highest of the four privileges
abbrev pub text_kind : ℕ
text_kind = 4

abbrev pub administer : ℕ
administer = 4

-- the header's words
abbrev pub cluster_count_word : ℕ
cluster_count_word = 0

abbrev pub attribute_count_word : ℕ
attribute_count_word = 1

abbrev pub subject_word : ℕ
subject_word = 2

-- the header has 16 words; those from spare_column on are for later use
abbrev pub header_size : ℕ
header_size = 16

abbrev pub spare_column : ℕ
spare_column = 3

abbrev pub spare_count : ℕ
spare_count = header_size - spare_column

-- where each column starts: behind the header, a new one behind the last
abbrev pub path_column : ℕ
path_column = header_size

abbrev pub version_column : ℕ
version_column = path_column + cluster_limit

abbrev pub key_column : ℕ
key_column = version_column + cluster_limit

abbrev pub traits_column : ℕ
traits_column = key_column + attribute_limit

abbrev pub low_column : ℕ
low_column = traits_column + attribute_limit

abbrev pub high_column : ℕ
high_column = low_column + attribute_limit

abbrev pub first_column : ℕ
first_column = high_column + attribute_limit

-- the factory texts, by rank
abbrev pub factory_column : ℕ
factory_column = first_column + attribute_limit

abbrev pub word_count : ℕ
word_count = factory_column + text_limit

-- a path (endpoint, cluster), a key (index of the cluster's row, attribute) and a factory text (start, length) are two halves of 32 bits
abbrev pub half : ℕ
half = 2 ^ 32
