-- The schema as lists of typed rows, decoded from its words (RULES 2). Nothing of a word is lost: two words that decode alike are equal.
use Rattle.std.specs.Prelude.{ℕ, zero, suc, ◌+◌, ◌-◌, ◌/◌, ◌%◌, ◌^◌, min, Bool, cond, List, [], ◌∷◌, ◌++◌, length, replicate, ◌==◌, nat_lt, slice_index}
use Rattle.base_bounds.specs.Bounds.{cluster_limit, attribute_limit}
use Rattle.node_schema.specs.Layout.{text_limit, cluster_count_word, attribute_count_word, path_column, version_column, key_column, traits_column, low_column, high_column, first_column, factory_column, half, text_kind}

-- word i of a column
abbrev pub word : List ℕ → ℕ → ℕ → ℕ
word w column i = slice_index w (column + i)

-- a column of n words that starts with these, filled up with 0: how a schema is laid out as words
abbrev pub column : ℕ → List ℕ → List ℕ
column n l = l ++ replicate (n - length l) 0

-- a cluster on an endpoint, with the data version that it starts with
pub record ClusterRow : Type 0 where
  pub endpoint : ℕ
  pub cluster : ℕ
  pub version : ℕ

-- an attribute: the place of its cluster among the cluster rows, its id, what it may hold, and the privileges that reading and writing it need
pub record AttributeRow : Type 0 where
  pub index_of_cluster : ℕ
  pub id : ℕ
  -- 0 boolean, 1 unsigned, 2 signed, 3 float, 4 text
  pub kind : ℕ
  -- 0 no, 1 yes
  pub nullable : ℕ
  -- 0 not readable (not writable), 1 View, 2 Operate, 3 Manage, 4 Administer
  pub read : ℕ
  pub write : ℕ
  -- by kind: lowest, highest and first value; of a text the first is its rank, and the others are not looked at
  pub low : ℕ
  pub high : ℕ
  pub first : ℕ

abbrev pub cluster_row : List ℕ → ℕ → ClusterRow
cluster_row w i =
    record {
      endpoint = word w path_column i / half;
      cluster = word w path_column i % half;
      version = word w version_column i;
    }

abbrev pub attribute_row : List ℕ → ℕ → AttributeRow
attribute_row w i =
    record {
      index_of_cluster = word w key_column i / half;
      id = word w key_column i % half;
      kind = word w traits_column i % 256;
      nullable = word w traits_column i / 256 % 256;
      read = word w traits_column i / 2 ^ 16 % 256;
      write = word w traits_column i / 2 ^ 24;
      low = word w low_column i;
      high = word w high_column i;
      first = word w first_column i;
    }

-- how many rows are in use: what the header says, at most the limit. Rows after those are not looked at.
abbrev pub count_of_clusters : List ℕ → ℕ
count_of_clusters w = min (slice_index w cluster_count_word) cluster_limit

abbrev pub count_of_attributes : List ℕ → ℕ
count_of_attributes w = min (slice_index w attribute_count_word) attribute_limit

-- the n rows from k on
unfoldable pub rows_from : {A : Type 0} → (ℕ → A) → ℕ → ℕ → List A
rows_from f zero k = []
rows_from f (suc n) k = f k ∷ rows_from f n (suc k)

-- the first i of n places filled by f, the rest with z
abbrev pub filled : {A : Type 0} → A → (ℕ → A) → ℕ → ℕ → List A
filled z f n i = rows_from f i 0 ++ replicate (n - i) z

abbrev pub clusters : List ℕ → List ClusterRow
clusters w = rows_from (cluster_row w) (count_of_clusters w) 0

abbrev pub attributes : List ℕ → List AttributeRow
attributes w = rows_from (attribute_row w) (count_of_attributes w) 0

abbrev pub is_text : AttributeRow → Bool
is_text a = a.kind == text_kind

-- the factory text of a rank: where it starts in the page of defaults, and its length. Both are 0 where no text has the rank by the limit
abbrev pub factory_word : List ℕ → ℕ → ℕ
factory_word w r = cond (nat_lt r text_limit) (word w factory_column r) 0

abbrev pub factory_start : List ℕ → ℕ → ℕ
factory_start w r = factory_word w r / half

abbrev pub factory_length : List ℕ → ℕ → ℕ
factory_length w r = factory_word w r % half
