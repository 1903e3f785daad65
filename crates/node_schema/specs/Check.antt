-- The check of the words, as the code makes it, column by column. What it means is the record Rules; proofs/RulesLaws.antt shows that they agree.
use Rattle.std.specs.Prelude.{ℕ, zero, suc, ◌+◌, ◌*◌, ◌/◌, ◌%◌, ◌^◌, Bool, true, cond, not, ◌&&◌, ltb, List, [], ◌∷◌, ◌==◌, nat_le, nat_lt, slice_index}
use Rattle.base_bounds.specs.Bounds.{endpoint_limit, cluster_limit, attribute_limit, version_limit}
use Rattle.node_schema.specs.Layout.{text_limit, cluster_count_word, attribute_count_word, spare_column, spare_count, path_column, version_column, key_column, traits_column, half, text_kind, administer}
use Rattle.node_schema.specs.Rows.{word, cluster_row, attribute_row, count_of_clusters, count_of_attributes, is_text, rows_from}

-- p holds at each index below n
unfoldable pub every : (ℕ → Bool) → ℕ → Bool
every p zero = true
every p (suc n) = every p n && p n

-- 1 where a test holds, else 0
abbrev pub one : Bool → ℕ
one b = cond b 1 0

-- at how many indices below n p holds
unfoldable pub count : (ℕ → Bool) → ℕ → ℕ
count p zero = 0
count p (suc n) = count p n + one (p n)

-- the n words from a place on rise strictly, and the last is below limit
unfoldable pub rises : List ℕ → ℕ → ℕ → ℕ → Bool
rises w from zero limit = true
rises w from (suc n) limit = nat_lt (word w from n) limit && rises w from n (word w from n)

-- each of the n words from a place on is below limit
abbrev pub all_below : List ℕ → ℕ → ℕ → ℕ → Bool
all_below w from n limit = every (λ i. ltb (word w from i) limit) n

-- how often a list's number differs from the one before it; before the first stands `last`
unfoldable pub changes : ℕ → List ℕ → ℕ
changes last [] = 0
changes last (x ∷ l) = one (not (x == last)) + changes x l

-- no endpoint is 2^32
abbrev pub endpoint_changes : List ℕ → ℕ → ℕ
endpoint_changes w n = changes half (rows_from (λ i. (cluster_row w i).endpoint) n 0)

-- each part of the traits is one that there is
abbrev pub traits_right : ℕ → Bool
traits_right t =
    nat_le (t % 256) text_kind && (nat_le (t / 256 % 256) 1 && (nat_le (t / 2 ^ 16 % 256) administer && nat_le (t / 2 ^ 24) administer))

-- how all words are judged at once: the top bits of the four bytes, and all bits above them
abbrev pub top_bits_clear : ℕ → Bool
top_bits_clear x = nat_lt x (2 ^ 31) && (x / 2 ^ 23 % 2 == 0 && (x / 2 ^ 15 % 2 == 0 && x / 2 ^ 7 % 2 == 0))

abbrev pub all_traits : List ℕ → ℕ → Bool
all_traits w n = every (λ i. traits_right (word w traits_column i)) n

-- the rank of attribute i: how many texts stand before it
abbrev pub rank : List ℕ → ℕ → ℕ
rank w i = count (λ j. is_text (attribute_row w j)) i

abbrev pub rank_right : List ℕ → ℕ → Bool
rank_right w i = cond (is_text (attribute_row w i)) ((attribute_row w i).first == rank w i) true

abbrev pub all_ranks : List ℕ → ℕ → Bool
all_ranks w n = every (rank_right w) n

abbrev pub clusters_right : List ℕ → ℕ → Bool
clusters_right w n = rises w path_column n (2 ^ 48) && (all_below w version_column n version_limit && nat_le (endpoint_changes w n) endpoint_limit)

-- n is the number of clusters: a key below n * 2^32 is that of a cluster that is there
abbrev pub attributes_right : List ℕ → ℕ → ℕ → Bool
attributes_right w n m = rises w key_column m (n * half) && all_traits w m

-- every rule but that of the ranks
abbrev pub columns_right : List ℕ → Bool
columns_right w =
    all_below w spare_column spare_count 1
    && (nat_le (slice_index w cluster_count_word) cluster_limit
    && (nat_le (slice_index w attribute_count_word) attribute_limit
    && (clusters_right w (count_of_clusters w) && attributes_right w (count_of_clusters w) (count_of_attributes w))))

-- the ranks of the first n attributes, and how many of them are texts
abbrev pub ranked : List ℕ → ℕ → Bool
ranked w n = all_ranks w n && nat_le (rank w n) text_limit

abbrev pub ranks_right : List ℕ → Bool
ranks_right w = ranked w (count_of_attributes w)

unfoldable pub well_formed : List ℕ → Bool
well_formed w = columns_right w && ranks_right w

-- how many of the schema's attributes are texts
abbrev pub count_of_texts : List ℕ → ℕ
count_of_texts w = rank w (count_of_attributes w)
