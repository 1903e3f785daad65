-- What a fresh server holds (RULES 2.5, 2.20, 2.22): first values, given versions, texts from the factory page.
use Rattle.std.specs.Prelude.{false, List, ℕ, replicate}
use Rattle.base_bounds.specs.Bounds.{cluster_limit, attribute_limit}
use Rattle.node_schema.specs.Layout.{text_limit}
use Rattle.tlv_reader.specs.Octet.{pick}
use Rattle.node_schema.specs.Rows.{AttributeRow, cluster_row, attribute_row, count_of_clusters, count_of_attributes, is_text, filled}
use Rattle.server_values.specs.declared.Values.{Values}

-- a text's word is 0
abbrev pub start_word : AttributeRow → ℕ
start_word a = pick (is_text a) 0 a.first

abbrev pub first_words : List ℕ → List ℕ
first_words w = filled 0 (λ i. start_word (attribute_row w i)) attribute_limit (count_of_attributes w)

abbrev pub first_versions : List ℕ → List ℕ
first_versions w = filled 0 (λ i. (cluster_row w i).version) cluster_limit (count_of_clusters w)

unfoldable pub fresh_values : List ℕ → Values
fresh_values w =
    record {
      words = first_words w;
      nulls = replicate attribute_limit false;
      texts = replicate text_limit 0;
      versions = first_versions w;
    }
