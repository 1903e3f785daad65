-- What a setup line makes of what is set up, by its first word.
use Rattle.std.specs.Prelude.{List, Bool, ℕ}
use Rattle.tlv_reader.specs.Octet.{pick}
use Rattle.node_kinds.specs.Stored.{equal}
use Rattle.script_lines.specs.declared.Scan.{Scan}
use Rattle.script_lines.specs.Words.{is_done}
use Rattle.script_setup.specs.Setup.{subject_name, cluster_name, subject_at, subject_set, cluster_read, cluster_line}
use Rattle.script_setup.specs.Attributes.{attribute_read, attribute_setup, attribute_texts}

-- one of these by the first word of a setup line
abbrev pub by_name : {A : Type 0} → List ℕ → A → A → A → A
by_name name subject cluster attribute = pick (equal name subject_name) subject (pick (equal name cluster_name) cluster attribute)

unfoldable pub setup_read : List ℕ → List ℕ → Scan → Bool
setup_read name line s = by_name name (is_done (subject_at line s).next) (cluster_read line s) (attribute_read line s)

unfoldable pub setup_line : List ℕ → List ℕ → Scan → List ℕ → List ℕ
setup_line name line s setup = by_name name (subject_set setup (subject_at line s)) (cluster_line line s setup) (attribute_setup line s setup)

unfoldable pub texts_line : List ℕ → List ℕ → Scan → List ℕ → List ℕ → List ℕ
texts_line name line s setup texts = by_name name texts texts (attribute_texts line s setup texts)
