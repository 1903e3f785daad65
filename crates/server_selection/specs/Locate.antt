-- Which attribute a path names, or the first that applies of 7F, C3 and 86 (RULES 5.6, 5.14).
use Rattle.std.specs.Prelude.{List, ℕ, Some, None, Option}
use Rattle.tlv_reader.specs.Octet.{pick}
use Rattle.node_schema.specs.Find.{find_cluster, find_attribute, has_endpoint}
use Rattle.server_selection.specs.Status.{unsupported_endpoint, unsupported_cluster, unsupported_attribute}
use Rattle.server_selection.specs.declared.locate.Located.{Located}
use Rattle.server_selection.specs.declared.locate.Located.TheVariants.{Here, Refused}

abbrev pub attribute_found : Option ℕ → Located
attribute_found (Some i) = Here i
attribute_found None = Refused unsupported_attribute

abbrev pub cluster_found : List ℕ → ℕ → Option ℕ → Located
cluster_found w a (Some k) = attribute_found (find_attribute w k a)
cluster_found w a None = Refused unsupported_cluster

unfoldable pub located : List ℕ → ℕ → ℕ → ℕ → Located
located w e c a = pick (has_endpoint w e) (cluster_found w a (find_cluster w e c)) (Refused unsupported_endpoint)
