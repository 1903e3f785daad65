use lib.ListN.{replicate}
use mathlib.Core.Bool.{false}
use Rattle.base_bounds.specs.Bounds.{attribute_limit}
use Rattle.node_schema.specs.Layout.{text_limit}
use Rattle.server_values.specs.Fresh.{fresh_values}
use Rattle.server_values.proofs.fresh.fresh.Goals as goal

pub returns : goal.returns
unfolding fresh_values
returns c = λ j. record { words = c.first_words.ensures j; nulls = replicate attribute_limit false; texts = replicate text_limit 0; versions = c.first_versions.ensures j }
