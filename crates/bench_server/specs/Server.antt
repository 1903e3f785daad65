-- What the functions of one step answer: the rules of a server that is called (refusal 2, RULES 6.1), and one part of a read.
use Rattle.std.specs.Prelude.{Bool, ◌&&◌, List, ℕ, replicate}
use Rattle.base_bounds.specs.Bounds.{cluster_limit}
use Rattle.node_plan.specs.Check.{accepted}
use Rattle.node_access.specs.declared.Grants.{Grants}
use Rattle.server_values.specs.declared.Values.{Values}
use Rattle.server_values.specs.Valid.{values_right}

-- a plan that `start` accepts, and values, shown texts and pages that keep their rules
unfoldable pub server_right : List ℕ → List ℕ → List ℕ → Values → Bool
server_right w defaults edits v = accepted w defaults && values_right w defaults edits v

-- Administer at every cluster
abbrev pub all_granted : Grants
all_granted = record { level = replicate cluster_limit 4 }
