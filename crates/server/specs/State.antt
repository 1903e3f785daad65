-- The rules that a server keeps (refusal 2, RULES 6.1).
use Rattle.std.specs.Prelude.{Bool, ◌&&◌, List, ℕ}
use Rattle.node_plan.specs.Check.{accepted}
use Rattle.server_values.specs.Valid.{values_right}
use Rattle.server_writes.specs.Offer.{HeldValues}
use Rattle.server_replies.specs.Server.{ServerState, Server, state_with, server_with}
use Rattle.server_replies.specs.Row.{row_right, row_of}

-- what a server holds, and the server, of what is lent: the row in words, the kept reply in bytes
abbrev pub state_in : HeldValues → List ℕ → List ℕ → ServerState
state_in h row kept = state_with h (row_of row kept)

abbrev pub server_in : List ℕ → List ℕ → HeldValues → List ℕ → List ℕ → Server
server_in w defaults h row kept = server_with w defaults h (row_of row kept)

-- refusal 2: the plan is one that `start` accepts, factory texts included; the values, the page of edits and the row keep their rules
unfoldable pub server_right : Server → Bool
server_right s =
    accepted s.schema s.defaults
    && (values_right s.schema s.defaults s.state.edits s.state.values && row_right s.state.row)
