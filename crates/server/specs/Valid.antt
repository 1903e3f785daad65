-- A server that keeps the rules (refusal 2, RULES 6.1), and one that a call leaves as it was.
use Rattle.std.specs.Prelude.{◌≡◌, true, []}
use Rattle.server_values.specs.Storing.{Whole}
use Rattle.server_replies.specs.Server.{ServerState, Server, ServerReaction}
use Rattle.server.specs.State.{server_right}

-- a server that keeps the rules; its arrays have their lengths, as those of the code do
pub record ValidServer (s : Server) : Type 0 where
  pub whole : Whole s.state.values
  pub right : server_right s ≡ true

-- nothing moved, and no reply was written
pub record Untouched (u : ServerState) (x : ServerReaction) : Type 0 where
  pub state : x.state ≡ u
  pub reply : x.reply ≡ []
