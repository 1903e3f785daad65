-- What a script has before its first line, and after a start (docs/SCRIPTS.md).
use Rattle.std.specs.Prelude.{◌≡◌, Bool, false, ℕ, eqb, Some, Ok}
use Rattle.server_replies.specs.Server.{ServerReaction}
use Rattle.script_answer.specs.Messages.{message_max, answer, no_message}
use Rattle.script_setup.specs.declared.access.Table.{Table}
use Rattle.script_setup.specs.Access.{no_entries}
use Rattle.script_server.specs.declared.ServerMemory.{ServerMemory}
use Rattle.script_server.specs.declared.ServerAnswered.{ServerAnswered}
use Rattle.script_server.specs.Lines.{no_server, StartsIn}
use Rattle.script_cache.specs.Lines.{FreshMemory}
use Rattle.script_player.specs.declared.ends.Player.{Player}
use Rattle.script_player.specs.declared.ends.Played.{Played}

-- a player with a fresh cache, and no message of either end
pub record AtFirst (given : Table) (live : Bool) (table : Table) (room : ℕ) (server : ServerMemory) (p : Player) : Type 0 where
  pub gives : p.given ≡ given
  pub lives : p.live ≡ live
  pub judges : p.table ≡ table
  pub lends : p.room ≡ room
  pub serves : p.server ≡ server
  pub caches : FreshMemory p.cache
  pub none-sent : p.sent ≡ no_message
  pub none-replied : p.replied ≡ no_message

-- before any line: no server and no cache
abbrev pub FreshPlayer : Player → Type 0
FreshPlayer p = AtFirst no_entries false no_entries message_max no_server p

-- both ends anew of what was set up, with the access table given so far; a start's number is the line's answer, and they are there where it is 0
pub record StartedOf (made : ServerAnswered) (p : Player) (r : Played) : Type 0 where
  pub player : AtFirst p.given (eqb made.outcome.number 0) p.given p.room made.server r.player
  pub answer : r.said ≡ Ok (Some (answer made.outcome.number 0))

abbrev pub StartsPlayer : ServerReaction → Player → Played → Type 0
StartsPlayer x p r = (made : ServerAnswered) × StartsIn x p.server made × StartedOf made p r
