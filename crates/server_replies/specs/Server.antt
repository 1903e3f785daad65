-- What a call is lent of a server, who calls, and what a call leaves: every definition of the server takes these, so that a field more is no argument more.
use Rattle.std.specs.Prelude.{Bool, List, ℕ}
use Rattle.node_access.specs.declared.Grants.{Grants}
use Rattle.server_values.specs.declared.Values.{Values}
use Rattle.server_writes.specs.Offer.{HeldValues}
use Rattle.server_replies.specs.declared.ExchangeRow.{ExchangeRow}

-- WHAT A SERVER HOLDS, and a call may change: the values, the page of edits, the exchange that it serves
pub record ServerState : Type 0 where
  pub values : Values
  pub edits : List ℕ
  pub row : ExchangeRow

-- WHAT A CALL IS LENT OF A SERVER: the schema's words and the factory page, which no call changes, and what it holds
pub record Server : Type 0 where
  pub schema : List ℕ
  pub defaults : List ℕ
  pub state : ServerState

-- WHO CALLS: the subject, what the access table grants to it, and whether that table keeps the rules
pub record Caller : Type 0 where
  pub subject : ℕ
  pub grants : Grants
  pub table : Bool

-- WHAT A CALL ANSWERS AND LEAVES: the number of RULES 6.1, what the server holds, and the reply, which may be none
pub record ServerReaction : Type 0 where
  pub number : ℕ
  pub state : ServerState
  pub reply : List ℕ

-- what storing moves of it
abbrev pub held_by : ServerState → HeldValues
held_by u = record { values = u.values; edits = u.edits }

abbrev pub state_with : HeldValues → ExchangeRow → ServerState
state_with h x = record { values = h.values; edits = h.edits; row = x }

-- with another row
abbrev pub with_row : ServerState → ExchangeRow → ServerState
with_row u x = state_with (held_by u) x

-- the server after a call
abbrev pub with_state : Server → ServerState → Server
with_state s u = record { schema = s.schema; defaults = s.defaults; state = u }

-- a server, of what is lent
abbrev pub server_with : List ℕ → List ℕ → HeldValues → ExchangeRow → Server
server_with w defaults h x = record { schema = w; defaults = defaults; state = state_with h x }
