-- A fresh server (refusal 11, RULES 6.1), and a local change (RULES 6.9).
use Rattle.std.specs.Prelude.{◌≡◌, false, List, [], ℕ, eqb, replicate}
use Rattle.base_bounds.specs.Bounds.{cluster_limit, attribute_limit}
use Rattle.tlv_reader.specs.declared.Value.{Value}
use Rattle.tlv_reader.specs.Octet.{pick}
use Rattle.node_plan.specs.Check.{accepted}
use Rattle.node_schema.specs.Layout.{text_limit}
use Rattle.server_values.specs.declared.Values.{Values}
use Rattle.server_values.specs.Fresh.{fresh_values}
use Rattle.server_selection.specs.Request.{row_length}
use Rattle.server_writes.specs.Offer.{HeldValues, StoreOutcome, changed}
use Rattle.server_replies.specs.declared.ExchangeRow.{ExchangeRow}
use Rattle.server_replies.specs.Server.{ServerState, Server, ServerReaction, held_by, state_with}
use Rattle.server_replies.specs.Messages.{max_message}
use Rattle.server_replies.specs.Row.{row_of}
use Rattle.server.specs.State.{server_right}
use Rattle.server.specs.Receive.{refusal}

-- RULES 3.8: a fresh row; all words of the row and all bytes for the kept reply are 0
abbrev pub fresh_words : List ℕ
fresh_words = replicate row_length 0

abbrev pub fresh_kept : List ℕ
fresh_kept = replicate max_message 0

unfoldable pub fresh_row : ExchangeRow
fresh_row = row_of fresh_words fresh_kept

-- no server: nothing is held
abbrev pub no_values : Values
no_values =
    record {
      words = replicate attribute_limit 0;
      nulls = replicate attribute_limit false;
      texts = replicate text_limit 0;
      versions = replicate cluster_limit 0;
    }

-- a fresh server with this page of edits, which no start touches
unfoldable pub started : List ℕ → List ℕ → List ℕ → ServerReaction
started w defaults edits =
    pick (accepted w defaults) (record { number = 0; state = record { values = fresh_values w; edits = edits; row = fresh_row }; reply = [] })
    (record { number = 11; state = record { values = no_values; edits = edits; row = fresh_row }; reply = [] })

-- what a local change leaves; it has no reply
abbrev pub altered : ServerState → StoreOutcome → ServerReaction
altered u o = record { number = o.code; state = state_with o.held u.row; reply = [] }

unfoldable pub altered_by : Server → ℕ → ℕ → ℕ → List ℕ → Value → ServerReaction
altered_by s e c a src new =
    pick (server_right s) (altered s.state (changed s.schema s.defaults (held_by s.state) e c a src new)) (refusal 2 s.state)

-- as the code has it
pub record Alters (x : ServerReaction) (number : ℕ) (h : HeldValues) : Type 0 where
  pub code : number ≡ x.number
  pub held : h ≡ held_by x.state

-- what is lent afterwards: a fresh server's, or what it was where there is none
abbrev pub if_made : {A : Type 0} → ServerReaction → A → A → A
if_made x new old = pick (eqb x.number 0) new old

pub record Starts (x : ServerReaction) (number : ℕ) (v new : Values) (row new_row kept new_kept : List ℕ) : Type 0 where
  pub code : number ≡ x.number
  pub held : new ≡ if_made x x.state.values v
  pub words : new_row ≡ if_made x fresh_words row
  pub bytes : new_kept ≡ if_made x fresh_kept kept
