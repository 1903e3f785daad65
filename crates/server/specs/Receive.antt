-- WHEN WHAT IS ANSWERED (RULES 3 and 6): from a state and a message to a state and a reply.
use Rattle.std.specs.Prelude.{◌≡◌, Bool, ◌&&◌, List, [], ◌∷◌, ℕ, eqb, ltb, leb, length, get_or, drop, Some, None, Option}
use Rattle.base_octets.specs.Store.{store}
use Rattle.tlv_reader.specs.Octet.{pick}
use Rattle.im_writer.specs.Envelope.{cache_edition}
use Rattle.im_envelope.specs.declared.Fields.{Fields}
use Rattle.im_envelope.specs.Envelope.{envelope_in}
use Rattle.im_requests.specs.Status.{response_in}
use Rattle.node_schema.specs.Layout.{subject_word}
use Rattle.node_access.specs.declared.Grants.{Grants}
use Rattle.im_exchange.specs.declared.Progress.{Progress}
use Rattle.im_exchange.specs.declared.Action.{Action}
use Rattle.im_exchange.specs.declared.Action.TheVariants.{Status, Read, Write, Other}
use Rattle.im_exchange.specs.declared.Step.{Step}
use Rattle.im_exchange.specs.declared.Step.TheVariants.{Silence, Begin, Repeat, Next, Close}
use Rattle.im_exchange.specs.Rules.{action_of, beginning, server_takes, on_request, on_status}
use Rattle.server_writes.specs.Offer.{HeldValues}
use Rattle.server_replies.specs.declared.ExchangeRow.{ExchangeRow}
use Rattle.server_replies.specs.Server.{ServerState, Server, Caller, ServerReaction, held_by, with_row}
use Rattle.server_replies.specs.Messages.{envelope_length, max_message}
use Rattle.server_replies.specs.Row.{kept_reply, next_part, put_row}
use Rattle.server_replies.specs.Begin.{read_begun, write_begun}
use Rattle.server.specs.declared.Outcome.{Outcome}
use Rattle.server.specs.State.{server_right}

-- a refusal leaves everything as it was
abbrev pub refusal : ℕ → ServerState → ServerReaction
refusal n u = record { number = n; state = u; reply = [] }

-- 0 and a reply, or 1 and silence
abbrev pub number_for : List ℕ → ℕ
number_for [] = 1
number_for (x ∷ l) = 0

abbrev pub answering : ServerState → List ℕ → ServerReaction
answering u reply = record { number = number_for reply; state = u; reply = reply }

abbrev pub silence : ServerState → ServerReaction
silence u = answering u []

-- with the reply that its row keeps
abbrev pub replied : ServerState → ServerReaction
replied u = answering u (kept_reply u.row)

abbrev pub closing : ExchangeRow → ExchangeRow
closing x =
    record {
      progress = record { last = x.progress.last; turn = x.progress.turn; next = x.progress.next; closed = 1 };
      request = x.request;
      place = x.place;
      kept = x.kept;
      len = x.len;
    }

-- what a message means for the exchange; silence for a malformed status (RULES 3.15)
abbrev pub by_status : Progress → Fields → Option ℕ → Step
by_status x e None = Silence
by_status x e (Some code) = on_status x e.exchange e.turn code

unfoldable pub step_of : Progress → Action → Fields → List ℕ → Step
step_of x action e payload = pick (beginning action) (on_request x e.exchange e.turn) (by_status x e (response_in payload))

module _ (s : Server) (g : Grants) (e : Fields) (payload : List ℕ) where
  -- a request that begins an exchange; a status, or what is not for a server, begins none
  abbrev pub begun : Action → ServerReaction
  begun Read = replied (with_row s.state (read_begun s g e.exchange payload))
  begun Write = replied (write_begun s g e.exchange payload)
  begun Status = silence s.state
  begun Other = silence s.state

  unfoldable pub reacted : Action → Step → ServerReaction
  reacted action Silence = silence s.state
  reacted action Begin = begun action
  reacted action Repeat = replied s.state
  reacted action Next = replied (with_row s.state (next_part s g))
  reacted action Close = silence (with_row s.state (closing s.state.row))

-- refusal 4 (RULES 6.1): the edition and the opcode (RULES 6.8)
unfoldable pub for_server : ℕ → Action → Bool
for_server edition action = eqb edition cache_edition && server_takes action

-- refusal 4 (RULES 6.1); then another subject's silence (RULES 2.18)
abbrev pub by_action : Server → Caller → List ℕ → Fields → Action → ServerReaction
by_action s c m e action =
    pick (leb (length m) max_message && for_server e.edition action)
    (pick (eqb c.subject (get_or s.schema subject_word 0))
    (reacted s c.grants e (drop envelope_length m) action (step_of s.state.row.progress action e (drop envelope_length m)))
    (silence s.state))
    (refusal 4 s.state)

-- refusal 4 for a message that is too short; else by the action that its opcode stands for
abbrev pub in_envelope : Server → Caller → List ℕ → Option Fields → ServerReaction
in_envelope s c m None = refusal 4 s.state
in_envelope s c m (Some e) = by_action s c m e (action_of e.opcode)

-- RECEIVING a message: 2, 3, 4, then the rules; `room` is the buffer's length
unfoldable pub received : Server → Caller → List ℕ → ℕ → ServerReaction
received s c m room =
    pick (server_right s && c.table) (pick (ltb room max_message) (refusal 3 s.state) (in_envelope s c m (envelope_in m))) (refusal 2 s.state)

-- a reply of so many bytes, or silence
abbrev pub outcome_with : ℕ → Outcome
outcome_with len = record { number = pick (eqb len 0) 1 0; len = len }

-- as the code has it: what it answers, and what it leaves in all that was lent: what is held, the row's words, the kept reply's bytes, the buffer
pub record ServerReacted (x : ServerReaction) (r : Outcome) (h : HeldValues) (row new_row kept old new : List ℕ) : Type 0 where
  pub number : r.number ≡ x.number
  pub len : r.len ≡ length x.reply
  pub held : h ≡ held_by x.state
  pub words : new_row ≡ put_row row x.state.row
  pub bytes : kept ≡ x.state.row.kept
  pub buffer : new ≡ store old 0 x.reply
