-- A VALID SERVER STAYS VALID: a local change and a received message, whatever they are, leave a server that keeps the rules.
use mathlib.Core.Path.{◌≡◌, subst, sym}
use mathlib.Core.Bool.{true}
use mathlib.Core.List.{List}
use Prim.Native.Nat.{ℕ, ◌<◌}
use native.Mathlib.Omega.{arith}
use lib.Dec.{eqb}
use Rattle.tlv_reader.specs.declared.Value.{Value}
use Rattle.tlv_reader.proofs.Picks.{pick-elim}
use Rattle.im_envelope.specs.declared.Fields.{Fields}
use Rattle.im_requests.specs.Write.{write_in, write_read}
use Rattle.node_kinds.specs.Stored.{Sized}
use Rattle.node_schema.specs.Rules.{Rules}
use Rattle.node_schema.proofs.RulesLaws.{well-formed-rules}
use Rattle.node_access.specs.declared.Grants.{Grants}
use Rattle.im_exchange.specs.declared.Step.{Step}
use Rattle.im_exchange.specs.declared.Step.TheVariants.{Silence, Begin, Repeat, Next, Close}
use Rattle.im_exchange.specs.Rules.{nothing}
use Rattle.server_writes.specs.Offer.{HeldValues, changed}
use Rattle.server_writes.specs.Entry.{held_after}
use Rattle.server_writes.proofs.HeldLaws.{Right, changed-keeps, writes-keep}
use Rattle.server_replies.specs.declared.ExchangeRow.{ExchangeRow}
use Rattle.server_replies.specs.Server.{ServerState, Server, Caller, ServerReaction, held_by, state_with, with_row, with_state}
use Rattle.server_replies.specs.Row.{row_right, next_part}
use Rattle.server_replies.specs.Refusal.{write_refusal}
use Rattle.server_replies.specs.Begin.{once, entries_of, response_to, read_begun, write_begun, refusal_of}
use Rattle.server_replies.proofs.KeptLaws.{next-right, read_right, write-right}
use Rattle.server_replies.proofs.RowLaws.{row-right, right-row, served-some, promised-served}
use Rattle.im_writer.specs.Envelope.{exchange_limit}
use Rattle.im_exchange.specs.declared.Action.{Action}
use Rattle.im_exchange.specs.declared.Action.TheVariants.{Status, Read, Write, Other}
use Rattle.server.specs.Start.{altered_by}
use Rattle.server.specs.Receive.{closing, reacted, received}
use Rattle.server.specs.Valid.{ValidServer}
use Rattle.server.proofs.ServerLaws.{RightServer, server-right, right-server, schema-of}
use Rattle.server.proofs.StartLaws.{altered-right}
use Rattle.server.specs.Promise.{Taken}
use Rattle.server.proofs.ReceivedLaws.{received-holds}

-- a write keeps what is held right
write_keeps : (s : Server) → Rules s.schema → Right s.schema s.defaults (held_by s.state) → (g : Grants) (exchange : ℕ) (payload : List ℕ) → Right s.schema s.defaults (held_by (write_begun s g exchange payload))
unfolding write_begun
write_keeps s rules r g exchange payload =
    let q = write_read (write_in payload) in
    pick-elim (λ (u : ServerState). Right s.schema s.defaults (held_by u)) (eqb (write_refusal q) 0)
    (state_with (held_after s.schema g s.defaults payload (held_by s.state) (entries_of q)) (once s.state.row exchange (response_to s g exchange payload q)))
    (with_row s.state (once s.state.row exchange (refusal_of exchange (write_refusal q))))
    (λ _. writes-keep s.schema s.defaults rules (held_by s.state) r g payload (entries_of q)) (λ _. r)

closing-right : (x : ExchangeRow) → row_right x ≡ true → (x.progress.next ≡ nothing → ⊥) → row_right (closing x) ≡ true
closing-right x h some =
    let r = row-right x h in
    let (served, f) = promised-served x.progress x.len r.served some in
    right-row (closing x) (record { exchange = r.exchange; turn = r.turn; next = r.next; closed = omega arith; asked = r.asked; phase = r.phase; path = r.path; index = r.index; sent = r.sent; kept = r.kept; served = served-some _ x.len served f })

module _ (s : Server) (valid : ValidServer s) where
  parts : RightServer s
  parts = server-right s valid.right

  rules : Rules s.schema
  rules = (well-formed-rules s.schema).0 (schema-of s parts)

  held-right : Right s.schema s.defaults (held_by s.state)
  held-right = record { whole = valid.whole; right = parts.values }

  -- with what is held and the row replaced by right ones
  moved : (u : ServerState) → Right s.schema s.defaults (held_by u) → row_right u.row ≡ true → ValidServer (with_state s u)
  moved u r h =
      record {
        whole = r.whole;
        right = right-server (with_state s u) (record { plan = parts.plan; values = r.right; row = h });
      }

  with-row : (x : ExchangeRow) → row_right x ≡ true → ValidServer (with_state s (with_row s.state x))
  with-row x = moved (with_row s.state x) held-right

  -- A LOCAL CHANGE
  pub change-kept : (e c a : ℕ) (src : List ℕ) (new : Value) → Sized new → ValidServer (with_state s (altered_by s e c a src new).state)
  change-kept e c a src new sized =
      let h : HeldValues = held_by s.state in
      let k = (changed s.schema s.defaults h e c a src new).held in
      subst (λ (x : ServerReaction). ValidServer (with_state s x.state)) (sym (altered-right s e c a src new valid.right))
      (moved (state_with k s.state.row) (changed-keeps s.schema s.defaults rules h held-right e c a src new sized) parts.row)

  -- what a message gets
  reacted-kept : (g : Grants) (e : Fields) → e.exchange < exchange_limit → (payload : List ℕ) (action : Action) (step : Step) → Taken s.state.row.progress e.exchange step → ValidServer (with_state s (reacted s g e payload action step).state)
  unfolding reacted
  reacted-kept g e below payload action Silence t = valid
  reacted-kept g e below payload Read Begin t = with-row (read_begun s g e.exchange payload) (read_right s g e.exchange below (λ z. omega arith) parts.row payload)
  reacted-kept g e below payload Write Begin t =
      moved (write_begun s g e.exchange payload) (write_keeps s rules held-right g e.exchange payload) (write-right s g e.exchange below (λ z. omega arith) parts.row payload)
  reacted-kept g e below payload Status Begin t = valid
  reacted-kept g e below payload Other Begin t = valid
  reacted-kept g e below payload action Repeat t = valid
  reacted-kept g e below payload action Next t = with-row (next_part s g) (next-right s g parts.row t.0 t.1)
  reacted-kept g e below payload action Close t = with-row (closing s.state.row) (closing-right s.state.row parts.row t)

  -- A MESSAGE, any bytes from anyone, with any access table and buffer
  pub received-kept : (c : Caller) (m : List ℕ) (room : ℕ) → ValidServer (with_state s (received s c m room).state)
  received-kept c m room =
      received-holds (λ (x : ServerReaction). ValidServer (with_state s x.state)) s c valid valid (reacted-kept c.grants) m room (λ _. valid) valid
