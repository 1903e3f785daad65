-- THE EXCHANGE RULES: the tests of the code and those of the protocol are the same.
use Rattle.std.specs.Prelude.{Some}
use mathlib.Core.Path.{◌≡◌, refl}
use mathlib.Core.Bool.{Bool, true, false, not, ◌&&◌, and-false, and_assoc, and_comm, not-not}
use mathlib.Core.List.{List}
use Prim.Native.Nat.{ℕ, suc, ◌+◌}
use native.Mathlib.Omega.{arith}
use native.Mathlib.Numerals.{add-one}
use borrow.Author.Tests.{eqb-true, ne_eqb}
use lib.Dec.{eqb, ltb, leb}
use Rattle.tlv_reader.specs.Octet.{pick}
use Rattle.tlv_reader.specs.Value.{Datum}
use Rattle.im_envelope.specs.declared.Fields.{Fields}
use Rattle.im_requests.specs.Status.{response_in}
use Rattle.node_schema.proofs.BoolLaws.{left}
use Rattle.node_access.specs.declared.Grants.{Grants}
use Rattle.im_exchange.specs.declared.Progress.{Progress}
use Rattle.im_exchange.specs.declared.Action.{Action}
use Rattle.im_exchange.specs.declared.Action.TheVariants.{Status}
use Rattle.im_exchange.specs.declared.Step.TheVariants.{Silence, Begin, Repeat, Next}
use Rattle.im_exchange.specs.Rules.{status_opcode, max_turn, beginning, on_request, on_status, first_reply}
use Rattle.server_replies.specs.declared.ExchangeRow.{ExchangeRow}
use Rattle.server.specs.Receive.{step_of}
use Rattle.proof_protocol.specs.Model.{ServedExchange}
use Rattle.proof_refinement.specs.Server.{promised, RowAs}
use Rattle.im_writer.specs.Envelope.{cache_edition}

abbrev pub fields : ℕ → ℕ → ℕ → Fields
fields opcode x turn = record { edition = cache_edition; opcode = opcode; exchange = x; turn = turn }

module _ (p : Progress) (x : ℕ) where
  -- the request of the exchange whose first reply is the newest
  abbrev pub repeats : Bool
  repeats = eqb x p.last && (eqb p.turn first_reply && eqb p.closed 0)

  pub request-step : (action : Action) → beginning action ≡ true → (opcode : ℕ) (payload : List ℕ) → step_of p action (fields opcode x 0) payload ≡ pick (ltb p.last x) Begin (pick repeats Repeat Silence)
  unfolding step_of on_request
  request-step action b opcode payload = rw b refl

  -- a message of the exchange that is served
  abbrev pub own : Bool
  own = eqb x p.last && eqb p.closed 0

module _ (p : Progress) (turn : ℕ) where
  -- a success for the newest reply, and one for the reply before that
  abbrev pub newest : Bool
  newest = eqb turn p.turn && promised p

  abbrev pub earlier : Bool
  earlier = leb first_reply turn && eqb (turn + 1) p.turn

  pub success-step : (x : ℕ) (payload : List ℕ) → response_in payload ≡ Some 0 → step_of p Status (fields status_opcode x turn) payload ≡ pick (own p x) (pick newest (pick (ltb p.turn max_turn) Next Silence) (pick earlier Repeat Silence)) Silence
  unfolding step_of on_status
  success-step x payload h = rw h refl

  -- what is for the newest reply is not for the one before
  pub newest-only : newest ≡ true → earlier ≡ false
  newest-only h =
      let q : turn ≡ p.turn = eqb-true _ _ (left (eqb turn p.turn) _ h) in
      rw (ne_eqb (turn + 1) p.turn (λ z. omega arith)) (and-false (leb first_reply turn))

module _ {w : List ℕ} {g : Grants} {sent : List (List ℕ)} (y : ExchangeRow) (r : ServedExchange Datum) (h : RowAs w g sent y r) where
  pub newer-same : (x : ℕ) → ltb r.exchange x ≡ ltb y.progress.last x
  newer-same x = rw h.exchange

  pub repeats-same : (x : ℕ) → (eqb x r.exchange && eqb r.turn 1 && not r.closed) ≡ repeats y.progress x
  repeats-same x =
      rw (h.exchange, h.turn, h.closed, not-not (eqb y.progress.closed 0)) (and_assoc (eqb x y.progress.last) (eqb y.progress.turn first_reply) (eqb y.progress.closed 0))

  pub own_same : (x : ℕ) → (eqb x r.exchange && not r.closed) ≡ own y.progress x
  own_same x = rw (h.exchange, h.closed, not-not (eqb y.progress.closed 0))

  pub newest-same : (turn : ℕ) → (eqb turn r.turn && r.more) ≡ newest y.progress turn
  newest-same turn = rw (h.turn, h.more)

  pub earlier-same : (turn : ℕ) → (eqb (suc turn) r.turn && ltb 0 turn) ≡ earlier y.progress turn
  earlier-same turn = rw (h.turn, add-one) (and_comm (eqb (suc turn) y.progress.turn) (ltb 0 turn))
