-- A REQUEST and A SUCCESS, whatever they ask: the exchange rules decide what the server does, and the protocol decides the same.
use Rattle.std.specs.Prelude.{Some}
use mathlib.Core.Path.{◌≡◌, refl, sym, ap, ◌∙◌}
use mathlib.Core.Bool.{Bool, true, false, cond}
use mathlib.Core.List.{List, []}
use Prim.Native.Nat.{ℕ, suc, ◌≤◌, ◌<◌}
use borrow.Author.Tests.{eqb-true, lt-ltb}
use lib.Dec.{eqb, ltb}
use lib.ListN.{length, drop}
use Rattle.tlv_reader.specs.Octet.{pick}
use Rattle.tlv_reader.specs.Value.{Datum}
use Rattle.im_envelope.specs.Envelope.{envelope_in}
use Rattle.im_requests.specs.Status.{response_in}
use Rattle.node_schema.proofs.BoolLaws.{left, right}
use Rattle.node_access.specs.declared.Grants.{Grants}
use Rattle.im_exchange.specs.declared.Progress.{Progress}
use Rattle.im_exchange.specs.declared.Action.{Action}
use Rattle.im_exchange.specs.declared.Action.TheVariants.{Status}
use Rattle.im_exchange.specs.declared.Step.{Step}
use Rattle.im_exchange.specs.declared.Step.TheVariants.{Silence, Begin, Repeat, Next}
use Rattle.im_exchange.specs.Rules.{status_opcode, max_turn, action_of, beginning}
use Rattle.im_exchange.proofs.ActionLaws.{status-action, begun-taken}
use Rattle.proof_trip.specs.Begun.{envelope_as}
use Rattle.server_replies.specs.Messages.{envelope_length, max_message}
use Rattle.server_replies.specs.Server.{ServerReaction}
use Rattle.server.specs.Receive.{step_of, reacted, for_server}
use Rattle.server.proofs.ReceiveLaws.{served}
use Rattle.proof_protocol.specs.Model.{Message, success, Node, System, Store, part_of, send, send_again, serve}
use Rattle.proof_refinement.specs.Server.{promised}
use Rattle.im_writer.specs.Envelope.{cache_edition}
use Rattle.proof_server_steps.proofs.Standing.{Standing}
use Rattle.proof_server_steps.proofs.RuleLaws.{fields, repeats, request-step, own, newest, earlier, success-step, newest-only, own_same, newest-same, earlier-same}
use Rattle.proof_server_steps.proofs.ServeLaws.{cache_of, Serving, Served, Valid, silence-as, repeat-as, reaction, reacted-as}

for-status : for_server cache_edition Status ≡ true
unfolding for_server
for-status = refl

for-request : (action : Action) → beginning action ≡ true → for_server cache_edition action ≡ true
unfolding for_server
for-request = begun-taken

-- a message in its envelope, for which there is room
module _ {g : Grants} {sent : List (List ℕ)} (here : Standing g sent) (node : Node Datum) (m : List ℕ) (room : ℕ) (enough : max_message ≤ room) (fits : length m ≤ max_message) where
  open here use {server as n, system as sys, stands}

  abbrev now : Progress
  now = n.state.row.progress

  abbrev payload : List ℕ
  payload = drop envelope_length m

  opened : (opcode x turn : ℕ) → envelope_in m ≡ envelope_as cache_edition opcode x turn → {action : Action} → action_of opcode ≡ action → for_server cache_edition action ≡ true → reaction here m room ≡ reacted n g (fields opcode x turn) payload action (step_of now action (fields opcode x turn) payload)
  opened opcode x turn e d o =
      served n (cache_of n g) m room stands.valid.right refl enough e d fits o refl

  -- A REQUEST: the newest exchange is begun, or its reply is given again
  module _ (opcode x : ℕ) (found : envelope_in m ≡ envelope_as cache_edition opcode x 0) (action : Action) (meant : action_of opcode ≡ action) (b : beginning action ≡ true) (u : Message) (next : ℕ → List (Store Datum) → System Datum) where
    abbrev on : Step → ServerReaction
    on = reacted n g (fields opcode x 0) payload action

    -- what the protocol does with it, by whether the exchange is newer
    abbrev RequestAs : Bool → Type 0
    RequestAs newer = (size : ℕ) (stores : List (Store Datum)) → serve node sys u size stores ≡ cond newer (next size stores) (cond (repeats now x) (send_again sys) sys)

    pub request-served : RequestAs (ltb now.last x) → (Valid here (on Begin) → (size : ℕ) × (stores : List (Store Datum)) × Serving here (next size stores) (on Begin)) → Served here node u (reaction here m room)
    request-served same begins =
        reacted-as here m room (Served here node u) (opened opcode x 0 found meant (for-request action b) ∙ ap on (request-step now x action b opcode payload)) (go (ltb now.last x) same)
      where
        go : (t : Bool) → RequestAs t → Valid here (on (pick t Begin (pick (repeats now x) Repeat Silence))) → Served here node u (on (pick t Begin (pick (repeats now x) Repeat Silence)))
        go true e valid = let (size, stores, h) = begins valid in (size, stores, rw (e size stores) h)
        go false e valid = (0, [], rw (e 0 []) (repeat-as here (fields opcode x 0) payload action (repeats now x)))

  -- A SUCCESS: the next part, or the kept reply again
  module _ (x turn : ℕ) (found : envelope_in m ≡ envelope_as cache_edition status_opcode x turn) (status : response_in payload ≡ Some 0) where
    abbrev then : Step → ServerReaction
    then = reacted n g (fields status_opcode x turn) payload Status

    abbrev next : ℕ → System Datum
    next size = send sys (part_of sys.clusters x (suc sys.row.turn) sys.row.ahead sys.row.filters sys.row.since size)

    -- what the code and the protocol do with it, by whether it is of the exchange that is served and for its newest reply
    abbrev step : Bool → Bool → Step
    step a b = pick a (pick b (pick (ltb now.turn max_turn) Next Silence) (pick (earlier now turn) Repeat Silence)) Silence

    abbrev SuccessAs : Bool → Bool → Type 0
    SuccessAs a b = (size : ℕ) (stores : List (Store Datum)) → serve node sys (success x turn) size stores ≡ cond a (cond (earlier now turn) (send_again sys) (cond b (next size) sys)) sys

    success-same : SuccessAs (own now x) (newest now turn)
    unfolding serve
    success-same size stores =
        rw (own_same n.state.row sys.row stands.row x, earlier-same n.state.row sys.row stands.row turn, newest-same n.state.row sys.row stands.row turn)

    pub success-served : (promised now ≡ true → now.turn < max_turn)
        → (x ≡ sys.row.exchange → promised now ≡ true → Valid here (then Next) → (size : ℕ) × Serving here (next size) (then Next))
        → Served here node (success x turn) (reaction here m room)
    success-served turns goes =
        reacted-as here m room (Served here node (success x turn)) (opened status_opcode x turn found status-action for-status ∙ ap then (success-step now turn x payload status)) (go (own now x) (newest now turn) refl refl success-same)
      where
        go : (a b : Bool) → own now x ≡ a → newest now turn ≡ b → SuccessAs a b → Valid here (then (step a b)) → Served here node (success x turn) (then (step a b))
        go false b p q e valid = (0, [], rw (e 0 []) (silence-as here (fields status_opcode x turn) payload Status))
        go true false p q e valid = (0, [], rw (e 0 []) (repeat-as here (fields status_opcode x turn) payload Status (earlier now turn)))
        go true true p q e valid =
            let more : promised now ≡ true = right (eqb turn now.turn) (promised now) q in
            let l = lt-ltb now.turn max_turn (turns more) in
            let served-here : x ≡ sys.row.exchange = eqb-true x now.last (left (eqb x now.last) (eqb now.closed 0) p) ∙ sym stands.row.exchange in
            let (size, h) = goes served-here more (rw l at valid) in
            (size, [], rw (l, e size [], newest-only now turn q) h)
