-- What receiving answers, over all its cases: no 2 from a valid server, refusals touch nothing, silence has no reply.
use Rattle.std.specs.Prelude.{Some, None, Option}
use mathlib.Core.Path.{◌≡◌, refl, sym, ◌∙◌}
use mathlib.Core.Bool.{true, false, ◌&&◌, true≢false}
use mathlib.Core.List.{List, [], ◌∷◌}
use Prim.Native.Nat.{ℕ, ◌<◌}
use native.Mathlib.Omega.{arith}
use lib.Dec.{eqb, ltb, leb}
use lib.ListN.{length, get_or, take, drop}
use Rattle.tlv_reader.specs.Octet.{pick}
use Rattle.tlv_reader.proofs.Picks.{pick-elim}
use Rattle.im_envelope.specs.declared.Fields.{Fields}
use Rattle.im_envelope.specs.Envelope.{fields_of, envelope_in}
use Rattle.im_writer.specs.Envelope.{big_number, exchange_limit}
use Rattle.node_schema.specs.Layout.{subject_word}
use Rattle.node_schema.proofs.BoolLaws.{both}
use Rattle.im_exchange.specs.declared.Step.{Step}
use Rattle.im_exchange.specs.declared.Step.TheVariants.{Silence, Begin, Repeat, Next, Close}
use Rattle.im_exchange.specs.Rules.{action_of}
use Rattle.server_replies.specs.Messages.{envelope_length, max_message}
use Rattle.server_replies.specs.Server.{ServerState, Server, Caller, ServerReaction}
use Rattle.server_replies.specs.Row.{kept_reply, next_part}
use Rattle.server_replies.specs.Begin.{read_begun, write_begun}
use Rattle.im_exchange.specs.declared.Action.{Action}
use Rattle.im_exchange.specs.declared.Action.TheVariants.{Status, Read, Write, Other}
use Rattle.server.specs.Promise.{Taken}
use Rattle.server.proofs.StepLaws.{step-taken}
use Rattle.server.specs.State.{server_right}
use Rattle.server.specs.Valid.{Untouched}
use Rattle.server.specs.Receive.{refusal, number_for, answering, silence, step_of, reacted, in_envelope, received, for_server}

-- ---- an envelope's exchange has 40 bits

abbrev Below : Option Fields → Type 0
Below None = Unit
Below (Some e) = e.exchange < exchange_limit

fields-below : (n : ℕ) → (fields_of n).exchange < exchange_limit
unfolding fields_of
fields-below n = omega arith

envelope-below : (m : List ℕ) → Below (envelope_in m)
unfolding envelope_in
envelope-below m = pick-elim Below (ltb (length m) envelope_length) None (Some (fields_of (big_number (take envelope_length m)))) (λ _. tt) (λ _. fields-below (big_number (take envelope_length m)))

-- ---- a property of what is answered: of the refusals, of silence, and of every reaction

module _ (P : ServerReaction → Type 0) (s : Server) (c : Caller) where
  module _ (no-message : P (refusal 4 s.state)) (silent : P (silence s.state)) (each : (e : Fields) → e.exchange < exchange_limit → (payload : List ℕ) (action : Action) (step : Step) → Taken s.state.row.progress e.exchange step → P (reacted s c.grants e payload action step)) where
    enveloped : (m : List ℕ) (x : (Option Fields)) → Below x → P (in_envelope s c m x)
    enveloped m None b = no-message
    enveloped m (Some e) b =
        let payload = drop envelope_length m in
        let action = action_of e.opcode in
        let r = reacted s c.grants e payload action (step_of s.state.row.progress action e payload) in
        pick-elim P (leb (length m) max_message && for_server e.edition action) (pick (eqb c.subject (get_or s.schema subject_word 0)) r (silence s.state)) (refusal 4 s.state)
        (λ _. pick-elim P (eqb c.subject (get_or s.schema subject_word 0)) r (silence s.state) (λ _. each e b payload action (step_of s.state.row.progress action e payload) (step-taken s.state.row.progress action e payload)) (λ _. silent))
        (λ _. no-message)

    pub received-holds : (m : List ℕ) (room : ℕ) → ((server_right s && c.table) ≡ false → P (refusal 2 s.state)) → P (refusal 3 s.state) → P (received s c m room)
    unfolding received
    received-holds m room broken small =
        let x = in_envelope s c m (envelope_in m) in
        pick-elim P (server_right s && c.table) (pick (ltb room max_message) (refusal 3 s.state) x) (refusal 2 s.state)
        (λ _. pick-elim P (ltb room max_message) (refusal 3 s.state) x (λ _. small) (λ _. enveloped m (envelope_in m) (envelope-below m)))
        broken

  -- every reaction answers with a reply or with silence
  reacted-holds : ((u : ServerState) (reply : List ℕ) → P (answering u reply)) → (e : Fields) (payload : List ℕ) (action : Action) (step : Step) → P (reacted s c.grants e payload action step)
  unfolding reacted
  reacted-holds f e payload action Silence = f s.state []
  reacted-holds f e payload Read Begin = f _ (kept_reply (read_begun s c.grants e.exchange payload))
  reacted-holds f e payload Write Begin = f _ (kept_reply (write_begun s c.grants e.exchange payload).row)
  reacted-holds f e payload Status Begin = f s.state []
  reacted-holds f e payload Other Begin = f s.state []
  reacted-holds f e payload action Repeat = f s.state (kept_reply s.state.row)
  reacted-holds f e payload action Next = f _ (kept_reply (next_part s c.grants))
  reacted-holds f e payload action Close = f _ []

  answers-hold : ((u : ServerState) (reply : List ℕ) → P (answering u reply)) → P (refusal 4 s.state) → (m : List ℕ) (room : ℕ) → ((server_right s && c.table) ≡ false → P (refusal 2 s.state)) → P (refusal 3 s.state) → P (received s c m room)
  answers-hold f no-message = received-holds no-message (f s.state []) (λ e b payload action step t. reacted-holds f e payload action step)

-- ---- the laws

reply-number : (reply : List ℕ) → number_for reply < 2
reply-number [] = omega arith
reply-number (x ∷ l) = omega arith

no-reply : (reply : List ℕ) → number_for reply ≡ 1 → reply ≡ []
no-reply [] h = refl
no-reply (x ∷ l) h = absurd (omega arith)

module _ (s : Server) (c : Caller) (m : List ℕ) (room : ℕ) where
  -- NEVER 2 from a right server whose access table is right
  pub never-2 : server_right s ≡ true → c.table ≡ true → (received s c m room).number ≡ 2 → ⊥
  never-2 h t =
      answers-hold (λ (x : ServerReaction). x.number ≡ 2 → ⊥) s c
      (λ _ reply q. let l : number_for reply < 2 = reply-number reply in omega (arith, l, q)) (λ q. omega (arith, q)) m room
      (λ f _. absurd (true≢false (sym (both _ _ h t) ∙ f))) (λ q. omega (arith, q))

  -- REFUSALS 2, 3 and 4 touch nothing
  pub refused-untouched : 1 < (received s c m room).number → Untouched s.state (received s c m room)
  refused-untouched =
      let still : (n : ℕ) → 1 < n → Untouched s.state (refusal n s.state) = λ n _. record { state = refl; reply = refl } in
      answers-hold (λ (x : ServerReaction). 1 < x.number → Untouched s.state x) s c
      (λ _ reply q. let l : number_for reply < 2 = reply-number reply in absurd (omega (arith, l, q))) (still 4) m room (λ _. still 2) (still 3)

  -- SILENCE has no reply: the buffer is as it was
  pub silence-untouched : (received s c m room).number ≡ 1 → (received s c m room).reply ≡ []
  silence-untouched =
      answers-hold (λ (x : ServerReaction). x.number ≡ 1 → x.reply ≡ []) s c (λ _. no-reply) (λ _. refl) m room
      (λ _ _. refl) (λ _. refl)
