-- Receiving, case by case: the refusals in their order, then the rules.
use Rattle.std.specs.Prelude.{Some, None}
use mathlib.Core.Path.{◌≡◌, refl, sym, ap, ◌∙◌}
use mathlib.Core.Bool.{Bool, true, false, ◌&&◌}
use mathlib.Core.List.{List}
use Prim.Native.Nat.{ℕ, ◌*◌, ◌-◌, ◌≤◌, ◌<◌}
use native.Mathlib.Omega.{arith}
use borrow.Author.Tests.{eq-eqb, ne_eqb, le-leb, lt-leb, lt-ltb, le-ltb, ltb-false}
use lib.Dec.{ltb}
use lib.ListN.{length, get_or, drop, take, length-drop}
use lib.Seq.{take_all}
use Rattle.tlv_reader.specs.Octet.{pick}
use Rattle.im_envelope.specs.declared.Fields.{Fields}
use Rattle.im_envelope.specs.Envelope.{envelope_in, fields_of}
use Rattle.im_writer.specs.Envelope.{big_number, exchange_limit}
use Rattle.node_schema.specs.Layout.{subject_word, text_size}
use Rattle.node_schema.specs.Check.{well_formed, count_of_texts}
use Rattle.node_schema.proofs.BoolLaws.{left, right, by-test}
use Rattle.node_plan.specs.Check.{accepted}
use Rattle.im_exchange.specs.declared.Step.{Step}
use Rattle.server_values.specs.Valid.{values_right}
use Rattle.server_values.proofs.ValidLaws.{edits-size}
use Rattle.server_replies.specs.Messages.{envelope_length, max_message}
use Rattle.server_replies.specs.Server.{Server, Caller}
use Rattle.server_replies.specs.Row.{row_right}
use Rattle.im_exchange.specs.declared.Action.{Action}
use Rattle.im_exchange.specs.Rules.{action_of}
use Rattle.server.specs.State.{server_right}
use Rattle.server.proofs.ServerLaws.{server-right, schema-of}
use Rattle.server.specs.Receive.{refusal, silence, step_of, reacted, in_envelope, received, for_server, by_action}

-- what a valid server has
module _ (s : Server) (h : server_right s ≡ true) where
  pub right-schema : well_formed s.schema ≡ true
  right-schema = schema-of s (server-right s h)

  rest : (values_right s.schema s.defaults s.state.edits s.state.values && row_right s.state.row) ≡ true
  unfolding server_right
  rest = right (accepted s.schema s.defaults) _ h

  pub right-values : values_right s.schema s.defaults s.state.edits s.state.values ≡ true
  right-values = left _ _ rest

  pub right-row-of : row_right s.state.row ≡ true
  right-row-of = right (values_right s.schema s.defaults s.state.edits s.state.values) _ rest

  pub right-size : length s.state.edits ≡ text_size * count_of_texts s.schema
  right-size = edits-size s.schema s.defaults s.state.edits s.state.values right-values

-- an envelope's exchange has 40 bits
pub exchange-below : (m : List ℕ) {e : Fields} → envelope_in m ≡ Some e → e.exchange < exchange_limit
unfolding envelope_in fields_of
exchange-below m {e} h = go (ltb (length m) envelope_length) h
  where
    go : (b : Bool) → pick b None (Some (fields_of (big_number (take envelope_length m)))) ≡ Some e → e.exchange < exchange_limit
    go true q = let z : ◌≡◌ {A = ℕ} 0 1 = cc in absurd (omega arith)
    go false q = let f : fields_of (big_number (take envelope_length m)) ≡ e = cc in omega (arith, ap (λ (x : Fields). x.exchange) f)

-- and it has its eight octets
pub long-enough : (m : List ℕ) {e : Fields} → envelope_in m ≡ Some e → envelope_length ≤ length m
unfolding envelope_in
long-enough m {e} h = by-test (ltb (length m) envelope_length) (λ t. let q : None ≡ Some e = rw t at h in let z : ◌≡◌ {A = ℕ} 0 1 = cc in absurd (omega arith)) (λ f. ltb-false _ _ f)

module _ (s : Server) (c : Caller) (m : List ℕ) (room : ℕ) where
  pub broken : server_right s ≡ false → received s c m room ≡ refusal 2 s.state
  unfolding received
  broken h = rw h refl

  pub bad-table : server_right s ≡ true → c.table ≡ false → received s c m room ≡ refusal 2 s.state
  unfolding received
  bad-table h t = rw (h, t) refl

  module _ (h : server_right s ≡ true) (t : c.table ≡ true) where
    pub small : room < max_message → received s c m room ≡ refusal 3 s.state
    unfolding received
    small l = rw (h, t, lt-ltb room max_message l) refl

    module _ (l : max_message ≤ room) where
      opened : received s c m room ≡ in_envelope s c m (envelope_in m)
      unfolding received
      opened = rw (h, t, le-ltb room max_message l) refl

      pub short : envelope_in m ≡ None → received s c m room ≡ refusal 4 s.state
      short e = opened ∙ ap (in_envelope s c m) e

      module _ {e : Fields} (q : envelope_in m ≡ Some e) {action : Action} (d : action_of e.opcode ≡ action) where
        whole : received s c m room ≡ by_action s c m e action
        whole = opened ∙ ap (in_envelope s c m) q ∙ ap (by_action s c m e) d

        pub too_long : max_message < length m → received s c m room ≡ refusal 4 s.state
        too_long k = whole ∙ rw (lt-leb (length m) max_message k) refl

        module _ (k : length m ≤ max_message) where
          pub not-for-server : for_server e.edition action ≡ false → received s c m room ≡ refusal 4 s.state
          not-for-server o = whole ∙ rw (le-leb (length m) max_message k, o) refl

          module _ (o : for_server e.edition action ≡ true) where
            pub other-subject : (c.subject ≡ get_or s.schema subject_word 0 → ⊥) → received s c m room ≡ silence s.state
            other-subject u = whole ∙ rw (le-leb (length m) max_message k, o, ne_eqb c.subject (get_or s.schema subject_word 0) u) refl

            pub served : c.subject ≡ get_or s.schema subject_word 0 → received s c m room ≡ reacted s c.grants e (drop envelope_length m) action (step_of s.state.row.progress action e (drop envelope_length m))
            served u = whole ∙ rw (le-leb (length m) max_message k, o, eq-eqb c.subject (get_or s.schema subject_word 0) u) refl

            -- the payload and the step as the code has them
            pub served-as : c.subject ≡ get_or s.schema subject_word 0 → {p : List ℕ} {k : Step} → p ≡ drop envelope_length m → k ≡ step_of s.state.row.progress action e p → received s c m room ≡ reacted s c.grants e p action k
            served-as u {p} {k} a b =
                served u
                ∙ ap (λ (l : List ℕ). reacted s c.grants e l action (step_of s.state.row.progress action e l)) (sym a)
                ∙ ap (reacted s c.grants e p action) (sym b)

-- what follows the envelope
pub payload-of : (m : List ℕ) → take (length m - envelope_length) (drop envelope_length m) ≡ drop envelope_length m
payload-of m = take_all (length m - envelope_length) (drop envelope_length m) (omega (arith, length-drop envelope_length m))
