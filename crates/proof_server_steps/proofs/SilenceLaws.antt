-- NOTHING HAPPENS: a message of another subject, and one for whose reply there is no room, leave a server as it was and get no reply.
use Rattle.std.specs.Prelude.{Some, None, Option}
use mathlib.Core.Path.{◌≡◌, refl}
use mathlib.Core.Bool.{◌&&◌}
use mathlib.Core.List.{List}
use Prim.Native.Nat.{ℕ, ◌<◌}
use borrow.Author.Tests.{ne_eqb, lt-ltb}
use lib.Dec.{ltb, leb}
use lib.ListN.{length, get_or}
use Rattle.tlv_reader.proofs.Picks.{pick-elim}
use Rattle.im_envelope.specs.Envelope.{envelope_in}
use Rattle.node_schema.specs.Layout.{subject_word}
use Rattle.server_replies.specs.Messages.{max_message}
use Rattle.server_replies.specs.Server.{Server, Caller, ServerReaction}
use Rattle.server.specs.State.{server_right}
use Rattle.server.specs.Receive.{refusal, silence, in_envelope, received, for_server}
use Rattle.server.specs.Valid.{Untouched}
use Rattle.im_exchange.specs.Rules.{action_of}
use Rattle.im_envelope.specs.declared.Fields.{Fields}

module _ (n : Server) (c : Caller) (m : List ℕ) (room : ℕ) where
  abbrev Still : ServerReaction → Type 0
  Still = Untouched n.state

  refusal-still : (k : ℕ) → Still (refusal k n.state)
  refusal-still k = record { state = refl; reply = refl }

  -- whatever the message is, if what stands in its envelope changes nothing
  received-still : Still (in_envelope n c m (envelope_in m)) → Still (received n c m room)
  unfolding received
  received-still h =
      pick-elim Still (server_right n && c.table) _ _
      (λ _. pick-elim Still (ltb room max_message) _ _ (λ _. refusal-still 3) (λ _. h))
      (λ _. refusal-still 2)

  enveloped-still : (c.subject ≡ get_or n.schema subject_word 0 → ⊥) → (x : (Option Fields)) → Still (in_envelope n c m x)
  enveloped-still other None = refusal-still 4
  enveloped-still other (Some e) =
      rw (ne_eqb c.subject (get_or n.schema subject_word 0) other)
      (pick-elim Still (leb (length m) max_message && for_server e.edition (action_of e.opcode)) (silence n.state) (refusal 4 n.state)
      (λ _. record { state = refl; reply = refl }) (λ _. refusal-still 4))

  pub other-still : (c.subject ≡ get_or n.schema subject_word 0 → ⊥) → Still (received n c m room)
  other-still other = received-still (enveloped-still other (envelope_in m))

  pub small-still : room < max_message → Still (received n c m room)
  unfolding received
  small-still l =
      rw (lt-ltb room max_message l)
      (pick-elim Still (server_right n && c.table) (refusal 3 n.state) (refusal 2 n.state) (λ _. refusal-still 3) (λ _. refusal-still 2))
