-- A MESSAGE of the cache, of each kind, is served by a step of the protocol.
use mathlib.Core.Path.{◌≡◌, refl, sym, ap, ◌∙◌}
use mathlib.Core.Bool.{Bool, true}
use mathlib.Core.List.Memᴰ
use mathlib.Core.List.{List, [], Memᴰ}
use Prim.Native.Nat.{ℕ, ◌^◌, ◌≤◌, ◌<◌}
use native.Mathlib.Omega.{arith}
use lib.ListN.{length, get_or, drop}
use Rattle.base_bounds.specs.Bounds.{filter_limit}
use Rattle.tlv_reader.specs.Value.{Datum}
use Rattle.im_requests.specs.declared.VersionFilter.{VersionFilter}
use Rattle.im_requests.specs.Read.{read_in, read_read}
use Rattle.im_writer.specs.Spelling.{Each}
use Rattle.node_access.specs.declared.Grants.{Grants}
use Rattle.im_exchange.specs.declared.Action.TheVariants.{Read, Write}
use Rattle.im_exchange.specs.Rules.{read_opcode, write_opcode, max_turn}
use Rattle.im_exchange.proofs.ActionLaws.{read-action, write-action}
use Rattle.proof_round_trip.specs.Meant.{VersionFilterFits, read_answer, read_octets}
use Rattle.proof_round_trip.proofs.ReaderLaws.{read-answered}
use Rattle.cache_messages.specs.Messages.{read_message, write_message, success_message}
use Rattle.proof_cache_laws.proofs.BoundLaws.{success-sized}
use Rattle.proof_trip.proofs.BeginLaws.{after-envelope, read-envelope, write-envelope, write-taken, success-meant, success-envelope}
use Rattle.server_replies.specs.Messages.{max_message}
use Rattle.server.specs.Receive.{reacted}
use Rattle.proof_protocol.specs.Model.{Message, read, write, success, Node, store_all, written, changes_of, part_of, send, serve}
use Rattle.proof_refinement.specs.Terms.{node_of, filters_as}
use Rattle.proof_refinement.specs.Bytes.{WriteFits, MessageAs, reads, writes, succeeds}
use Rattle.im_writer.specs.Envelope.{envelope_length, cache_edition, exchange_limit}
use Rattle.proof_server_steps.proofs.Standing.{Standing}
use Rattle.proof_server_steps.proofs.SizeLaws.{read_short, write-short}
use Rattle.proof_server_steps.proofs.RuleLaws.{newer-same, repeats-same}
use Rattle.proof_server_steps.proofs.ServeLaws.{Served, reaction}
use Rattle.proof_server_steps.proofs.ReadLaws.{first-served, next-served}
use Rattle.proof_server_steps.proofs.WriteLaws.{write-served}
use Rattle.proof_server_steps.proofs.ExchangeLaws.{request-served, success-served}

-- with no ground to refuse it
read_taken : (x : ℕ) (fs : List VersionFilter) → Each VersionFilterFits fs → length fs ≤ filter_limit → read_read (read_in (drop envelope_length (read_message cache_edition x fs))) ≡ read_answer fs
unfolding read_message
read_taken x fs h few = ap (λ (q : List ℕ). read_read (read_in q)) (after-envelope cache_edition read_opcode x 0 (read_octets fs)) ∙ read-answered fs h

module _ {g : Grants} {sent : List (List ℕ)} (here : Standing g sent) (words-fit : (k : ℕ) → get_or here.server.schema k 0 < 2 ^ 64) (start : List ℕ) (room : ℕ) (enough : max_message ≤ room) where
  open here use {server as n, system as sys, stands}

  abbrev node : Node Datum
  node = node_of n.schema n.defaults start g

  -- this message, as this one of the protocol, is served
  abbrev Taken : List ℕ → Message → Type 0
  Taken m u = Served here node u (reaction here m room)

  module _ (x : ℕ) (fx : x < exchange_limit) where
    read_as_lem : (fs : List VersionFilter) → Each VersionFilterFits fs → length fs ≤ filter_limit → Taken (read_message cache_edition x fs) (read x (filters_as n.schema fs))
    unfolding serve reacted
    read_as_lem fs h few =
        request-served here node (read_message cache_edition x fs) room enough (read_short cache_edition x fs h few) read_opcode x (read-envelope cache_edition x fs (omega arith) fx) Read read-action refl (read x (filters_as n.schema fs))
        (λ size stores. send sys (part_of sys.clusters x 1 node.readable (filters_as n.schema fs) (changes_of sys.clusters) size))
        (λ size stores. rw (newer-same n.state.row sys.row stands.row x, repeats-same n.state.row sys.row stands.row x))
        (λ valid. let (size, t) = first-served here words-fit start x fx fs few (drop envelope_length (read_message cache_edition x fs)) (read_taken x fs h few) valid in (size, [], t))

    write_as : (given : Bool) (version e c a : ℕ) (d : Datum) → WriteFits version e c a d → Memᴰ (write_message cache_edition x given version e c a d) sent → Taken (write_message cache_edition x given version e c a d) (write x)
    unfolding serve reacted
    write_as given version e c a d f there =
        let (at, answer, value) = write-taken cache_edition x given version e c a d f.version-fits f.path f.writable f.takable in
        request-served here node (write_message cache_edition x given version e c a d) room enough (write-short cache_edition x given version e c a d f) write_opcode x (write-envelope cache_edition x given version e c a d (omega arith) fx) Write write-action refl (write x)
        (λ size stores. written (store_all sys stores) x)
        (λ size stores. rw (newer-same n.state.row sys.row stands.row x, repeats-same n.state.row sys.row stands.row x))
        (λ valid. let (stores, t) = write-served here x fx given version e c a d f at answer there valid in (0, stores, t))

    success-as : (turn : ℕ) → turn < 2 ^ 16 → (sys.row.more ≡ true → sys.row.turn < max_turn) → Taken (success_message cache_edition x turn) (success x turn)
    unfolding reacted
    success-as turn ft turns =
        success-served here node (success_message cache_edition x turn) room enough (success-sized cache_edition x turn).fits x turn (success-envelope cache_edition x turn (omega arith) fx ft) (success-meant cache_edition x turn)
        (λ h. rw stands.row.turn at (turns (stands.row.more ∙ h)))
        (λ own h valid. let more = stands.row.more ∙ h in next-served here words-fit (stands.row.going more) (turns more) x own valid)

  -- A MESSAGE that the cache has sent
  pub message-as : (sys.row.more ≡ true → sys.row.turn < max_turn) → (m : List ℕ) (u : Message) → MessageAs n.schema m u → Memᴰ m sent → Taken m u
  message-as turns m u (reads x fs em eu fx h few) there = rw (em, eu) (read_as_lem x fx fs h few)
  message-as turns m u (writes x given version e c a d em eu fx f) there = rw (em, eu) (write_as x fx given version e c a d f (Memᴰ.cast (sym em) there))
  message-as turns m u (succeeds x turn em eu fx ft) there = rw (em, eu) (success-as x fx turn ft turns)
