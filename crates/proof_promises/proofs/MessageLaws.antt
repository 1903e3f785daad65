-- A message is read in one way: what it is in the protocol is told by its bytes, and so are its exchange and turn.
use Rattle.std.specs.Prelude.{Some, None, Option}
use mathlib.Core.Path.{◌≡◌, sym, ap, ◌∙◌, subst}
use mathlib.Core.List.{List, [], ◌∷◌}
use Prim.Native.Nat.{ℕ, ◌<◌}
use native.Mathlib.Omega.{arith}
use lib.Dec.{eqb}
use lib.ListN.{drop}
use Rattle.tlv_reader.specs.Octet.{pick}
use Rattle.tlv_reader.specs.Value.{Datum}
use Rattle.im_requests.specs.declared.VersionFilter.{VersionFilter}
use Rattle.im_requests.specs.Read.{Read, read_in}
use Rattle.proof_round_trip.specs.Meant.{read_octets, read_means, WriteStatus, outcomes_octets}
use Rattle.proof_round_trip.proofs.BackLaws.{read_back}
use Rattle.im_envelope.specs.Envelope.{envelope_in}
use Rattle.im_envelope.proofs.BigLaws.{envelope-read}
use Rattle.im_exchange.specs.Rules.{read_opcode, report_opcode, write_opcode, write_response_opcode, first_reply}
use Rattle.cache_messages.specs.Messages.{read_message}
use Rattle.proof_trip.specs.Begun.{envelope_as}
use Rattle.proof_trip.proofs.BeginLaws.{after-envelope, read-envelope, write-envelope, success-envelope}
use Rattle.proof_protocol.specs.Model.{Message, read, write, success, Part, exchange_of}
use Rattle.proof_refinement.specs.Terms.{filters_as}
use Rattle.proof_refinement.specs.Bytes.{MessageAs, reads, writes, succeeds, part_payload, part_bytes, PartRight, answer_bytes}
use Rattle.im_writer.specs.Envelope.{envelope_length, cache_edition, exchange_limit}
use Rattle.im_envelope.specs.declared.Fields.{Fields}

abbrev filters_in : Option Read → List VersionFilter
filters_in None = []
filters_in (Some r) = r.filters

abbrev by_envelope : List ℕ → List ℕ → Option Fields → Message
by_envelope w q None = write 0
by_envelope w q (Some f) =
    pick (eqb f.opcode read_opcode) (read f.exchange (filters_as w (filters_in (read_in q))))
    (pick (eqb f.opcode write_opcode) (write f.exchange) (success f.exchange f.turn))

-- WHAT A MESSAGE OF THE CACHE IS, from its bytes
unfoldable meaning : List ℕ → List ℕ → Message
meaning w m = by_envelope w (drop envelope_length m) (envelope_in m)

meant : (w m : List ℕ) (u : Message) → MessageAs w m u → u ≡ meaning w m
unfolding meaning read_message
meant w m u (reads x fs em eu fx fit few) =
    eu ∙ ap (λ (o : Option Read). read x (filters_as w (filters_in o))) (sym filters) ∙ ap (by_envelope w (drop envelope_length m)) (sym (ap envelope_in em ∙ read-envelope cache_edition x fs (omega arith) fx))
  where
    filters : read_in (drop envelope_length m) ≡ Some (read_means fs)
    filters = ap (λ (l : List ℕ). read_in (drop envelope_length l)) em ∙ ap read_in (after-envelope cache_edition read_opcode x 0 (read_octets fs)) ∙ read_back fs fit
meant w m u (writes x given version e c a d em eu fx fit) =
    eu ∙ ap (by_envelope w (drop envelope_length m)) (sym (ap envelope_in em ∙ write-envelope cache_edition x given version e c a d (omega arith) fx))
meant w m u (succeeds x turn em eu fx ft) = eu ∙ ap (by_envelope w (drop envelope_length m)) (sym (ap envelope_in em ∙ success-envelope cache_edition x turn (omega arith) fx ft))

pub message-one : (w m : List ℕ) (u u' : Message) → MessageAs w m u → MessageAs w m u' → u ≡ u'
message-one w m u u' a b = meant w m u a ∙ sym (meant w m u' b)

-- its exchange
abbrev pub InExchange : ℕ → Option Fields → Type 0
InExchange x None = ⊥
InExchange x (Some f) = f.exchange ≡ x

pub message-in : (w m : List ℕ) (u : Message) → MessageAs w m u → InExchange (exchange_of u) (envelope_in m)
message-in w m u (reads x fs em eu fx fit few) = subst (InExchange (exchange_of u)) (sym (ap envelope_in em ∙ read-envelope cache_edition x fs (omega arith) fx)) (ap exchange_of (sym eu))
message-in w m u (writes x given version e c a d em eu fx fit) =
    subst (InExchange (exchange_of u)) (sym (ap envelope_in em ∙ write-envelope cache_edition x given version e c a d (omega arith) fx)) (ap exchange_of (sym eu))
message-in w m u (succeeds x turn em eu fx ft) =
    subst (InExchange (exchange_of u)) (sym (ap envelope_in em ∙ success-envelope cache_edition x turn (omega arith) fx ft)) (ap exchange_of (sym eu))

-- A REPLY's envelope
pub part-envelope : (w : List ℕ) (q : Part Datum) → PartRight w q → envelope_in (part_bytes w q) ≡ envelope_as cache_edition report_opcode q.exchange q.turn
unfolding part_bytes
part-envelope w q r = envelope-read cache_edition report_opcode q.exchange q.turn (omega arith) (omega arith) r.exchange r.turn (part_payload w q)

pub answer-envelope : (x : ℕ) (o : WriteStatus) → x < exchange_limit → envelope_in (answer_bytes x o) ≡ envelope_as cache_edition write_response_opcode x first_reply
unfolding answer_bytes
answer-envelope x o fx = envelope-read cache_edition write_response_opcode x first_reply (omega arith) (omega arith) fx (omega arith) (outcomes_octets (o ∷ []))
