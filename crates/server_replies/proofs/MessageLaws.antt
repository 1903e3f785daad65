-- How long the messages are: each has its envelope, and at most 1,032 octets with it.
use mathlib.Core.Path.{◌≡◌, subst}
use mathlib.Core.List.{List}
use Prim.Native.Nat.{ℕ, ◌^◌, ◌≤◌, ◌<◌}
use native.Mathlib.Omega.{arith}
use lib.ListN.{length, get_or, length-append}
use Rattle.base_bounds.specs.Bounds.{write_limit}
use Rattle.base_octets.specs.Store.{Stored}
use Rattle.base_octets.proofs.StoreLaws.{then, same_length}
use Rattle.im_requests.specs.declared.write.WriteEntry.{WriteEntry}
use Rattle.im_requests.specs.Write.{no_entry}
use Rattle.im_writer.specs.Envelope.{envelope_octets}
use Rattle.im_writer.specs.Spelling.{spelling}
use Rattle.im_writer.specs.Message.{message_tree, status_members}
use Rattle.im_writer.proofs.EnvelopeLaws.{length-envelope}
use Rattle.im_writer.proofs.LengthLaws.{length-status-response}
use Rattle.im_exchange.specs.Rules.{status_opcode, report_opcode, write_response_opcode}
use Rattle.server_report.specs.declared.ReadPlace.{ReadPlace}
use Rattle.server_report.specs.declared.Filled.{Filled}
use Rattle.server_report.specs.Blocks.{PlacedBlock}
use Rattle.server_report.specs.Part.{part_payload, Made}
use Rattle.server_report.proofs.ChunkLaws.{part_length}
use Rattle.server_writes.specs.Entry.{InWidth}
use Rattle.server_writes.specs.Response.{response_payload}
use Rattle.server_writes.proofs.ResponseLaws.{response-length}
use Rattle.server_replies.specs.Messages.{envelope_length, max_message, status_message, report_message, response_message}
use Rattle.server_replies.specs.Sent.{Sent}

pub status-length : (edition exchange turn code : ℕ) → code < 2 ^ 8 → length (status_message edition exchange turn code) ≡ 16
unfolding status_message
status-length edition exchange turn code h =
    omega (
      arith,
      length-append (envelope_octets edition status_opcode exchange turn) (spelling (message_tree (status_members code))),
      length-envelope edition status_opcode exchange turn,
      length-status-response code h,
    )

-- EVERY PART has at most 1,032 octets with its envelope
pub report-length : (edition exchange turn : ℕ) (l : List PlacedBlock) → length (report_message edition exchange turn l) ≤ max_message
unfolding report_message
report-length edition exchange turn l =
    omega (arith, length-append (envelope_octets edition report_opcode exchange turn) (part_payload l), length-envelope edition report_opcode exchange turn, part_length l)

pub answer-length : (edition exchange turn : ℕ) (xs : List WriteEntry) (codes : List ℕ) → length xs ≤ write_limit → ((i : ℕ) → i < length xs → InWidth (get_or xs i no_entry)) → ((i : ℕ) → i < length codes → get_or codes i 0 < 2 ^ 8) → length (response_message edition exchange turn xs codes) ≤ max_message
unfolding response_message
answer-length edition exchange turn xs codes l f g =
    omega (
      arith,
      length-append (envelope_octets edition write_response_opcode exchange turn) (response_payload xs codes),
      length-envelope edition write_response_opcode exchange turn,
      response-length xs codes l f g,
    )

-- no message is empty
pub status-some : (edition exchange turn code : ℕ) → envelope_length ≤ length (status_message edition exchange turn code)
unfolding status_message
status-some edition exchange turn code =
    omega (
      arith,
      length-append (envelope_octets edition status_opcode exchange turn) (spelling (message_tree (status_members code))),
      length-envelope edition status_opcode exchange turn,
    )

pub report-some : (edition exchange turn : ℕ) (l : List PlacedBlock) → envelope_length ≤ length (report_message edition exchange turn l)
unfolding report_message
report-some edition exchange turn l =
    omega (arith, length-append (envelope_octets edition report_opcode exchange turn) (part_payload l), length-envelope edition report_opcode exchange turn)

pub response-some : (edition exchange turn : ℕ) (xs : List WriteEntry) (codes : List ℕ) → envelope_length ≤ length (response_message edition exchange turn xs codes)
unfolding response_message
response-some edition exchange turn xs codes =
    omega (
      arith,
      length-append (envelope_octets edition write_response_opcode exchange turn) (response_payload xs codes),
      length-envelope edition write_response_opcode exchange turn,
    )

-- what follows an envelope: where it begins, and the room for it
pub after-envelope : (edition opcode exchange turn : ℕ) {o o₁ : List ℕ} {p : ℕ} → Stored o 0 (envelope_octets edition opcode exchange turn) o₁ p → (p ≡ envelope_length) × (length o₁ ≡ length o)
after-envelope edition opcode exchange turn e = (omega (arith, e.place, length-envelope edition opcode exchange turn), same_length e)

-- an envelope, and a part after it
pub part-sent : {o o₁ new : List ℕ} {p edition exchange turn : ℕ} {at : ReadPlace} {l : List PlacedBlock} {f : Filled} → Stored o 0 (envelope_octets edition report_opcode exchange turn) o₁ p → Made o₁ p at l new f → Sent o edition exchange turn at l new f
unfolding report_message
part-sent e m = record { stored = then e m.stored; place = m.place; more = m.more }

-- of the same blocks
pub sent-of : {o new : List ℕ} {edition exchange turn : ℕ} {at : ReadPlace} {l m : List PlacedBlock} {f : Filled} → l ≡ m → Sent o edition exchange turn at l new f → Sent o edition exchange turn at m new f
sent-of {o} {new} {edition} {exchange} {turn} {at} {f = f} e s = subst (λ (k : List PlacedBlock). Sent o edition exchange turn at k new f) e s
