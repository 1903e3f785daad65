-- The messages that a server sends: an envelope and a payload (RULES 3.1).
use Rattle.std.specs.Prelude.{List, ◌++◌, ℕ}
use Rattle.im_envelope.specs.Envelope as Envelope
use Rattle.im_writer.specs.Envelope.{envelope_octets}
use Rattle.im_writer.specs.Spelling.{spelling}
use Rattle.im_writer.specs.Message.{message_tree, status_members}
use Rattle.im_requests.specs.declared.write.WriteEntry.{WriteEntry}
use Rattle.im_exchange.specs.Rules.{status_opcode, report_opcode, write_response_opcode}
use Rattle.server_report.specs.Blocks.{PlacedBlock}
use Rattle.server_report.specs.Part.{part_payload}
use Rattle.server_writes.specs.Response.{response_payload}

-- as the envelope has them
abbrev pub envelope_length : ℕ
envelope_length = Envelope.envelope_length

abbrev pub max_message : ℕ
max_message = Envelope.max_message

-- a status: a refusal of a whole request
unfoldable pub status_message : ℕ → ℕ → ℕ → ℕ → List ℕ
status_message edition exchange turn code =
    envelope_octets edition status_opcode exchange turn ++ spelling (message_tree (status_members code))

-- a part of a report
unfoldable pub report_message : ℕ → ℕ → ℕ → List PlacedBlock → List ℕ
report_message edition exchange turn l = envelope_octets edition report_opcode exchange turn ++ part_payload l

-- the statuses of a write
unfoldable pub response_message : ℕ → ℕ → ℕ → List WriteEntry → List ℕ → List ℕ
response_message edition exchange turn xs codes = envelope_octets edition write_response_opcode exchange turn ++ response_payload xs codes
