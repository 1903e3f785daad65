-- The envelope of a message: eight octets, most significant bit first (RULES 3.1, 3.2).
use Rattle.std.specs.Prelude.{ℕ, ◌/◌, ◌%◌, ◌^◌, List, length, take, ltb, Some, None, Option}
use Rattle.tlv_reader.specs.Octet.{pick}
use Rattle.im_writer.specs.Envelope as Writer
use Rattle.im_writer.specs.Envelope.{big_number, exchange_limit}
use Rattle.im_envelope.specs.declared.Fields.{Fields}

-- as it is written
abbrev pub envelope_length : ℕ
envelope_length = Writer.envelope_length

-- RULES 3.1: the most that a message may have
abbrev pub max_message : ℕ
max_message = 1032

-- edition 4 bits, opcode 4, exchange 40, turn 16
unfoldable pub fields_of : ℕ → Fields
fields_of w = record { edition = w / 2 ^ 60; opcode = w / 2 ^ 56 % 2 ^ 4; exchange = w / 2 ^ 16 % exchange_limit; turn = w % 2 ^ 16 }

unfoldable pub envelope_in : List ℕ → Option Fields
envelope_in s = pick (ltb (length s) envelope_length) None (Some (fields_of (big_number (take envelope_length s))))
