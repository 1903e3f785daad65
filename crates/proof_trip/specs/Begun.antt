-- What a cache that begins a request has, and what its message is to say at the server.
use Rattle.std.specs.Prelude.{◌≡◌, Bool, List, ℕ, ◌+◌, ◌≤◌, drop, Some, Option}
use Rattle.base_bounds.specs.Bounds.{filter_limit}
use Rattle.tlv_reader.specs.Value.{Datum, value_in, datum_in}
use Rattle.im_requests.specs.Read.{read_in, read_read}
use Rattle.im_requests.specs.Write.{write_in, write_read}
use Rattle.proof_round_trip.specs.Meant.{read_answer, write_answer}
use Rattle.im_exchange.specs.Rules.{read_opcode, write_opcode}
use Rattle.im_writer.specs.Envelope.{cache_edition}
use Rattle.im_envelope.specs.Envelope.{envelope_in, envelope_length}
use Rattle.cache_entries.specs.declared.Cached.{Cached}
use Rattle.cache_messages.specs.Filters.{filters_of}
use Rattle.cache_state.specs.declared.CacheState.{CacheState}
use Rattle.im_envelope.specs.declared.Fields.{Fields}

-- no more clusters than a read may have filters
pub record Sendable (c : Cached) : Type 0 where
  pub clusters : c.cluster_count ≤ filter_limit

abbrev pub envelope_as : ℕ → ℕ → ℕ → ℕ → Option Fields
envelope_as edition opcode exchange turn = Some (record { edition = edition; opcode = opcode; exchange = exchange; turn = turn })

-- a read begun: turn 0 of the next exchange, with no ground to refuse it, and the cache's filters
pub record ReadBegun (s : CacheState) (m : List ℕ) : Type 0 where
  pub envelope : envelope_in m ≡ envelope_as cache_edition read_opcode (s.asked.used + 1) 0
  pub request : read_read (read_in (drop envelope_length m)) ≡ read_answer (filters_of s.held)

-- a write begun: of one entry, and the value that stands at its place
pub record WriteBegun (s : CacheState) (given : Bool) (version endpoint cluster attribute : ℕ) (d : Datum) (m : List ℕ) : Type 0 where
  pub place : ℕ
  pub envelope : envelope_in m ≡ envelope_as cache_edition write_opcode (s.asked.used + 1) 0
  pub request : write_read (write_in (drop envelope_length m)) ≡ write_answer given version endpoint cluster attribute place
  pub value : datum_in (drop envelope_length m) (value_in (drop envelope_length m) place) ≡ d
