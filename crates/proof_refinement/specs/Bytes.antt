-- The messages of both ends as they stand for messages and parts of the protocol.
use Rattle.std.specs.Prelude.{◌≡◌, Bool, ℕ, ◌^◌, ◌<◌, ◌≤◌, length}
use mathlib.Core.List.{List, [], ◌∷◌, ◌++◌, map, Memᴰ}
use Rattle.base_bounds.specs.Bounds.{version_limit, payload_limit, filter_limit}
use Rattle.tlv_reader.specs.Value.{Datum}
use Rattle.tlv_writer.specs.Meaning.{Writable}
use Rattle.im_requests.specs.declared.VersionFilter.{VersionFilter}
use Rattle.im_writer.specs.Envelope.{cache_edition, exchange_limit, envelope_octets}
use Rattle.im_writer.specs.Spelling.{Each, primitive_d}
use Rattle.im_writer.specs.Block.{Block}
use Rattle.im_writer.specs.Meaning.{PathFits}
use Rattle.proof_round_trip.specs.Meant.{VersionFilterFits, report_octets, WriteStatus, OutcomeFits, outcomes_octets}
use Rattle.node_schema.specs.Rows.{count_of_attributes}
use Rattle.node_schema.specs.Rules.{path_at}
use Rattle.im_exchange.specs.Rules.{report_opcode, write_response_opcode, first_reply}
use Rattle.cache_messages.specs.Messages.{read_message, write_message, success_message}
use Rattle.proof_trip.specs.Taken.{Takable}
use Rattle.proof_protocol.specs.Model.{Entry, Message, read, write, success, Part}
use Rattle.proof_refinement.specs.Terms.{place_at, filters_as}

-- THE SERVER'S: an entry of a part as a block of a report
abbrev pub block_as : List ℕ → Entry Datum → Block
block_as w e =
    Block.value e.version (path_at w e.place.attribute).endpoint (path_at w e.place.attribute).cluster (path_at w e.place.attribute).attribute e.value

abbrev pub part_payload : List ℕ → Part Datum → List ℕ
part_payload w p = report_octets (map (block_as w) p.entries) p.more

unfoldable pub part_bytes : List ℕ → Part Datum → List ℕ
part_bytes w p = envelope_octets cache_edition report_opcode p.exchange p.turn ++ part_payload w p

-- an entry that a server of this schema can have sent
pub record EntryRight (w : List ℕ) (e : Entry Datum) : Type 0 where
  pub row : e.place.attribute < count_of_attributes w
  pub place : e.place ≡ place_at w e.place.attribute
  pub version : e.version < version_limit
  pub value : Takable e.value
  pub writable : Writable (primitive_d e.value)

pub record PartRight (w : List ℕ) (p : Part Datum) : Type 0 where
  pub entries : (e : Entry Datum) → Memᴰ e p.entries → EntryRight w e
  pub short : length (part_payload w p) ≤ payload_limit
  pub exchange : p.exchange < exchange_limit
  pub turn : p.turn < 2 ^ 16

-- the answer to a write of one entry
unfoldable pub answer_bytes : ℕ → WriteStatus → List ℕ
answer_bytes exchange o = envelope_octets cache_edition write_response_opcode exchange first_reply ++ outcomes_octets (o ∷ [])

-- THE CACHE'S
pub record WriteFits (version endpoint cluster attribute : ℕ) (d : Datum) : Type 0 where
  pub version-fits : version < version_limit
  pub path : PathFits endpoint cluster attribute
  pub writable : Writable (primitive_d d)
  pub takable : Takable d

pub data MessageAs (w m : List ℕ) (u : Message) : Type 0 where
  reads : (x : ℕ) (fs : List VersionFilter) → m ≡ read_message cache_edition x fs → u ≡ read x (filters_as w fs) → x < exchange_limit → Each VersionFilterFits fs → length fs ≤ filter_limit → MessageAs w m u
  writes : (x : ℕ) (given : Bool) (version e c a : ℕ) (d : Datum) → m ≡ write_message cache_edition x given version e c a d → u ≡ write x → x < exchange_limit → WriteFits version e c a d → MessageAs w m u
  succeeds : (x turn : ℕ) → m ≡ success_message cache_edition x turn → u ≡ success x turn → x < exchange_limit → turn < 2 ^ 16 → MessageAs w m u

-- a write of this path was sent in this exchange
pub record Wrote (sent : List (List ℕ)) (x e c a : ℕ) : Type 0 where
  pub given : Bool
  pub version : ℕ
  pub value : Datum
  pub fits : WriteFits version e c a value
  pub there : Memᴰ (write_message cache_edition x given version e c a value) sent

-- A REPLY of the server, and the parts that it is in the protocol: silence and the answer to a write are none
pub data ReplyAs (w : List ℕ) (sent : List (List ℕ)) (reply : List ℕ) (parts : List (Part Datum)) : Type 0 where
  silent : reply ≡ [] → parts ≡ [] → ReplyAs w sent reply parts
  reports : (p : Part Datum) → reply ≡ part_bytes w p → parts ≡ p ∷ [] → PartRight w p → ReplyAs w sent reply parts
  answers : (x : ℕ) (o : WriteStatus) → reply ≡ answer_bytes x o → parts ≡ [] → x < exchange_limit → OutcomeFits o → Wrote sent x o.endpoint o.cluster o.attribute → ReplyAs w sent reply parts
