-- THE SERVER'S CONTRACTS, as relations of what stood in all that a call is lent to change, what it answers, and what stands there afterwards. Each is the
-- `ensures` of its function, word for word; a record of memory has a field for each `&mut` of it, by its name.
use Rattle.std.specs.Prelude.{Bool, List, ℕ, length}
use Rattle.tlv_reader.specs.declared.Value.{Value}
use Rattle.server_values.specs.Values.{values_of}
use Rattle.server_writes.specs.Offer.{held_of}
use Rattle.server_replies.specs.Server.{Caller}
use Rattle.server.specs.declared.Outcome.{Outcome}
use Rattle.server.specs.State.{server_in}
use Rattle.server.specs.Start.{started, Starts, altered_by, Alters}
use Rattle.server.specs.Receive.{received, ServerReacted}

-- `server::start::start`
pub record StartMemory : Type 0 where
  pub words : List ℕ
  pub nulls : List Bool
  pub texts : List ℕ
  pub versions : List ℕ
  pub row : List ℕ
  pub kept : List ℕ

abbrev pub StartMeets : (w defaults : List ℕ) (before : StartMemory) (number : ℕ) (after : StartMemory) → Type 0
StartMeets w defaults m r n =
    (edits : List ℕ) → Starts (started w defaults edits) r (values_of m.words m.nulls m.texts m.versions)
    (values_of n.words n.nulls n.texts n.versions)
    m.row
    n.row
    m.kept
    n.kept

-- `server::start::change`
pub record ChangeMemory : Type 0 where
  pub edits : List ℕ
  pub words : List ℕ
  pub nulls : List Bool
  pub texts : List ℕ
  pub versions : List ℕ

abbrev pub ChangeMeets : (w defaults row : List ℕ) (endpoint cluster attribute : ℕ) (new : Value) (src : List ℕ) (before : ChangeMemory) (number : ℕ) (after : ChangeMemory) → Type 0
ChangeMeets w defaults row endpoint cluster attribute new src m r n =
    (kept : List ℕ) → Alters (altered_by (server_in w defaults (held_of m.words m.nulls m.texts m.versions m.edits) row kept) endpoint cluster attribute src new) r
    (held_of n.words n.nulls n.texts n.versions n.edits)

-- `server::receive::receive` and `receive_in`, which differ in how the caller's grants are found, and `serve` below both
pub record ReceiveMemory : Type 0 where
  pub edits : List ℕ
  pub words : List ℕ
  pub nulls : List Bool
  pub texts : List ℕ
  pub versions : List ℕ
  pub row : List ℕ
  pub kept : List ℕ
  pub out : List ℕ

abbrev pub ReceiveMeets : (w defaults : List ℕ) (caller : Caller) (message : List ℕ) (before : ReceiveMemory) (outcome : Outcome) (after : ReceiveMemory) → Type 0
ReceiveMeets w defaults caller message m r n =
    ServerReacted (received (server_in w defaults (held_of m.words m.nulls m.texts m.versions m.edits) m.row m.kept) caller message (length m.out)) r
    (held_of n.words n.nulls n.texts n.versions n.edits)
    m.row
    n.row
    n.kept
    m.out
    n.out
