-- What a line for the server does, by its first word and what it spells (docs/SCRIPTS.md).
use Rattle.std.specs.Prelude.{◌≡◌, List, ℕ, ◌*◌, ◌-◌, ◌^◌, length, get_or, take, Ok, Err, Result, IsOkAnd}
use Rattle.tlv_reader.specs.Octet.{pick}
use Rattle.node_kinds.specs.Stored.{equal}
use Rattle.node_schema.specs.Layout.{text_size, subject_word}
use Rattle.node_schema.specs.Check.{count_of_texts}
use Rattle.node_access.specs.Access.{grants_of}
use Rattle.node_access.specs.Table.{table_right}
use Rattle.server_writes.specs.Offer.{HeldValues}
use Rattle.server_replies.specs.Server.{Server, Caller, ServerReaction}
use Rattle.server_replies.specs.Row.{put_row}
use Rattle.server.specs.State.{server_in}
use Rattle.server.specs.Start.{altered_by, Alters}
use Rattle.server.specs.Receive.{received, ServerReacted}
use Rattle.script_lines.specs.declared.Scan.{Scan}
use Rattle.script_lines.specs.declared.number.Number.{Number as NumberRead}
use Rattle.script_lines.specs.declared.path.PathWords.{PathWords}
use Rattle.script_lines.specs.declared.value.Parsed.{Parsed}
use Rattle.script_lines.specs.Numbers.{number_at}
use Rattle.script_lines.specs.Paths.{path_at}
use Rattle.script_lines.specs.Bytes.{front_as, stored_in}
use Rattle.script_lines.specs.Values.{value_at, value_kept}
use Rattle.script_answer.specs.declared.message.MessageWords.{MessageWords}
use Rattle.script_answer.specs.declared.Fault.{Fault}
use Rattle.script_answer.specs.declared.Fault.TheVariants.{Unreadable, NotSent}
use Rattle.script_answer.specs.Messages.{spelled_max, zeros, content_of, spelled_at, newest_of}
use Rattle.script_setup.specs.declared.access.Table.{Table}
use Rattle.script_server.specs.declared.ServerMemory.{ServerMemory}
use Rattle.script_server.specs.declared.ServerAnswered.{ServerAnswered}
use Rattle.script_server.specs.declared.From.{From}
use Rattle.script_server.specs.Lines.{forward_name, change_name, values_in}

-- THE SERVER in a memory, of a schema, a factory page and as much of the page of edits as its texts take
abbrev pub held_in : ServerMemory → List ℕ → HeldValues
held_in m edits = record { values = values_in m; edits = edits }

abbrev pub server_of : List ℕ → List ℕ → List ℕ → ServerMemory → Server
server_of w defaults edits m = server_in w defaults (held_in m edits) m.row m.kept

abbrev pub edits_size : List ℕ → ℕ
edits_size w = text_size * count_of_texts w

-- who hands a message over, and what the table grants
abbrev pub caller_by : List ℕ → Table → ℕ → Caller
caller_by w t subject =
    record { subject = subject; grants = grants_of (take t.count t.entries) subject w; table = table_right t.count t.entries }

-- WHAT A LINE SAYS: what is wrong with it, a message that is handed over, or a change
pub data ServerTurn : Type 0 where
  fault : Fault → ServerTurn
  takes : ServerReaction → ServerTurn
  alters : ServerReaction → ServerTurn

-- forward: the cache's newest message, as the subject that is served; sign: a subject, and the message that the line spells
abbrev pub from : ℕ → Result MessageWords Fault → Result From Fault
from subject (Ok m) = Ok (record { subject = subject; message = m })
from subject (Err e) = Err e

abbrev pub spelled_from : List ℕ → NumberRead → Result From Fault
spelled_from line n = from n.value (spelled_at line n.next)

abbrev pub from_at : List ℕ → List ℕ → Scan → MessageWords → ℕ → Result From Fault
from_at name line s sent served =
    pick (equal name forward_name) (from served (newest_of s sent NotSent)) (spelled_from line (number_at line s (2 ^ 64 - 1)))

abbrev pub hand_turn : Server → Table → ℕ → Result From Fault → ServerTurn
hand_turn x t room (Ok f) = ServerTurn.takes (received x (caller_by x.schema t f.subject) (content_of f.message) room)
hand_turn x t room (Err e) = ServerTurn.fault e

-- change: a path and a value
abbrev pub change_by : List ℕ → Server → PathWords → Parsed → ServerTurn
change_by line x a v =
    pick v.ok (ServerTurn.alters (altered_by x a.endpoint a.cluster a.attribute (value_kept line a.next zeros) v.value))
    (ServerTurn.fault Unreadable)

unfoldable pub change_turn : List ℕ → Scan → Server → ServerTurn
change_turn line s x = let a = path_at line s in change_by line x a (value_at line a.next spelled_max)

unfoldable pub turn_at : List ℕ → List ℕ → Scan → Server → Table → MessageWords → ℕ → ServerTurn
turn_at name line s x t sent room =
    pick (equal name change_name) (change_turn line s x) (hand_turn x t room (from_at name line s sent (get_or x.schema subject_word 0)))

-- ---- AS THE CODE HAS IT

-- what a call answers, and what it leaves in the memory, the page of edits and the buffer that it was lent
abbrev pub Replies : ServerReaction → ServerMemory → List ℕ → List ℕ → List ℕ → ServerAnswered → Type 0
Replies x m edits old new r = ServerReacted x r.outcome (held_in r.server edits) m.row r.server.row r.server.kept old new

-- the same with so much of the page and of the buffer lent
pub record RepliesIn (size room : ℕ) (x : ServerReaction) (m : ServerMemory) (edits new_edits old new : List ℕ) (r : ServerAnswered) : Type 0 where
  pub number : r.outcome.number ≡ x.number
  pub len : r.outcome.len ≡ length x.reply
  pub held : values_in r.server ≡ x.state.values
  pub words : r.server.row ≡ put_row m.row x.state.row
  pub bytes : r.server.kept ≡ x.state.row.kept
  pub texts : new_edits ≡ front_as size edits x.state.edits
  pub buffer : new ≡ stored_in room old x.reply

-- a change has no reply, and the exchange that is served stays as it is
pub record Changes (x : ServerReaction) (m : ServerMemory) (edits : List ℕ) (r : ServerAnswered) : Type 0 where
  pub alters : Alters x r.outcome.number (held_in r.server edits)
  pub silent : r.outcome.len ≡ 0
  pub row : r.server.row ≡ m.row
  pub kept : r.server.kept ≡ m.kept

pub record ChangesIn (size : ℕ) (x : ServerReaction) (m : ServerMemory) (edits new_edits : List ℕ) (r : ServerAnswered) : Type 0 where
  pub answer : r.outcome ≡ record { number = x.number; len = 0 }
  pub held : values_in r.server ≡ x.state.values
  pub texts : new_edits ≡ front_as size edits x.state.edits
  pub row : r.server.row ≡ m.row
  pub kept : r.server.kept ≡ m.kept

-- a line with a fault leaves everything as it was
pub record Unplayed (e : Fault) (edits new_edits old new : List ℕ) (r : Result ServerAnswered Fault) : Type 0 where
  pub says : r ≡ Err e
  pub texts : new_edits ≡ edits
  pub buffer : new ≡ old

pub record Altered (size : ℕ) (x : ServerReaction) (m : ServerMemory) (edits new_edits old new : List ℕ) (r : ServerAnswered) : Type 0 where
  pub changes : ChangesIn size x m edits new_edits r
  pub buffer : new ≡ old

abbrev pub RepliesBy : ServerTurn → ℕ → ℕ → ServerMemory → List ℕ → List ℕ → List ℕ → List ℕ → Result ServerAnswered Fault → Type 0
RepliesBy (ServerTurn.fault e) size room m edits new_edits old new r = Unplayed e edits new_edits old new r
RepliesBy (ServerTurn.takes x) size room m edits new_edits old new r = IsOkAnd r (RepliesIn size room x m edits new_edits old new)
RepliesBy (ServerTurn.alters x) size room m edits new_edits old new r = IsOkAnd r (Altered size x m edits new_edits old new)
