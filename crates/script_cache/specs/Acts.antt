-- What a line for the cache does, by its first word and what it spells (docs/SCRIPTS.md).
use Rattle.std.specs.Prelude.{◌≡◌, List, ℕ, length, Option, is_some, Ok, Err, Result, IsOkAnd}
use Rattle.std.specs.Option.{unwrap_or}
use Rattle.tlv_reader.specs.Octet.{pick}
use Rattle.tlv_reader.specs.declared.Value.{Value}
use Rattle.node_kinds.specs.Stored.{equal}
use Rattle.cache_state.specs.Words.{put_state}
use Rattle.cache_state.specs.Begin.{begins_read, begins_write, resends}
use Rattle.cache_state.specs.Reaction.{CacheReaction, of_cache, CacheReacted}
use Rattle.cache_receive.specs.Receive.{received}
use Rattle.script_lines.specs.declared.Scan.{Scan}
use Rattle.script_lines.specs.declared.path.PathWords.{PathWords}
use Rattle.script_lines.specs.declared.number.MarkedNumber.{MarkedNumber}
use Rattle.script_lines.specs.declared.value.Parsed.{Parsed}
use Rattle.script_lines.specs.Words.{is_done}
use Rattle.script_lines.specs.Numbers.{marked_at}
use Rattle.script_lines.specs.Paths.{id_max, path_at}
use Rattle.script_lines.specs.Bytes.{stored_in}
use Rattle.script_lines.specs.Values.{value_at, value_kept}
use Rattle.script_answer.specs.declared.message.MessageWords.{MessageWords}
use Rattle.script_answer.specs.declared.Fault.{Fault}
use Rattle.script_answer.specs.declared.Fault.TheVariants.{Unreadable, NotReplied}
use Rattle.script_answer.specs.Messages.{spelled_max, zeros, content_of, spelled_at, newest_of}
use Rattle.script_cache.specs.declared.CacheMemory.{CacheMemory}
use Rattle.script_cache.specs.declared.CacheAnswered.{CacheAnswered}
use Rattle.script_cache.specs.Lines.{resend_name, write_name, back_name, begins_request, state_of}

-- THE CALLS, in a memory and with a page of texts; `room` is the buffer's length

abbrev pub in_memory : CacheMemory → List ℕ → CacheReaction → CacheReaction
in_memory m page x = of_cache m.asked page (state_of m) x

abbrev pub reads_by : CacheMemory → List ℕ → ℕ → CacheReaction
reads_by m page room = in_memory m page (begins_read page (state_of m) room)

abbrev pub resends_by : CacheMemory → List ℕ → ℕ → CacheReaction
resends_by m page room = in_memory m page (resends page (state_of m) room)

abbrev pub receives_by : CacheMemory → List ℕ → List ℕ → ℕ → CacheReaction
receives_by m page message room = in_memory m page (received page (state_of m) message room)

abbrev pub writes_by : CacheMemory → List ℕ → PathWords → Option ℕ → List ℕ → Value → ℕ → CacheReaction
writes_by m page a version src v room =
    in_memory m page (begins_write page (state_of m) a.endpoint a.cluster a.attribute (is_some version) (unwrap_or version 0) src v room)

-- WHAT A LINE SAYS: what is wrong with it, or what is to be done
pub data CacheTurn : Type 0 where
  fault : Fault → CacheTurn
  does : CacheReaction → CacheTurn

-- write: a path, a version or the mark -, the byte 45, and a value
abbrev pub write_by : List ℕ → CacheMemory → List ℕ → ℕ → PathWords → MarkedNumber → Parsed → CacheTurn
write_by line m page room a version v =
    pick v.ok (CacheTurn.does (writes_by m page a version.value (value_kept line version.next zeros) v.value room)) (CacheTurn.fault Unreadable)

abbrev pub version_at : List ℕ → PathWords → MarkedNumber
version_at line a = marked_at line a.next 45 id_max

unfoldable pub write_turn : List ℕ → Scan → CacheMemory → List ℕ → ℕ → CacheTurn
write_turn line s m page room =
    let a = path_at line s in
    write_by line m page room a (version_at line a) (value_at line (version_at line a).next spelled_max)

-- write; read or resend, which have no further word
abbrev pub asked_again : List ℕ → CacheMemory → List ℕ → ℕ → CacheReaction
asked_again name m page room = pick (equal name resend_name) (resends_by m page room) (reads_by m page room)

unfoldable pub begin_turn : List ℕ → List ℕ → Scan → CacheMemory → List ℕ → ℕ → CacheTurn
begin_turn name line s m page room =
    pick (equal name write_name) (write_turn line s m page room)
    (pick (is_done s) (CacheTurn.does (asked_again name m page room)) (CacheTurn.fault Unreadable))

-- back: the server's newest reply; panel: the message that the line spells
abbrev pub handed_at : List ℕ → List ℕ → Scan → MessageWords → Result MessageWords Fault
handed_at name line s replied = pick (equal name back_name) (newest_of s replied NotReplied) (spelled_at line s)

abbrev pub hand_turn : Result MessageWords Fault → CacheMemory → List ℕ → ℕ → CacheTurn
hand_turn (Ok message) m page room = CacheTurn.does (receives_by m page (content_of message) room)
hand_turn (Err e) m page room = CacheTurn.fault e

unfoldable pub turn_at : List ℕ → List ℕ → Scan → CacheMemory → MessageWords → List ℕ → ℕ → CacheTurn
turn_at name line s m replied page room =
    pick (begins_request name) (begin_turn name line s m page room) (hand_turn (handed_at name line s replied) m page room)

-- ---- AS THE CODE HAS IT

-- what a call answers, and what it leaves in the memory, the page and the buffer that it was lent
abbrev pub Reacts : CacheReaction → CacheMemory → List ℕ → List ℕ → List ℕ → CacheAnswered → Type 0
Reacts x m page old new r = CacheReacted x r.outcome (state_of r.cache) m.asked r.cache.asked page old new

-- the same with so much of the buffer lent
pub record ReactsIn (room : ℕ) (x : CacheReaction) (m : CacheMemory) (page old new : List ℕ) (r : CacheAnswered) : Type 0 where
  pub number : r.outcome.number ≡ x.number
  pub len : r.outcome.len ≡ length x.reply
  pub state : state_of r.cache ≡ x.state
  pub words : r.cache.asked ≡ put_state m.asked x.state
  pub texts : page ≡ x.page
  pub buffer : new ≡ stored_in room old x.reply

-- a line with a fault leaves everything as it was
pub record Unplayed (e : Fault) (page new_page old new : List ℕ) (r : Result CacheAnswered Fault) : Type 0 where
  pub says : r ≡ Err e
  pub texts : new_page ≡ page
  pub buffer : new ≡ old

abbrev pub ActsBy : CacheTurn → CacheMemory → ℕ → List ℕ → List ℕ → List ℕ → List ℕ → Result CacheAnswered Fault → Type 0
ActsBy (CacheTurn.fault e) m room page new_page old new r = Unplayed e page new_page old new r
ActsBy (CacheTurn.does x) m room page new_page old new r = IsOkAnd r (ReactsIn room x m new_page old new)
