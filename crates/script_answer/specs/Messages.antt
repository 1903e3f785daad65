-- The messages that lines hand over, and what a line without an answer says.
use Rattle.std.specs.Prelude.{List, Bool, ◌&&◌, ℕ, min, eqb, ltb, take, replicate, None, Option, Ok, Err, Result}
use Rattle.base_octets.specs.Store.{store}
use Rattle.tlv_reader.specs.Octet.{pick}
use Rattle.script_lines.specs.declared.Scan.{Scan}
use Rattle.script_lines.specs.declared.hex.Bytes.{Bytes}
use Rattle.script_lines.specs.Words.{is_done}
use Rattle.script_lines.specs.Bytes.{rest_at, rest_kept}
use Rattle.script_answer.specs.declared.AnswerLine.{AnswerLine}
use Rattle.script_answer.specs.declared.Fault.{Fault}
use Rattle.script_answer.specs.declared.Fault.TheVariants.{Unreadable}
use Rattle.script_answer.specs.declared.message.MessageWords.{MessageWords}

-- a line of answer: its number, and how many bytes follow
abbrev pub answer : ℕ → ℕ → AnswerLine
answer n len = record { number = n; len = len }

-- what a line without an answer says, if it could be read
abbrev pub silent : Bool → Result (Option AnswerLine) Fault
silent ok = pick ok (Ok None) (Err Unreadable)

-- bytes that a line can spell, and one more, to tell an overlong message
abbrev pub spelled_max : ℕ
spelled_max = 2049

-- the greatest message that an end makes
abbrev pub message_max : ℕ
message_max = 1032

unfoldable pub zeros : List ℕ
zeros = replicate spelled_max 0

abbrev pub message : List ℕ → ℕ → MessageWords
message bytes n = record { bytes = bytes; len = n }

abbrev pub content_of : MessageWords → List ℕ
content_of m = take m.len m.bytes

-- of an end that has made none
abbrev pub no_message : MessageWords
no_message = message zeros 0

-- the newest message of an end whose answer of so many bytes stands in a buffer: that, or the one before if it said nothing
abbrev pub newer_of : MessageWords → List ℕ → ℕ → MessageWords
newer_of old out n = pick (eqb n 0) old (message (store zeros 0 out) (min n message_max))

-- the bytes that were read, if they are a message
abbrev pub handed_by : List ℕ → Bytes → Result MessageWords Fault
handed_by bytes b = pick (b.ok && ltb b.len spelled_max) (Ok (message bytes b.len)) (Err Unreadable)

-- the message that the rest of a line spells
unfoldable pub spelled_at : List ℕ → Scan → Result MessageWords Fault
spelled_at line s = handed_by (rest_kept line s zeros) (rest_at line s spelled_max)

-- the newest message of an end, for a line that has no word more; none if it has made none
abbrev pub newest_of : Scan → MessageWords → Fault → Result MessageWords Fault
newest_of s m none = pick (is_done s) (pick (eqb m.len 0) (Err none) (Ok m)) (Err Unreadable)
