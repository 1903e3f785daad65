-- What a line that asks the cache says: an answer, which is a number of RULES 6.1 and bytes, which stand at the start of the buffer; or what is wrong.
use Rattle.std.specs.Prelude.{◌≡◌, List, [], ◌∷◌, ◌++◌, ℕ, length, Ok, Err, Result, IsOkAnd}
use Rattle.base_octets.specs.Store.{store}
use Rattle.tlv_reader.specs.Value.{datum_in}
use Rattle.tlv_writer.specs.declared.Tag.TheVariants.{Anonymous}
use Rattle.tlv_writer.specs.Element.{datum_octets, InPage}
use Rattle.im_writer.specs.Envelope.{big_octets}
use Rattle.im_writer.specs.Block.{ShortText}
use Rattle.cache_ask.specs.declared.Whole.{Whole}
use Rattle.cache_ask.specs.declared.Whole.TheVariants as whole
use Rattle.cache_ask.specs.declared.EntryHeld.{EntryHeld}
use Rattle.cache_ask.specs.declared.EntryHeld.TheVariants as held
use Rattle.cache_ask.specs.declared.Ended.{Ended}
use Rattle.cache_ask.specs.declared.Ended.TheVariants as ended
use Rattle.cache_ask.specs.declared.Abandoned.{Abandoned}
use Rattle.cache_ask.specs.declared.Abandoned.TheVariants as abandoned
use Rattle.script_answer.specs.declared.AnswerLine.{AnswerLine}
use Rattle.script_answer.specs.declared.Fault.{Fault}
use Rattle.script_answer.specs.declared.Fault.TheVariants.{Unreadable}
use Rattle.script_answer.specs.Messages.{answer}

pub record Shown : Type 0 where
  pub number : ℕ
  pub bytes : List ℕ

abbrev pub shown : ℕ → List ℕ → Shown
shown n l = record { number = n; bytes = l }

-- a line that can't be read
abbrev pub unread : Result Shown Fault
unread = Err Unreadable

-- 0 and the version's four bytes, most significant first; or 1
abbrev pub whole_shown : Whole → Shown
whole_shown whole.Broken = shown 2 []
whole_shown whole.No = shown 1 []
whole_shown (whole.At v) = shown 0 (big_octets 4 v)

-- 0, the version likewise, and the value as an untagged element, its text in the page; or 1
abbrev pub entry_shown : List ℕ → EntryHeld → Shown
entry_shown page held.Broken = shown 2 []
entry_shown page held.Nothing = shown 1 []
entry_shown page (held.Here v x) = shown 0 (big_octets 4 v ++ datum_octets Anonymous (datum_in page x))

-- 1 none yet; 1 00 open; 0 ended on its last part; 0 and the status it ended with
abbrev pub outcome_shown : Ended → Shown
outcome_shown ended.Broken = shown 2 []
outcome_shown ended.NoneYet = shown 1 []
outcome_shown ended.Open = shown 1 (0 ∷ [])
outcome_shown ended.LastPart = shown 0 []
outcome_shown (ended.Status code) = shown 0 (code ∷ [])

-- 0 and the exchange's five bytes, most significant first; or 1
abbrev pub unknown_shown : Abandoned → Shown
unknown_shown abandoned.Broken = shown 2 []
unknown_shown abandoned.Nothing = shown 1 []
unknown_shown (abandoned.Exchange n) = shown 0 (big_octets 5 n)

-- what the code does: these bytes in the buffer, and the line's number and length
pub record Shows (x : Shown) (old new : List ℕ) (said : AnswerLine) : Type 0 where
  pub line : said ≡ answer x.number (length x.bytes)
  pub content : new ≡ store old 0 x.bytes

-- or what is wrong, and the buffer as it was
pub record Unsaid (e : Fault) (old new : List ℕ) (said : Result AnswerLine Fault) : Type 0 where
  pub line : said ≡ Err e
  pub content : new ≡ old

abbrev pub Says : Result Shown Fault → List ℕ → List ℕ → Result AnswerLine Fault → Type 0
Says (Ok x) old new said = IsOkAnd said (Shows x old new)
Says (Err e) old new said = Unsaid e old new said

-- a value that can be shown: its text lies in the page, and is no longer than a text may be
abbrev pub Showable : List ℕ → EntryHeld → Type 0
Showable page held.Broken = Unit {0}
Showable page held.Nothing = Unit {0}
Showable page (held.Here v x) = InPage page x × ShortText (datum_in page x)
