-- A cache's whole state, and the rules that it keeps (refusal 2, RULES 6.1).
use Rattle.std.specs.Prelude.{◌≡◌, Bool, true, ◌&&◌, ◌||◌, not, List, ℕ, ◌≤◌, ◌<◌, eqb, ltb, leb}
use Rattle.tlv_reader.specs.Octet.{pick}
use Rattle.cache_entries.specs.Valid.{held_right}
use Rattle.im_writer.specs.Envelope.{exchange_limit}
use Rattle.im_envelope.specs.Envelope.{max_message}
use Rattle.im_exchange.specs.Rules.{first_reply}
use Rattle.cache_state.specs.declared.Request.{Request}
use Rattle.cache_state.specs.declared.CacheState.{CacheState}

-- how the newest request stands: none yet, an open read, an open write, ended on its last part, ended with a status
abbrev pub none_yet : ℕ
none_yet = 0

abbrev pub reading : ℕ
reading = 1

abbrev pub writing : ℕ
writing = 2

abbrev pub last_part : ℕ
last_part = 3

abbrev pub with_status : ℕ
with_status = 4

unfoldable pub is_open : ℕ → Bool
is_open stage = eqb stage reading || eqb stage writing

-- an open request has sent a message, in an exchange from 1 on, and awaits a turn from 1 on; a write has one reply
unfoldable pub open_right : Request → Bool
open_right x =
    not (eqb x.exchange 0) && (not (eqb x.turn 0) && (pick (eqb x.stage writing) (eqb x.turn first_reply) true && ltb 0 x.len))

-- numbers of 40 bits that were used
unfoldable pub asked_right : Request → Bool
asked_right x =
    ltb x.used exchange_limit
    && (leb x.exchange x.used
    && (leb x.unknown x.used
    && (leb x.stage with_status && (leb x.len max_message && pick (is_open x.stage) (open_right x) true))))

unfoldable pub cache_right : List ℕ → CacheState → Bool
cache_right page s = held_right page s.held && asked_right s.asked

-- the same of the newest request, with each of its parts by name
pub record RightAsked (x : Request) : Type 0 where
  pub used : x.used < exchange_limit
  pub exchange : x.exchange ≤ x.used
  pub unknown : x.unknown ≤ x.used
  pub stage : x.stage ≤ with_status
  pub len : x.len ≤ max_message
  pub sent : pick (is_open x.stage) (open_right x) true ≡ true
