-- What a line leaves behind (docs/SCRIPTS.md): the ends after it, and their newest messages.
use Rattle.std.specs.Prelude.{List, Bool, ℕ, ◌-◌, ◌^◌, Some, Option, Ok, Err, Result}
use Rattle.script_lines.specs.declared.Scan.{Scan}
use Rattle.script_lines.specs.declared.number.Number.{Number as NumberRead}
use Rattle.script_lines.specs.Words.{is_done}
use Rattle.script_lines.specs.Numbers.{number_at}
use Rattle.script_answer.specs.declared.AnswerLine.{AnswerLine}
use Rattle.script_answer.specs.declared.Fault.{Fault}
use Rattle.script_answer.specs.declared.message.MessageWords.{MessageWords}
use Rattle.script_answer.specs.Messages.{answer, silent, newer_of}
use Rattle.script_setup.specs.declared.access.Table.{Table}
use Rattle.script_setup.specs.declared.access.Given.{Given}
use Rattle.script_server.specs.declared.ServerMemory.{ServerMemory}
use Rattle.script_server.specs.declared.ServerAnswered.{ServerAnswered}
use Rattle.script_cache.specs.declared.CacheMemory.{CacheMemory}
use Rattle.script_cache.specs.declared.CacheAnswered.{CacheAnswered}
use Rattle.script_cache.specs.Lines.{used_up}
use Rattle.script_player.specs.declared.ends.Player.{Player}
use Rattle.script_player.specs.declared.ends.Played.{Played}

abbrev pub played : Player → Result (Option AnswerLine) Fault → Played
played p said = record { player = p; said = said }

-- what is wrong
abbrev pub wrong_by : Player → Fault → Played
wrong_by p fault = played p (Err fault)

-- a line that changes nothing
abbrev pub asked_by : Player → Result AnswerLine Fault → Played
asked_by p (Ok line) = played p (Ok (Some line))
asked_by p (Err fault) = wrong_by p fault

-- a line that says nothing, if it could be read
abbrev pub silent_by : Player → Bool → Played
silent_by p ok = played p (silent ok)

-- a player with another access table, buffer, server or cache
abbrev pub with_given : Player → Table → Player
with_given p t = record { given = t; live = p.live; table = p.table; room = p.room; server = p.server; cache = p.cache; sent = p.sent; replied = p.replied }

abbrev pub with_room : Player → ℕ → Player
with_room p n = record { given = p.given; live = p.live; table = p.table; room = n; server = p.server; cache = p.cache; sent = p.sent; replied = p.replied }

abbrev pub with_server : Player → ServerMemory → MessageWords → Player
with_server p server reply = record { given = p.given; live = p.live; table = p.table; room = p.room; server = server; cache = p.cache; sent = p.sent; replied = reply }

abbrev pub with_cache : Player → CacheMemory → MessageWords → Player
with_cache p cache message = record { given = p.given; live = p.live; table = p.table; room = p.room; server = p.server; cache = cache; sent = message; replied = p.replied }

-- the server after a line; its reply, if it made one, is its newest
abbrev pub replied_by : Player → Result ServerAnswered Fault → List ℕ → Played
replied_by p (Ok r) out =
    let o = r.outcome in
    played (with_server p r.server (newer_of p.replied out o.len)) (Ok (Some (answer o.number o.len)))
replied_by p (Err fault) out = wrong_by p fault

-- the cache after a line; its message, if it made one, is its newest
abbrev pub acted_by : Player → Result CacheAnswered Fault → List ℕ → Played
acted_by p (Ok a) out =
    let o = a.outcome in
    played (with_cache p a.cache (newer_of p.sent out o.len)) (Ok (Some (answer o.number o.len)))
acted_by p (Err fault) out = wrong_by p fault

-- after an access line
abbrev pub given_by : Player → Given → Played
given_by p g = silent_by (with_given p g.table) g.ok

-- after a number that is the buffer's length
abbrev pub room_by : Player → NumberRead → Played
room_by p n = silent_by (with_room p n.value) (is_done n.next)

unfoldable pub buffer_at : List ℕ → Scan → Player → Played
buffer_at line s p = room_by p (number_at line s (2 ^ 64 - 1))

-- after a number up to which the cache's exchange numbers count as used
abbrev pub used_by : Player → NumberRead → Played
used_by p n = silent_by (with_cache p (used_up p.cache n.value) p.sent) (is_done n.next)

-- the last exchange number, of 40 bits
abbrev pub last_exchange : ℕ
last_exchange = 2 ^ 40 - 1

unfoldable pub used_at : List ℕ → Scan → Player → Played
used_at line s p = used_by p (number_at line s last_exchange)
