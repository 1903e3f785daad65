-- The exchange rules (RULES 3.8 to 3.16): what a message means for the exchange that is being served. `last` and k are those of RULES 3.8.
use Rattle.std.specs.Prelude.{Bool, true, false, ◌&&◌, not, ℕ, ◌+◌, eqb, ltb, leb}
use Rattle.tlv_reader.specs.Octet.{pick}
use Rattle.im_exchange.specs.declared.Action.{Action}
use Rattle.im_exchange.specs.declared.Action.TheVariants.{Status, Read, Write, Other}
use Rattle.im_exchange.specs.declared.Step.{Step}
use Rattle.im_exchange.specs.declared.Step.TheVariants.{Silence, Begin, Repeat, Next, Close}
use Rattle.im_exchange.specs.declared.Progress.{Progress}

-- the opcodes (RULES 3.3)
abbrev pub status_opcode : ℕ
status_opcode = 1

abbrev pub read_opcode : ℕ
read_opcode = 2

abbrev pub report_opcode : ℕ
report_opcode = 5

abbrev pub write_opcode : ℕ
write_opcode = 6

abbrev pub write_response_opcode : ℕ
write_response_opcode = 7

-- the action that an opcode stands for, of those that a server takes: a server takes 1, 2 and 6
unfoldable pub action_of : ℕ → Action
action_of opcode =
    pick (eqb opcode status_opcode) Status (pick (eqb opcode read_opcode) Read (pick (eqb opcode write_opcode) Write Other))

-- an action that may begin an exchange
abbrev pub beginning : Action → Bool
beginning Status = false
beginning Read = true
beginning Write = true
beginning Other = false

-- an action that a server takes
abbrev pub server_takes : Action → Bool
server_takes Status = true
server_takes Read = true
server_takes Write = true
server_takes Other = false

-- the turn of the first reply (RULES 3.6)
abbrev pub first_reply : ℕ
first_reply = 1

-- the highest turn of 16 bits
abbrev pub max_turn : ℕ
max_turn = 65535

-- a request: RULES 3.10 and 3.11
unfoldable pub on_request : Progress → ℕ → ℕ → Step
on_request x exchange turn =
    pick (eqb turn 0)
    (pick (ltb x.last exchange) Begin
    (pick (eqb exchange x.last && (eqb x.turn first_reply && eqb x.closed 0)) Repeat Silence))
    Silence

-- what a success for the newest reply brings: nothing, or the next part of a report, which was promised
abbrev pub nothing : ℕ
nothing = 0

abbrev pub part : ℕ
part = 1

-- a status at turn k, when more was promised: RULES 3.13 and 3.14; there is no turn after the highest
abbrev pub on_promised : ℕ → ℕ → Step
on_promised k code = pick (eqb code 0) (pick (ltb k max_turn) Next Silence) Close

-- a success at turn k - 1: RULES 3.12
abbrev pub on_earlier : ℕ → ℕ → ℕ → Step
on_earlier k turn code = pick (eqb code 0 && (leb first_reply turn && eqb (turn + 1) k)) Repeat Silence

-- a status with this code; RULES 3.16 where it is closed
unfoldable pub on_status : Progress → ℕ → ℕ → ℕ → Step
on_status x exchange turn code =
    pick (eqb exchange x.last && eqb x.closed 0)
    (pick (eqb turn x.turn && not (eqb x.next nothing)) (on_promised x.turn code) (on_earlier x.turn turn code))
    Silence
