use Rattle.server.specs.Receive.{received}
use Rattle.script_lines.proofs.Fills.{take-clip}
use Rattle.script_answer.specs.Messages.{content_of}
use Rattle.script_server.specs.Replies.{edits_size, server_of, caller_by}
use Rattle.script_server.proofs.RoomLaws.{in-room}
use Rattle.script_server.proofs.hand_message.Goals as goal

pub returns : goal.returns
returns c =
    let a = c.args in
    let w = a.w.now in
    in-room (λ edits n. received (server_of w a.defaults.now edits a.server) (caller_by w a.table a.subject) (content_of a.m) n) a.server (edits_size w) a.room a.edits.now a.out.now
    (rw c.edits_size.ensures at c.clip-size.ensures.value) c.clip-k.ensures.value
    (rw (take-clip a.m.len a.m.bytes c.clip-n.ensures.value) at c.hand.ensures)
