use mathlib.Core.Path.{refl}
use borrow.Author.Tests.{not-true, not-false}
use Rattle.server.specs.Start.{altered_by}
use Rattle.script_answer.specs.Messages.{zeros}
use Rattle.script_server.specs.Replies.{edits_size, server_of, change_turn}
use Rattle.script_server.proofs.RoomLaws.{in-page}
use Rattle.script_server.proofs.change_line.Goals as goal

pub returns-then-not-v : goal.returns-then-not-v
unfolding zeros change_turn
returns-then-not-v c =
    let v = c.read_value-v in
    λ room buffer. rw (← c.read_path-a.ensures, ← v.ensures.value, not-true v.result.ok c.if-not-v.true) (record { says = refl; texts = refl; buffer = refl })

pub returns : goal.returns
unfolding zeros change_turn
returns c =
    let a = c.args in
    let p = c.read_path-a in
    let v = c.read_value-v in
    let w = a.w.now in
    let done = in-page (λ edits. altered_by (server_of w a.defaults.now edits a.server) p.result.endpoint p.result.cluster p.result.attribute v.new.out v.result.value) a.server (edits_size w) a.edits.now (rw c.edits_size.ensures at c.clip-size.ensures.value) c.alter.ensures in
    λ room buffer. rw (← p.ensures, ← v.ensures.value, not-false v.result.ok c.if-not-v.false, ← v.ensures.out_after) (record { changes = done; buffer = refl })
