use Rattle.script_cache.specs.Acts.{resends_by, reads_by}
use Rattle.script_cache.proofs.RoomLaws.{in-room}
use Rattle.script_cache.proofs.ask_again.Goals as goal

pub returns-then-resending : goal.returns-then-resending
returns-then-resending c =
    let a = c.args in
    rw c.if-resending.true (in-room (λ n. resends_by a.cache a.page.now n) a.cache a.room a.out.now c.clip-n.ensures.value c.again.ensures)

pub returns : goal.returns
returns c =
    let a = c.args in
    rw c.if-resending.false (in-room (λ n. reads_by a.cache a.page.now n) a.cache a.room a.out.now c.clip-n.ensures.value c.read.ensures)
