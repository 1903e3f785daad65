use Rattle.script_lines.proofs.Fills.{take-clip}
use Rattle.script_answer.specs.Messages.{content_of}
use Rattle.script_cache.specs.Acts.{receives_by}
use Rattle.script_cache.proofs.RoomLaws.{in-room}
use Rattle.script_cache.proofs.hand.Goals as goal

pub returns : goal.returns
returns c =
    let a = c.args in
    in-room (λ n. receives_by a.cache a.page.now (content_of a.m) n) a.cache a.room a.out.now c.clip-n.ensures.value
    (rw (take-clip a.m.len a.m.bytes c.clip-k.ensures.value) at c.take.ensures)
