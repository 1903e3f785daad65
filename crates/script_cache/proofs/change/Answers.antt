use Rattle.script_cache.specs.Acts.{writes_by}
use Rattle.script_cache.proofs.RoomLaws.{in-room}
use Rattle.script_cache.proofs.change.Goals as goal

pub returns : goal.returns
returns c =
    let a = c.args in
    in-room (λ n. writes_by a.cache a.page.now a.a a.version a.src.now a.new n) a.cache a.room a.out.now c.clip-n.ensures.value
    (rw (c.is_some.ensures, c.unwrap_or.ensures) at c.begin_write-outcome.ensures)
