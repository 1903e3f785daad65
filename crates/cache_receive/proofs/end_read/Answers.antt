use Rattle.cache_receive.specs.Receive.{primed_as, ended_as}
use Rattle.cache_receive.proofs.LeaveLaws.{left-last}
use Rattle.cache_state.specs.State.{last_part}
use Rattle.cache_state.specs.Words.{held_in, request_of}
use Rattle.cache_state.specs.Reaction.{begins-none}
use Rattle.cache_state.proofs.ReactLaws.{unsent-as}
use mathlib.Core.Path.{refl}
use Rattle.cache_receive.proofs.end_read.Goals as goal

pub returns : goal.returns
returns c = let a = c.args in let p = c.requires in
    λ clusters keys versions kinds words order lengths kept page old. unsent-as (begins-none 1 (record { held = primed_as (held_in clusters keys versions kinds words order lengths a.t); asked = ended_as (request_of a.t kept) last_part 0 })) page refl (left-last clusters keys versions kinds words order lengths p.0 p.1 a.t c.put_standing.ensures)
