use Rattle.cache_receive.specs.Receive.{ended_with, ended_as}
use Rattle.cache_receive.proofs.LeaveLaws.{mark-low, refused-by, left_ended}
use Rattle.cache_state.specs.State.{with_status}
use Rattle.cache_state.specs.Words.{held_in, request_of}
use Rattle.cache_state.specs.Reaction.{begins-none}
use Rattle.cache_state.proofs.ReactLaws.{unsent-as}
use borrow.Author.Tests.{lt-ltb, le-ltb}
use mathlib.Core.Path.{refl}
use Rattle.cache_receive.proofs.end_with.Goals as goal

pub returns-then-code-ge256 : goal.returns-then-code-ge256
unfolding ended_with
returns-then-code-ge256 c = λ clusters keys versions kinds words order lengths kept page old. rw (le-ltb c.args.code 256 c.if-code-ge256.true) (refused-by clusters keys versions kinds words order lengths c.requires.0 c.refuse.ensures)

pub returns : goal.returns
unfolding ended_with
returns c = let a = c.args in let p = c.requires in
    λ clusters keys versions kinds words order lengths kept page old. rw (lt-ltb a.code 256 c.if-code-ge256.false) (unsent-as (begins-none 1 (record { held = held_in clusters keys versions kinds words order lengths a.t; asked = ended_as (request_of a.t kept) with_status a.code })) page refl (left_ended clusters keys versions kinds words order lengths p.1.0 p.1.1 a.t a.code (mark-low a.asked.now p.0 p.1.0) c.put_standing.ensures))
