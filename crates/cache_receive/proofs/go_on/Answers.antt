use Rattle.cache_receive.specs.Receive.{next_awaited, goes_on}
use Rattle.cache_receive.proofs.LeaveLaws.{next_standing, left-on}
use Rattle.cache_state.specs.Words.{held_in, request_of, standing_words}
use Rattle.cache_state.specs.Begin.{keeping}
use Rattle.cache_state.proofs.ReactLaws.{message-length, sent-as}
use Rattle.base_octets.specs.Store.{store}
use lib.ListN.{length, take, drop}
use native.Mathlib.Omega.{arith}
use Prim.Native.Nat.{ℕ, ◌-◌, ◌≤◌}
use mathlib.Core.Path.{sym, ap, ◌∙◌}
use Rattle.cache_receive.proofs.go_on.Goals as goal
use Rattle.cache_receive.proofs.go_on.Goals.{After-put_success-end}

-- the message has room
room-here : (c : After-put_success-end) → c.put_success-end.result ≤ length c.args.out.now
room-here c = omega (arith, c.put_success-end.ensures.1, c.requires.1.1.1.1.1)

pub returns : goal.returns
unfolding goes_on
returns c = let a = c.args in let p = c.requires in let room = room-here (goal.at.returns c).After-put_success-end in let e = message-length c.put_success-end.ensures.0 room in
    λ clusters keys versions kinds words order lengths page. sent-as c.put_success-end.ensures.0 room (λ m. record { held = held_in clusters keys versions kinds words order lengths a.t; asked = keeping (next_awaited (request_of a.t a.kept.now)) m }) page (ap (λ (k : ℕ). record { number = 0; len = k }) (sym e)) (left-on clusters keys versions kinds words order lengths p.0 p.1.0 a.t a.kept.now (take (c.put_success-end.result - 0) (drop 0 c.put_success-end.new.out)) p.1.1.0 (c.put_standing.ensures ∙ ap (λ (k : ℕ). store a.asked.now 0 (standing_words (next_standing a.t k))) (sym e)) c.keep.ensures.kept_after)
