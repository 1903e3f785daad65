use mathlib.Core.Path.{sym}
use Rattle.cache_state.specs.Begin.{keeping, asked_as}
use Rattle.cache_state.proofs.WordLaws.{mark-same}
use Prim.Native.Nat.{◌+◌}
use Rattle.cache_state.proofs.begin.asked_as.Goals as goal

pub returns : goal.returns
unfolding asked_as keeping
returns c = let t = c.args.t in let a = c.args in λ clusters keys versions kinds words order lengths kept message e j. record { cluster_count = t.cluster_count; count = t.count; primed = sym (mark-same t.primed c.requires.1) j; used = t.used + 1; exchange = t.used + 1; stage = a.stage; turn = 1; status = 0; endpoint = a.endpoint; cluster = a.cluster; attribute = a.attribute; unknown = c.unknown_after.ensures kept j; len = sym e j }
