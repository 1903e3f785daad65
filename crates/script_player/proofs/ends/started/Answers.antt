use mathlib.Core.Path.{refl}
use Rattle.script_player.proofs.ends.started.Goals as goal

pub returns : goal.returns
returns c = λ edits. (c.start-made.result, c.start-made.ensures.by_index edits, record { player = record { gives = refl; lives = refl; judges = refl; lends = refl; serves = refl; caches = c.fresh.ensures; none-sent = c.no_message.ensures; none-replied = c.no_message-2.ensures }; answer = refl })
