use mathlib.Core.Path.{refl}
use Rattle.base_octets.specs.Store.{store}
use Rattle.script_cache.proofs.ask.say_outcome.Goals as goal

pub returns-in-Broken : goal.returns-in-Broken
unfolding store
returns-in-Broken c = rw c.in-Broken.is (record { line = c.said.ensures; content = refl })

pub returns-in-NoneYet : goal.returns-in-NoneYet
unfolding store
returns-in-NoneYet c = rw c.in-NoneYet.is (record { line = c.said-in-NoneYet.ensures; content = refl })

pub returns-in-Open : goal.returns-in-Open
unfolding store
returns-in-Open c = rw c.in-Open.is (record { line = c.said-in-Open.ensures; content = refl })

pub returns-in-LastPart : goal.returns-in-LastPart
unfolding store
returns-in-LastPart c = rw c.in-LastPart.is (record { line = c.said-in-LastPart.ensures; content = refl })

pub returns-in-Status : goal.returns-in-Status
unfolding store
returns-in-Status c = rw c.in-Status.is (record { line = c.said-in-Status.ensures; content = refl })
