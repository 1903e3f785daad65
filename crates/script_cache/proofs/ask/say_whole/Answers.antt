use mathlib.Core.Path.{refl}
use Rattle.base_octets.specs.Store.{store}
use Rattle.im_writer.specs.Envelope.{big_octets}
use Rattle.script_cache.proofs.ask.say_whole.Goals as goal

pub returns-in-Broken : goal.returns-in-Broken
unfolding store
returns-in-Broken c = rw c.in-Broken.is (record { line = c.said.ensures; content = refl })

pub returns-in-No : goal.returns-in-No
unfolding store
returns-in-No c = rw c.in-No.is (record { line = c.said-in-No.ensures; content = refl })

pub returns-in-At : goal.returns-in-At
unfolding big_octets
returns-in-At c = rw c.in-At.is (record { line = c.said-in-At.ensures; content = c.put_version.ensures })
