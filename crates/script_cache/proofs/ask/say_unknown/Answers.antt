use mathlib.Core.Path.{refl}
use Rattle.base_octets.specs.Store.{store}
use Rattle.im_writer.specs.Envelope.{big_octets}
use Rattle.script_cache.proofs.ask.say_unknown.Goals as goal

pub returns-in-Broken : goal.returns-in-Broken
unfolding store
returns-in-Broken c = rw c.in-Broken.is (record { line = c.said.ensures; content = refl })

pub returns-in-Nothing : goal.returns-in-Nothing
unfolding store
returns-in-Nothing c = rw c.in-Nothing.is (record { line = c.said-in-Nothing.ensures; content = refl })

pub returns-in-Exchange : goal.returns-in-Exchange
unfolding big_octets
returns-in-Exchange c = rw c.in-Exchange.is (record { line = c.said-in-Exchange.ensures; content = c.put_exchange.ensures })
