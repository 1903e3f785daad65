use Rattle.base_octets.specs.Store.{store}
use Rattle.im_writer.specs.Envelope.{big_octets}
use Rattle.script_cache.proofs.ask.put_exchange.Goals as goal

pub returns : goal.returns
unfolding store big_octets
returns c = c.put_four.ensures
