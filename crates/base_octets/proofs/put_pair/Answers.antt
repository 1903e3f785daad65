use Rattle.base_octets.specs.Number.{bytes_of}
use Rattle.base_octets.specs.Store.{store}
use Rattle.base_octets.proofs.put_pair.Goals as goal

pub returns : goal.returns
unfolding store bytes_of
returns c = c.put2.ensures
