use Rattle.cache_entries.specs.Values.{long_v}
use Rattle.cache_entries.proofs.ValueLaws.{not-long}
use Rattle.cache_entries.proofs.values.is_long.Goals as goal

pub returns-in_default : goal.returns-in_default
returns-in_default c = not-long c.args.v c.in_default.not-Text

pub returns : goal.returns
unfolding long_v
returns c = rw c.in-Text.is
