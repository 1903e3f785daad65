use mathlib.Core.Path.{ap}
use lib.ListN.{length}
use Rattle.bench_cache.proofs.ask.cache_text_len.Goals as goal

pub returns : goal.returns
returns c = λ kept. ap length (c.text-x.ensures kept)
