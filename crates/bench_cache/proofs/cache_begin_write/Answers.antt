use mathlib.Core.Path.{sym}
use Rattle.bench_cache.proofs.cache_begin_write.Goals as goal

pub returns : goal.returns
returns c = rw (c.last.ensures, sym c.given_value-new.ensures) c.begin_write-o.ensures
