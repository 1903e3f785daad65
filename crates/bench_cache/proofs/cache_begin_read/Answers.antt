use Rattle.bench_cache.proofs.cache_begin_read.Goals as goal

pub returns : goal.returns
returns c = rw c.last.ensures c.begin_read-o.ensures
