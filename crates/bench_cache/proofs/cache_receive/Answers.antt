use Rattle.bench_cache.proofs.cache_receive.Goals as goal

pub returns : goal.returns
returns c = rw c.last.ensures c.receive-o.ensures
