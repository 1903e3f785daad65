use Rattle.bench_cache.proofs.cache_resend.Goals as goal

pub returns : goal.returns
returns c = rw c.last.ensures c.resend-o.ensures
