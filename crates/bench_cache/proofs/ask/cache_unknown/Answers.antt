use Rattle.bench_cache.proofs.ask.cache_unknown.Goals as goal

pub returns : goal.returns
returns c = (_, (c.unknown-x.ensures, c.abandoned_last.ensures))
