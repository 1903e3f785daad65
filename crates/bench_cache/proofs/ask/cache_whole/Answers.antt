use Rattle.bench_cache.proofs.ask.cache_whole.Goals as goal

pub returns : goal.returns
returns c = (_, (c.coherent-x.ensures, c.whole_last.ensures))
