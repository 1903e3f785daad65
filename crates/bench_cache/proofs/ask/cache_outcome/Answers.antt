use Rattle.bench_cache.proofs.ask.cache_outcome.Goals as goal

pub returns : goal.returns
returns c = (_, (c.outcome-x.ensures, c.ended_last.ensures))
