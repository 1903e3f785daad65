use Rattle.bench_cache.proofs.ask.cache_entry.Goals as goal

pub returns : goal.returns
returns c = (_, (c.entry-x.ensures, c.entry_last.ensures))
