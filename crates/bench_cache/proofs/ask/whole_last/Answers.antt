use Rattle.bench_cache.proofs.ask.whole_last.Goals as goal

pub returns-in-Broken : goal.returns-in-Broken
returns-in-Broken c = rw c.in-Broken.is c.said.ensures

pub returns-in-No : goal.returns-in-No
returns-in-No c = rw c.in-No.is c.said-in-No.ensures

pub returns-in-At : goal.returns-in-At
returns-in-At c = rw c.in-At.is c.said-in-At.ensures
