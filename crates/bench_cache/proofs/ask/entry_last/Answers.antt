use Rattle.bench_cache.proofs.ask.entry_last.Goals as goal

pub returns-in-Broken : goal.returns-in-Broken
returns-in-Broken c = rw c.in-Broken.is c.said.ensures

pub returns-in-Nothing : goal.returns-in-Nothing
returns-in-Nothing c = rw c.in-Nothing.is c.said-in-Nothing.ensures

pub returns-in-Here : goal.returns-in-Here
returns-in-Here c = rw c.in-Here.is c.said-in-Here.ensures
