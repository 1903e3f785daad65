use Rattle.bench_cache.proofs.ask.ended_last.Goals as goal

pub returns-in-Broken : goal.returns-in-Broken
returns-in-Broken c = rw c.in-Broken.is c.said.ensures

pub returns-in-NoneYet : goal.returns-in-NoneYet
returns-in-NoneYet c = rw c.in-NoneYet.is c.said-in-NoneYet.ensures

pub returns-in-Open : goal.returns-in-Open
returns-in-Open c = rw c.in-Open.is c.said-in-Open.ensures

pub returns-in-LastPart : goal.returns-in-LastPart
returns-in-LastPart c = rw c.in-LastPart.is c.said-in-LastPart.ensures

pub returns-in-Status : goal.returns-in-Status
returns-in-Status c = rw c.in-Status.is c.said-in-Status.ensures
