use Rattle.script_cache.proofs.ask.put_version.Goals as goal

pub returns : goal.returns
returns c = c.put_four.ensures
