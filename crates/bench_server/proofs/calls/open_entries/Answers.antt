use mathlib.Core.Path.{refl}
use Rattle.bench_server.specs.Calls.{open_entries}
use Rattle.bench_server.proofs.calls.open_entries.Goals as goal

pub returns : goal.returns
unfolding open_entries
returns c = refl
