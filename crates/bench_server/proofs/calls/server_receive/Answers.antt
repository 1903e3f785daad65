use mathlib.Core.Path.{sym}
use Rattle.bench_server.proofs.calls.server_receive.Goals as goal

pub returns : goal.returns
returns c = rw (sym c.open_entries-t.ensures) c.receive_in-o.ensures
