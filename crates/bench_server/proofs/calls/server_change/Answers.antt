use mathlib.Core.Path.{sym}
use Rattle.bench_server.proofs.calls.server_change.Goals as goal

pub returns : goal.returns
returns c = λ kept. rw (sym c.given_value-new.ensures) (c.change.ensures kept)
