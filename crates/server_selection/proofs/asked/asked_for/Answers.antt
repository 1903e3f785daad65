use mathlib.Core.Path.{refl}
use Rattle.server_selection.specs.Asked.{asked_for}
use Rattle.server_selection.proofs.asked.asked_for.Goals as goal

pub returns : goal.returns
unfolding asked_for
returns c = rw (c.named16.ensures, c.named32.ensures, c.named32-2.ensures) refl
