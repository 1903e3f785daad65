use mathlib.Core.Path.{sym, ap}
use Rattle.server_selection.specs.Items.{silent}
use Rattle.server_selection.proofs.items.silenced.Goals as goal

pub returns-in-Value : goal.returns-in-Value
returns-in-Value c = sym (ap silent c.in-Value.is)

pub returns-in-Status : goal.returns-in-Status
returns-in-Status c = sym (ap silent c.in-Status.is)

pub returns-in-Nothing : goal.returns-in-Nothing
returns-in-Nothing c = sym (ap silent c.in-Nothing.is)
