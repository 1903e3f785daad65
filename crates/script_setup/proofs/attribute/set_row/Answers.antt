use mathlib.Core.Path.{refl}
use Rattle.script_setup.specs.Attributes.{row_set}
use Rattle.script_setup.proofs.attribute.set_row.Goals as goal

pub returns : goal.returns
unfolding row_set
returns c = refl
