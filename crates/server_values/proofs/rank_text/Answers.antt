use mathlib.Core.Path.{◌∙◌}
use Rattle.server_values.proofs.rank_text.Goals as goal

pub returns : goal.returns
returns c = c.shown.ensures ∙ rw (c.factory_start-start.ensures, c.factory_length-len.ensures)
