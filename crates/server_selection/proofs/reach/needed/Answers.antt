use mathlib.Core.Path.{sym, ap, ◌∙◌}
use Rattle.node_schema.specs.Rows.{attribute_row}
use Rattle.server_selection.specs.declared.reach.Use.{Use}
use Rattle.server_selection.specs.Reach as specs
use Rattle.server_selection.proofs.reach.needed.Goals as goal

pub returns-in-Read : goal.returns-in-Read
returns-in-Read c = let a = c.args in c.read_privilege.ensures ∙ sym (ap (λ (x : Use). specs.needed x (attribute_row a.w.now a.i)) c.in-Read.is)

pub returns-in-Write : goal.returns-in-Write
returns-in-Write c = let a = c.args in c.write_privilege.ensures ∙ sym (ap (λ (x : Use). specs.needed x (attribute_row a.w.now a.i)) c.in-Write.is)
