use mathlib.Core.Path.{sym, ap, ◌∙◌}
use Rattle.base_utf8.specs.WellFormed.{well_formed}
use Rattle.base_utf8.proofs.Cuts.{cut-exactly}
use Rattle.server_values.proofs.pages.is_formed.Goals as goal

pub returns-then-whole : goal.returns-then-whole
returns-then-whole c =
    c.is_cut_well.ensures ∙ sym (cut-exactly c.args.page.now c.args.start c.args.len (c.requires c.if-whole.true))

pub returns : goal.returns
returns c = c.valid.ensures ∙ ap well_formed c.part.ensures
