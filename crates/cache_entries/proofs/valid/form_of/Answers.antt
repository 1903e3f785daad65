use mathlib.Core.Path.{refl, sym, ◌∙◌}
use Rattle.cache_entries.specs.Valid.{form_of}
use Rattle.cache_entries.proofs.valid.form_of.Goals as goal

pub returns-then-ascii : goal.returns-then-ascii
unfolding form_of
returns-then-ascii c = rw (sym c.ascii.ensures ∙ c.if-ascii.true) refl

pub returns-then-valid : goal.returns-then-valid
unfolding form_of
returns-then-valid c = rw (sym c.ascii.ensures ∙ c.if-ascii.false, sym c.valid.ensures ∙ c.if-valid.true) refl

pub returns : goal.returns
unfolding form_of
returns c = rw (sym c.ascii.ensures ∙ c.if-ascii.false, sym c.valid.ensures ∙ c.if-valid.false) refl
