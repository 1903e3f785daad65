use mathlib.Core.Path.{sym, ◌∙◌, refl}
use lib.Dec.{eqb}
use Rattle.cache_state.specs.State.{cache_right}
use Rattle.cache_state.proofs.cache_ok.Goals as goal

pub returns-then-not-words_ok : goal.returns-then-not-words_ok
unfolding cache_right
returns-then-not-words_ok c = λ kept. rw (sym c.words_ok.ensures ∙ c.if-not-words_ok.true) refl

pub returns-then-not-held_ok : goal.returns-then-not-held_ok
unfolding cache_right
returns-then-not-held_ok c = let t = c.args.t in λ kept. rw (sym c.words_ok.ensures ∙ c.if-not-words_ok.false, sym (c.held_ok.ensures (eqb t.primed 1)) ∙ c.if-not-held_ok.true) refl

pub returns : goal.returns
unfolding cache_right
returns c = let t = c.args.t in λ kept. rw (sym c.words_ok.ensures ∙ c.if-not-words_ok.false, sym (c.held_ok.ensures (eqb t.primed 1)) ∙ c.if-not-held_ok.false) (c.asked_ok.ensures kept)
