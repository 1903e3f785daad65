use borrow.Author.Tests.{le-ltb, lt-ltb}
use mathlib.Core.Path.{refl, sym, ◌∙◌}
use native.Mathlib.Omega.{arith}
use Rattle.im_responses.specs.Kept.{data_words}
use Rattle.im_responses.proofs.KeptLaws.{concrete-widths}
use Rattle.im_responses.proofs.kept.words_of.Goals as goal

pub returns-in_default : goal.returns-in_default
returns-in_default c = rw c.in_default.is refl

pub returns-then-not-concrete : goal.returns-then-not-concrete
unfolding data_words
returns-then-not-concrete c = rw (c.in-Shown.is, sym c.concrete.ensures ∙ c.if-not-concrete.true) refl

pub returns-then-d-ge-VERSIONS : goal.returns-then-d-ge-VERSIONS
unfolding data_words
returns-then-d-ge-VERSIONS c = rw (c.in-Shown.is, sym c.concrete.ensures ∙ c.if-not-concrete.false, le-ltb c.in-Shown.d.version 4294967296 c.if-d-ge-VERSIONS.true) refl

pub overflow_mul-result : goal.overflow_mul-result
overflow_mul-result c = let w = concrete-widths c.in-Shown.d.path (sym c.concrete.ensures ∙ c.if-not-concrete.false) in omega arith

pub overflow_add-result : goal.overflow_add-result
overflow_add-result c = let w = concrete-widths c.in-Shown.d.path (sym c.concrete.ensures ∙ c.if-not-concrete.false) in omega arith

pub overflow_mul-result-2 : goal.overflow_mul-result-2
overflow_mul-result-2 c = let w = concrete-widths c.in-Shown.d.path (sym c.concrete.ensures ∙ c.if-not-concrete.false) in omega arith

pub overflow_add-result-2 : goal.overflow_add-result-2
overflow_add-result-2 c = let w = concrete-widths c.in-Shown.d.path (sym c.concrete.ensures ∙ c.if-not-concrete.false) in omega arith

pub returns : goal.returns
unfolding data_words
returns c = rw (c.in-Shown.is, sym c.concrete.ensures ∙ c.if-not-concrete.false, lt-ltb c.in-Shown.d.version 4294967296 c.if-d-ge-VERSIONS.false) refl
