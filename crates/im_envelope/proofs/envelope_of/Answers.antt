use Rattle.std.specs.Prelude.{Some}
use mathlib.Core.Path.{refl, ap, ◌∙◌}
use borrow.Author.Tests.{lt-ltb, le-ltb}
use Rattle.im_envelope.specs.Envelope.{envelope_in, fields_of}
use Rattle.im_envelope.proofs.envelope_of.Goals as goal

pub returns-then-s-lt-LENGTH : goal.returns-then-s-lt-LENGTH
unfolding envelope_in
returns-then-s-lt-LENGTH c = simp (lt-ltb _ _ c.if-s-lt-LENGTH.true)

pub returns : goal.returns
unfolding envelope_in
returns c = ap Some (c.fields_of.ensures ∙ ap fields_of c.word.ensures) ∙ rw (le-ltb _ _ c.if-s-lt-LENGTH.false) refl
