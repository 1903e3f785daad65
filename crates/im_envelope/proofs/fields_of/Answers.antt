use mathlib.Core.Path.{refl}
use Rattle.im_envelope.specs.Envelope.{fields_of}
use Rattle.im_envelope.proofs.fields_of.Goals as goal

pub returns : goal.returns
unfolding fields_of
returns c = refl
