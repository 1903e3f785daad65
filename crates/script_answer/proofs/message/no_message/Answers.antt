use mathlib.Core.Path.{refl}
use Rattle.script_answer.specs.Messages.{zeros}
use Rattle.script_answer.proofs.message.no_message.Goals as goal

pub returns : goal.returns
unfolding zeros
returns c = refl
