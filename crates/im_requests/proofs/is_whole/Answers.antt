use Rattle.std.specs.Prelude.{Option}
use mathlib.Core.Path.{sym, ap}
use Rattle.im_members.specs.declared.Stop.{Stop}
use Rattle.im_members.specs.Pass.{pass_with}
use Rattle.im_requests.specs.Message.{whole_pass}
use Rattle.im_requests.proofs.is_whole.Goals as goal

pub returns-in-Some : goal.returns-in-Some
unfolding whole_pass
returns-in-Some c = λ at codes. ap (λ (r : Option Stop). whole_pass c.args.len (pass_with r at codes)) (sym c.in-Some.is)

pub returns-in-None : goal.returns-in-None
unfolding whole_pass
returns-in-None c = λ at codes. ap (λ (r : Option Stop). whole_pass c.args.len (pass_with r at codes)) (sym c.in-None.is)
