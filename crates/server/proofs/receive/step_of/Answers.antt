use mathlib.Core.Path.{◌≡◌, sym, ap, ◌∙◌}
use mathlib.Core.Bool.{true, false}
use Rattle.im_exchange.specs.Rules.{beginning}
use Rattle.server.specs.Receive.{by_status, step_of}
use Rattle.server.proofs.receive.step_of.Goals as goal

pub returns-then-begins : goal.returns-then-begins
unfolding step_of
returns-then-begins c = let q : beginning c.args.action ≡ true = sym c.begins.ensures ∙ c.if-begins.true in rw q c.on_request.ensures

pub returns-in_default : goal.returns-in_default
unfolding step_of
returns-in_default c = let q : beginning c.args.action ≡ false = sym c.begins.ensures ∙ c.if-begins.false in rw q (sym (ap (by_status c.args.x c.args.e) (sym c.status_response.ensures ∙ c.in_default.is)))

pub returns : goal.returns
unfolding step_of
returns c = let q : beginning c.args.action ≡ false = sym c.begins.ensures ∙ c.if-begins.false in rw q (c.on_status.ensures ∙ sym (ap (by_status c.args.x c.args.e) (sym c.status_response.ensures ∙ c.in-Some.is)))
