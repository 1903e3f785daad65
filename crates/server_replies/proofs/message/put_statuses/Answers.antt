use native.Mathlib.Omega.{arith}
use Rattle.base_octets.proofs.StoreLaws.{then}
use Rattle.server_replies.specs.Messages.{response_message}
use Rattle.server_replies.proofs.MessageLaws.{after-envelope}
use Rattle.server_replies.proofs.message.put_statuses.Goals as goal

pub put_response-requires : goal.put_response-requires
put_response-requires c = let o = after-envelope _ _ _ _ c.put_envelope-p.ensures in let p = c.requires in (p.0, (p.1.0, omega (arith, p.1.1.1.1, o.0, o.1)))

pub returns : goal.returns
unfolding response_message
returns c = then c.put_envelope-p.ensures c.put_response.ensures
