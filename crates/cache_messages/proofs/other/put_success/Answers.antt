use Rattle.cache_messages.proofs.MessageLaws.{after-envelope}
use Rattle.cache_messages.specs.Messages.{success_message}
use Rattle.im_writer.proofs.LengthLaws.{length-status-response}
use Rattle.base_octets.proofs.StoreLaws.{then}
use native.Mathlib.Omega.{arith}
use Rattle.cache_messages.proofs.other.put_success.Goals as goal

pub put_status_response-requires : goal.put_status_response-requires
put_status_response-requires c = let o = after-envelope _ _ _ _ c.put_envelope-p.ensures in omega (arith, c.requires.1.1, o.0, o.1, length-status-response 0 (omega arith))

pub returns : goal.returns
unfolding success_message
returns c = let o = after-envelope _ _ _ _ c.put_envelope-p.ensures in (then c.put_envelope-p.ensures c.put_status_response.ensures, omega (arith, o.0, c.put_status_response.ensures.place, length-status-response 0 (omega arith)))
