use native.Mathlib.Omega.{arith}
use Rattle.base_octets.proofs.StoreLaws.{then}
use Rattle.im_writer.proofs.LengthLaws.{length-status-response}
use Rattle.server_replies.specs.Messages.{status_message}
use Rattle.server_replies.proofs.MessageLaws.{after-envelope}
use Rattle.server_replies.proofs.message.put_status.Goals as goal

pub put_status_response-requires : goal.put_status_response-requires
put_status_response-requires c = let o = after-envelope _ _ _ _ c.put_envelope-p.ensures in omega (arith, c.requires.1.1, o.0, o.1, length-status-response c.args.code c.ranges.code.fits)

pub returns : goal.returns
unfolding status_message
returns c = then c.put_envelope-p.ensures c.put_status_response.ensures
