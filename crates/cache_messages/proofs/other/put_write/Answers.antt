use Rattle.cache_messages.proofs.MessageLaws.{after-envelope}
use Rattle.cache_messages.specs.Messages.{write_message}
use Rattle.im_request_writer.proofs.RequestLaws.{write-bound}
use Rattle.tlv_reader.specs.Value.{datum_in}
use Rattle.base_octets.proofs.StoreLaws.{then}
use native.Mathlib.Omega.{arith}
use Rattle.cache_messages.proofs.other.put_write.Goals as goal

pub put_write_request-requires : goal.put_write_request-requires
put_write_request-requires c = let o = after-envelope _ _ _ _ c.put_envelope-p.ensures in let a = c.args in let b = write-bound a.given a.version a.endpoint a.cluster a.attribute (datum_in a.src.now a.v) c.ranges.version.fits c.ranges.endpoint.fits c.ranges.cluster.fits c.ranges.attribute.fits c.requires.1.0 in (c.requires.0, omega (arith, c.requires.1.1.1.1, o.0, o.1, b))

pub returns : goal.returns
unfolding write_message
returns c = let o = after-envelope _ _ _ _ c.put_envelope-p.ensures in let a = c.args in let b = write-bound a.given a.version a.endpoint a.cluster a.attribute (datum_in a.src.now a.v) c.ranges.version.fits c.ranges.endpoint.fits c.ranges.cluster.fits c.ranges.attribute.fits c.requires.1.0 in (then c.put_envelope-p.ensures c.put_write_request.ensures, omega (arith, o.0, c.put_write_request.ensures.place, b))
