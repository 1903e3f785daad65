use mathlib.Core.Path.{refl}
use native.Mathlib.Omega.{arith}
use Rattle.base_octets.specs.Store.{store}
use Rattle.im_request_writer.specs.Request.{version_octets}
use Rattle.im_request_writer.proofs.write.put_version.Goals as goal

pub returns-then-given : goal.returns-then-given
unfolding version_octets
returns-then-given c =
    rw c.if-given.true c.put_unsigned.ensures

pub returns : goal.returns
unfolding version_octets store
returns c = rw c.if-given.false (record { content = refl; place = omega arith })

pub put_unsigned-requires : goal.put_unsigned-requires
unfolding version_octets
put_unsigned-requires c = rw c.if-given.true at c.requires
