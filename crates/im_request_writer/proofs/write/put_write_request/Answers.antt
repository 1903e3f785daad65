use native.Mathlib.Omega.{arith}
use Rattle.base_octets.proofs.StoreLaws.{then}
use Rattle.tlv_reader.specs.Value.{datum_in}
use Rattle.im_request_writer.proofs.RequestLaws.{length-write, write-octets}
use Rattle.im_request_writer.proofs.write.put_write_request.Goals as goal

pub returns : goal.returns
returns c =
    let a = c.args in
    rw (write-octets a.given a.version a.endpoint a.cluster a.attribute (datum_in a.page.now a.v)) at
    (then c.put_write_open-p.ensures (then c.put_version-q.ensures (then c.put_data-r.ensures (then c.put_end-s.ensures c.put_revision.ensures))))

pub put_write_open-p-requires : goal.put_write_open-p-requires
put_write_open-p-requires c =
    let a = c.args in
    omega (arith, c.requires.1, length-write a.given a.version a.endpoint a.cluster a.attribute (datum_in a.page.now a.v))

pub put_version-q-requires : goal.put_version-q-requires
put_version-q-requires c =
    let a = c.args in
    omega (arith, c.requires.1, length-write a.given a.version a.endpoint a.cluster a.attribute (datum_in a.page.now a.v))

pub put_data-r-requires : goal.put_data-r-requires
put_data-r-requires c =
    let a = c.args in
    (c.requires.0, omega (arith, c.requires.1, length-write a.given a.version a.endpoint a.cluster a.attribute (datum_in a.page.now a.v)))

pub put_end-s-requires : goal.put_end-s-requires
put_end-s-requires c =
    let a = c.args in
    omega (arith, c.requires.1, length-write a.given a.version a.endpoint a.cluster a.attribute (datum_in a.page.now a.v))

pub put_revision-requires : goal.put_revision-requires
put_revision-requires c =
    let a = c.args in
    omega (arith, c.requires.1, length-write a.given a.version a.endpoint a.cluster a.attribute (datum_in a.page.now a.v))
