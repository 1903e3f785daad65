use mathlib.Core.Path.{◌≡◌, ap, ◌∙◌}
use borrow.Author.Tests.{lt-ltb, le-ltb}
use native.Mathlib.Omega.{arith}
use lib.Signed.{mag}
use mir.Syntax.{w64}
use mir.ValLaws.{to_z-of_z}
use Rattle.tlv_writer.specs.Width.{least_of, least_signed_width}
use Rattle.tlv_writer.proofs.width.signed_width.Goals as goal
use Rattle.tlv_writer.proofs.width.signed_width.Goals.{After-magnitude-n}

is-magnitude : (c : After-magnitude-n) → c.magnitude-n.result ≡ mag c.args.z
is-magnitude c = c.magnitude-n.ensures ∙ ap mag (to_z-of_z w64 c.args.z c.ranges.z)

pub returns-then-n-lt128 : goal.returns-then-n-lt128
unfolding least_of least_signed_width
returns-then-n-lt128 c =
    let n = mag c.args.z in
    let e = is-magnitude (goal.at.returns-then-n-lt128 c).After-magnitude-n in
    record { value = simp (lt-ltb n 128 (omega arith)); small = omega arith }

pub returns-then-n-lt32768 : goal.returns-then-n-lt32768
unfolding least_of least_signed_width
returns-then-n-lt32768 c =
    let n = mag c.args.z in
    let e = is-magnitude (goal.at.returns-then-n-lt32768 c).After-magnitude-n in
    record { value = simp (le-ltb n 128 (omega arith), lt-ltb n 32768 (omega arith)); small = omega arith }

pub returns-then-n-lt2147483648 : goal.returns-then-n-lt2147483648
unfolding least_of least_signed_width
returns-then-n-lt2147483648 c =
    let n = mag c.args.z in
    let e = is-magnitude (goal.at.returns-then-n-lt2147483648 c).After-magnitude-n in
    record { value = simp (le-ltb n 128 (omega arith), le-ltb n 32768 (omega arith), lt-ltb n 2147483648 (omega arith)); small = omega arith }

pub returns : goal.returns
unfolding least_of least_signed_width
returns c =
    let n = mag c.args.z in
    let e = is-magnitude (goal.at.returns c).After-magnitude-n in
    record { value = simp (le-ltb n 128 (omega arith), le-ltb n 32768 (omega arith), le-ltb n 2147483648 (omega arith)); small = omega arith }
