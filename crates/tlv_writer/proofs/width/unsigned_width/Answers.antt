use borrow.Author.Tests.{lt-ltb, le-ltb}
use native.Mathlib.Omega.{arith}
use Rattle.tlv_writer.specs.Width.{least_of, least_width}
use Rattle.tlv_writer.proofs.width.unsigned_width.Goals as goal

pub returns-then-v-lt256 : goal.returns-then-v-lt256
unfolding least_of least_width
returns-then-v-lt256 c = let v = c.args.v in
    record { value = simp (lt-ltb v 256 (omega arith)); small = omega arith }

pub returns-then-v-lt65536 : goal.returns-then-v-lt65536
unfolding least_of least_width
returns-then-v-lt65536 c = let v = c.args.v in
    record { value = simp (le-ltb v 256 (omega arith), lt-ltb v 65536 (omega arith)); small = omega arith }

pub returns-then-v-lt4294967296 : goal.returns-then-v-lt4294967296
unfolding least_of least_width
returns-then-v-lt4294967296 c = let v = c.args.v in
    record { value = simp (le-ltb v 256 (omega arith), le-ltb v 65536 (omega arith), lt-ltb v 4294967296 (omega arith)); small = omega arith }

pub returns : goal.returns
unfolding least_of least_width
returns c = let v = c.args.v in
    record { value = simp (le-ltb v 256 (omega arith), le-ltb v 65536 (omega arith), le-ltb v 4294967296 (omega arith)); small = omega arith }
