use native.Mathlib.Omega.{arith}
use mathlib.Core.Path.{◌≡◌}
use lib.ListN.{length}
use Rattle.tlv_writer.specs.Element.{head_length, open_octets}
use Rattle.tlv_writer.proofs.Octets.{open-bare, length-open}
use borrow.Author.Rules.{rules}
use Rattle.tlv_vectors.proofs.rewrite.bracket.Goals as goal
use Rattle.tlv_vectors.proofs.rewrite.bracket.Goals.{Else-kind-gt-LIST}

pub put_end-requires : goal.put_end-requires
unfolding head_length
put_end-requires c = omega (arith, c.head_len.ensures)

pub returns-then-kind-gt-LIST : goal.returns-then-kind-gt-LIST
unfolding head_length
returns-then-kind-gt-LIST c =
    omega (arith, c.head_len.ensures, c.put_end.ensures.place)

-- how long the opening is
opening : (c : Else-kind-gt-LIST) → length (open_octets c.args.tag c.args.kind) ≡ head_length c.args.tag
opening c = length-open c.args.tag c.args.kind (open-bare c.args.kind c.requires.0 (search rules))

pub put_open-requires : goal.put_open-requires
put_open-requires c =
    (c.requires.0, (search rules, omega (arith, opening (goal.at.put_open-requires c).Else-kind-gt-LIST, c.head_len.ensures)))

pub returns : goal.returns
returns c =
    omega (arith, opening (goal.at.returns c).Else-kind-gt-LIST, c.head_len.ensures, c.put_open.ensures.place)
