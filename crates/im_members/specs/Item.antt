-- What stands at a position of a container: a member that may stand there, or the container's end.
use Rattle.std.specs.Prelude.{ℕ, List, eqb, Some, None, Option}
use Rattle.tlv_reader.specs.Octet.{pick, end_of_container}
use Rattle.tlv_reader.specs.Head.{head_at}
use Rattle.tlv_reader.specs.Walk.{allowed_in}
use Rattle.im_members.specs.declared.MemberAt.{MemberAt}
use Rattle.im_members.specs.declared.MemberAt.TheVariants.{Member, Ended, BadItem}
use Rattle.tlv_reader.specs.declared.Element.{Element}

abbrev pub item_of : ℕ → Option Element → MemberAt
item_of kind None = BadItem
item_of kind (Some e) = pick (eqb e.kind end_of_container) (Ended e.next) (pick (allowed_in kind e.form) (Member e) BadItem)

unfoldable pub item_at : ℕ → List ℕ → ℕ → MemberAt
item_at kind s at = item_of kind (head_at s at)
