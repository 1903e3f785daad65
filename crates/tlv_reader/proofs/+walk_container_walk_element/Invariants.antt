use Rattle.std.proofs.Common.{◌≡◌, ◌+◌, ◌-◌, length}
use Rattle.tlv_reader.specs.Walk.{members_end}
use Rattle.tlv_reader.proofs.+walk_container_walk_element.Given as goal

abbrev pub decreases-walk_container : goal.decreases-walk_container
decreases-walk_container l = l.left + l.left + 1

abbrev pub decreases-walk_element : goal.decreases-walk_element
decreases-walk_element l = l.left + l.left

abbrev pub invariant-walk_container-loop-e : goal.invariant-walk_container-loop-e
invariant-walk_container-loop-e l = members_end l.left l.s l.kind l.initial.at ≡ members_end l.left l.s l.kind l.at

abbrev pub decreases-walk_container-loop-e : goal.decreases-walk_container-loop-e
decreases-walk_container-loop-e l = length l.s - l.at
