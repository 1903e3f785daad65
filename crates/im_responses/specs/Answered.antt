-- The Write Response (chapter 10, 10.6.7; RULES 4.14 and 6.3): exactly one status.
use Rattle.std.specs.Prelude.{ℕ, ◌-◌, List, [], ◌∷◌, Bool, true, false, length, get_or, Some, None, Option}
use Rattle.base_bounds.specs.Bounds.{depth_limit}
use Rattle.tlv_reader.specs.Octet.{pick, array}
use Rattle.tlv_reader.specs.Tree.{Trees}
use Rattle.tlv_reader.specs.Walk.{Got, bind_g, fold_at}
use Rattle.tlv_reader.specs.Decode.{bind_o, place}
use Rattle.im_members.specs.Fields.{Slot}
use Rattle.im_members.specs.Fields.Slot.{absent}
use Rattle.im_members.specs.Scalar.{number_in, number_t}
use Rattle.im_members.specs.Array.{each_step, required_in, required_t}
use Rattle.im_blocks.specs.declared.Answer.{Answer}
use Rattle.im_blocks.specs.Status.{answer_at, answer_t}
use Rattle.im_requests.specs.Message.{snoc, list_t, list_at, given, whole_in, whole_t}

-- the statuses of an array from one of its members on, after some that were seen
unfoldable pub answers_from : ℕ → List ℕ → List Answer → ℕ → Got (List Answer)
answers_from d s l at = fold_at (each_step snoc (answer_at d s)) (length s) s array l at

unfoldable pub answers_at : ℕ → List ℕ → ℕ → Got (List Answer)
answers_at d s at = answers_from d s [] at

-- exactly one
abbrev pub only : List Answer → Option Answer
only [] = None
only (x ∷ []) = Some x
only (x ∷ y ∷ l) = None

-- as an array of one status is read, with where it ends
abbrev pub only_of : Got (List Answer) → Got Answer
only_of g = bind_g g (λ l n. place (only l) n)

abbrev pub answered_tags : List Bool
answered_tags = true ∷ false ∷ false ∷ false ∷ false ∷ false ∷ false ∷ false ∷ false ∷ true ∷ []

-- the list and the revision are required
abbrev pub answered_of : ℕ → Option (List Answer) → Option Answer
answered_of revision xs = pick (given revision) (bind_o xs only) None

-- IN BYTES
unfoldable pub answered_from : List ℕ → List ℕ → Option Answer
answered_from s seen = answered_of (number_in 255 false s (get_or seen 9 0)) (required_in (list_at answer_at (depth_limit - 1) s) (get_or seen 0 0))

unfoldable pub answered_in : List ℕ → Option Answer
answered_in s = whole_in answered_tags (answered_from s) s

-- IN TREES
unfoldable pub answered_slots : List Slot → Option Answer
answered_slots xs = answered_of (number_t 255 false (get_or xs 9 absent)) (required_t (list_t answer_t) (get_or xs 0 absent))

unfoldable pub answered_t : Trees → Option Answer
answered_t ts = whole_t answered_tags answered_slots ts
