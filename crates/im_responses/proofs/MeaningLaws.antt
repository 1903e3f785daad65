-- THE LAW of Report Data: what is read is the meaning of the tree that the payload spells.
use Rattle.std.specs.Prelude.{Some, None, Option}
use mathlib.Core.Path.{◌≡◌, refl, ◌∙◌}
use mathlib.Core.Bool.{Bool, true, false}
use mathlib.Core.List.{List, [], map}
use Prim.Native.Nat.{ℕ, zero, suc, ◌-◌, ◌≤◌}
use native.Mathlib.Omega.{arith}
use borrow.Author.Tests.{ne_eqb}
use lib.ListN.{get_or}
use lib.Dec.{eqb}
use Rattle.tlv_reader.specs.Octet.{pick}
use Rattle.tlv_reader.specs.Tree.{Tree, Trees, SpellsMessage, tag_of_tree}
use Rattle.tlv_reader.specs.Tree.Trees.{more}
use Rattle.tlv_reader.specs.Decode.{bind_o}
use Rattle.im_members.specs.Fields.{slot_t, slot_in}
use Rattle.im_members.specs.Scalar.{WRONG, number_in, flag_in}
use Rattle.im_members.specs.Array.{map_o, optional_in, optional_t}
use Rattle.im_members.specs.Order.{Reordered}
use Rattle.im_members.proofs.MeaningLaws.{at_place}
use Rattle.im_members.proofs.ArrayLaws.{member-mapped, number-here, flag-here}
use Rattle.im_blocks.specs.Data.{ReportOf, report_at, report_t, report_tree}
use Rattle.im_blocks.proofs.DataLaws.{report-law}
use Rattle.im_requests.specs.Message.{given, list_t, list_at}
use Rattle.im_requests.proofs.ListLaws.{list_law}
use Rattle.im_requests.proofs.WholeLaws.{whole-law, whole-mapped, whole-any-order, whole-unlisted}
use Rattle.im_responses.specs.Report.{part_tags, part_from, part_in, part_slots, part_t, part_tree}

-- the blocks: none where the array is absent
blocks-here : (s : List ℕ) (p : ℕ) → map_o (map (report_tree 6 s)) (optional_in [] (list_at report_at 9 s) p) ≡ optional_t [] (list_t report_t) (slot_in 9 s p)
unfolding optional_in optional_t slot_in
blocks-here s zero = refl
blocks-here s (suc p) =
    let e : suc p - 1 ≡ p = omega arith in
    rw (ne_eqb (suc p) 0 (λ z. omega arith), e) (member-mapped (map (report_tree 6 s)) 9 s (list_at report_at 9 s) (list_t report_t) (list_law (report_tree 6 s) report_t report_at 8 s (report-law 8 s)) refl p)

module _ (s : List ℕ) (more : ℕ) where
  blocks-through : (bs : Option (List (ReportOf ℕ))) → map_o (part_tree 6 s) (bind_o bs (λ l. Some (record { more = more; blocks = l }))) ≡ bind_o (map_o (map (report_tree 6 s)) bs) (λ l. Some (record { more = more; blocks = l }))
  blocks-through None = refl
  blocks-through (Some l) = refl

  part-through : (a b c d : Bool) (bs : Option (List (ReportOf ℕ))) → map_o (part_tree 6 s) (pick a None (pick b None (pick c None (pick d (bind_o bs (λ l. Some (record { more = more; blocks = l }))) None)))) ≡ pick a None (pick b None (pick c None (pick d (bind_o (map_o (map (report_tree 6 s)) bs) (λ l. Some (record { more = more; blocks = l }))) None)))
  part-through false false false true bs = blocks-through bs
  part-through false false false false bs = refl
  part-through false false true d bs = refl
  part-through false true c d bs = refl
  part-through true b c d bs = refl

part-from : (s : List ℕ) (xs : List ℕ) → map_o (part_tree 6 s) (part_from s xs) ≡ part_slots (map (slot_in 9 s) xs)
unfolding part_from part_slots
part-from s xs =
    part-through s (flag_in s (get_or xs 3 0)) (eqb (number_in 4294967295 false s (get_or xs 0 0)) WRONG) (eqb (flag_in s (get_or xs 3 0)) WRONG) (eqb (flag_in s (get_or xs 4 0)) WRONG) (given (number_in 255 false s (get_or xs 9 0))) (optional_in [] (list_at report_at 9 s) (get_or xs 1 0))
    ∙ rw (blocks-here s (get_or xs 1 0), ← (at_place 9 s xs 1), flag-here 9 s xs 3, flag-here 9 s xs 4, number-here 9 s xs 255 false 9, number-here 9 s xs 4294967295 false 0) refl

-- any legal spelling of a part is read to its meaning, each block's data to the tree that stands at its place
pub part-law : (ts : Trees) (s : List ℕ) → SpellsMessage ts s → map_o (part_tree 6 s) (part_in s) ≡ part_t ts
unfolding part_in part_t
part-law ts s m = whole-mapped part_tags (part_from s) (part_tree 6 s) s ∙ whole-law part_tags (λ xs. map_o (part_tree 6 s) (part_from s xs)) part_slots ts s m (part-from s)

-- the order of fields does not matter, and members that are not listed are as if absent
pub part-any-order : {ts us : Trees} → Reordered ts us → part_t ts ≡ part_t us
unfolding part_t
part-any-order r = whole-any-order part_tags part_slots r

pub part-unlisted : (t : Tree) (ts : Trees) → 10 ≤ slot_t part_tags (tag_of_tree t) → part_t (more t ts) ≡ part_t ts
unfolding part_t
part-unlisted t ts l = whole-unlisted part_tags part_slots t ts l
