-- The Write Request: case by case for the code, and THE LAW that what is read is the meaning of the tree that the payload spells.
use Rattle.std.specs.Prelude.{Some, None, Option}
use mathlib.Core.Path.{◌≡◌, refl, sym, ap, ◌∙◌}
use mathlib.Core.Bool.{Bool, true, false}
use mathlib.Core.List.{List, [], ◌∷◌, map}
use Prim.Native.Nat.{ℕ, ◌≤◌}
use native.Mathlib.Omega.{arith}
use borrow.Author.Tests.{ne_eqb}
use lib.ListN.{length, get_or}
use lib.Dec.{eqb}
use Rattle.base_bounds.specs.Bounds.{write_limit}
use Rattle.tlv_reader.specs.Octet.{pick, structure}
use Rattle.tlv_reader.specs.Tree.{Tree, Trees, SpellsMessage, tag_of_tree}
use Rattle.tlv_reader.specs.Tree.Trees.{more}
use Rattle.tlv_reader.specs.Decode.{bind_o}
use Rattle.im_members.specs.Fields.{slot_t, slot_in}
use Rattle.im_members.specs.Pass.{Pass, code_in, number_by, flag_by}
use Rattle.im_members.specs.Scalar.{number_in, flag_in}
use Rattle.im_members.specs.Array.{map_o, required_in}
use Rattle.im_members.specs.Order.{Reordered}
use Rattle.im_members.proofs.MeaningLaws.{at_place}
use Rattle.im_members.proofs.ArrayLaws.{required-mapped, number-here, flag-here}
use Rattle.im_members.proofs.PassLaws.{Left, Reads, number-coded, flag-coded}
use Rattle.im_requests.specs.Message.{given, structure_at, whole_pass, list_t, list_at, list_on, kept_as}
use Rattle.im_requests.proofs.ListLaws.{list_law}
use Rattle.im_requests.proofs.PassLaws.{list-reads, whole-bad, whole-lacks, whole-passed}
use Rattle.im_requests.proofs.WholeLaws.{whole-law, whole-mapped, whole-any-order, whole-unlisted}
use Rattle.im_requests.specs.Write.{EntryOf, entry_at, entry_on, entry_t, entry_tree, kept_words, WriteOf, write_tags, unchunked, is_empty, write_of, write_from, write_in, write_slots, write_t, write_left, write_kept, write_made, write_by, write_tree}
use Rattle.im_requests.specs.Lists.{entry-reads}
use Rattle.im_requests.proofs.EntryLaws.{entry-law}

-- ---- for the code

pub entries-reads : (s : List ℕ) → Reads 9 s (list_at entry_at 9 s) (list_on entry_at 9 s)
entries-reads s = list-reads entry_at (entry_on 8 s) 8 s (entry-reads 8 s)

clash : true ≡ false → ⊥
clash e = let z : ◌≡◌ {A = ℕ} 1 0 = ap (λ (b : Bool). pick b 1 0) e in omega arith

-- no entries, no write
pub write-lacks : (s xs : List ℕ) → required_in (list_at entry_at 9 s) (get_or xs 2 0) ≡ None → write_from s xs ≡ None
unfolding write_from
write-lacks s xs e = rw e (go (given (flag_in s (get_or xs 0 0))) (given (flag_in s (get_or xs 1 0))) (unchunked (flag_in s (get_or xs 3 0))) (given (number_in 255 false s (get_or xs 9 0))))
  where
    go : (a b c d : Bool) → ◌≡◌ {A = Option (WriteOf ℕ)} (pick a (pick b (pick c (pick d None None) None) None) None) None
    go false b c d = refl
    go true false c d = refl
    go true true false d = refl
    go true true true false = refl
    go true true true true = refl

from : (s xs ks : List ℕ) → ks ≡ map (code_in s) xs → {l : List (EntryOf ℕ)} → required_in (list_at entry_at 9 s) (get_or xs 2 0) ≡ Some l → write_from s xs ≡ write_of (flag_by (get_or ks 0 0)) (flag_by (get_or ks 1 0)) (flag_by (get_or ks 3 0)) (number_by 255 false (get_or ks 9 0)) (Some l)
unfolding write_from
from s xs ks k b = rw (b, ← (flag-coded s ks xs k 0 refl), ← (flag-coded s ks xs k 1 refl), ← (flag-coded s ks xs k 3 refl), ← (number-coded s ks xs k 9 255 false (omega arith) refl)) refl

no-entry : (l : List (EntryOf ℕ)) → eqb (length l) 0 ≡ is_empty l
no-entry [] = refl
no-entry (x ∷ l) = ne_eqb (length (x ∷ l)) 0 (λ z. omega arith)

made : (old : List ℕ) (su ti mo re : ℕ) (l : List (EntryOf ℕ)) (w : Bool) → write_left (pick w (write_made su ti mo re (length l)) None) (kept_as write_limit kept_words old l).words ≡ write_kept old (pick w (write_of su ti mo re (Some l)) None)
made old su ti mo re l w = rw (no-entry l) (go w (given su) (given ti) (unchunked mo) (given re) (is_empty l))
  where
    go : (w a b c d x : Bool) → let full : WriteOf ℕ = record { suppress = su; timed = ti; entries = l } in write_left (pick w (pick a (pick b (pick c (pick d (pick x None (Some (record { suppress = su; timed = ti; entries = length l }))) None) None) None) None) None) (kept_as write_limit kept_words old l).words ≡ write_kept old (pick w (pick a (pick b (pick c (pick d (pick x None (Some full)) None) None) None) None) None)
    go false a b c d x = refl
    go true false b c d x = refl
    go true true false c d x = refl
    go true true true false d x = refl
    go true true true true false x = refl
    go true true true true true true = refl
    go true true true true true false = refl

-- what is made of the members is what the code makes of their codes
pub write-passed : (old : List ℕ) {s before : List ℕ} {stops : List Bool} {z : Pass} → Left 9 s structure write_tags stops before (structure_at write_tags s) z → 10 ≤ z.slot → (l : List (EntryOf ℕ)) → (z.good ≡ true → required_in (list_at entry_at 9 s) (get_or z.at 2 0) ≡ Some l) → write_left (write_by (length s) z (length l)) (kept_as write_limit kept_words old l).words ≡ write_kept old (write_in s)
unfolding write_by write_in
write-passed old {s} {z = z} L o l some = by z.good refl
  where
    by : (b : Bool) → z.good ≡ b → write_left (write_by (length s) z (length l)) (kept_as write_limit kept_words old l).words ≡ write_kept old (write_in s)
    by false g = rw (whole-bad (length s) z g) (sym (ap (write_kept old) (whole-lacks (write_from s) L o (λ h. absurd (clash (sym h ∙ g))))))
    by true g =
        made old (flag_by (get_or z.codes 0 0)) (flag_by (get_or z.codes 1 0)) (flag_by (get_or z.codes 3 0)) (number_by 255 false (get_or z.codes 9 0)) l (whole_pass (length s) z)
        ∙ sym (ap (write_kept old) (whole-passed (write_from s) L o ∙ ap (λ x. pick (whole_pass (length s) z) x None) (from s z.at z.codes L.coded (some g))))

-- ---- the law of the message

module _ (d : ℕ) (s : List ℕ) (sup tim : ℕ) where
  made-through : (l : List (EntryOf ℕ)) → map_o (write_tree d s) (pick (is_empty l) None (Some (record { suppress = sup; timed = tim; entries = l }))) ≡ pick (is_empty (map (entry_tree d s) l)) None (Some (record { suppress = sup; timed = tim; entries = map (entry_tree d s) l }))
  made-through [] = refl
  made-through (x ∷ l) = refl

  es-through : (es : Option (List (EntryOf ℕ))) → map_o (write_tree d s) (bind_o es (λ l. pick (is_empty l) None (Some (record { suppress = sup; timed = tim; entries = l })))) ≡ bind_o (map_o (map (entry_tree d s)) es) (λ l. pick (is_empty l) None (Some (record { suppress = sup; timed = tim; entries = l })))
  es-through None = refl
  es-through (Some l) = made-through l

  write-through : (a b c e : Bool) (es : Option (List (EntryOf ℕ))) → map_o (write_tree d s) (pick a (pick b (pick c (pick e (bind_o es (λ l. pick (is_empty l) None (Some (record { suppress = sup; timed = tim; entries = l })))) None) None) None) None) ≡ pick a (pick b (pick c (pick e (bind_o (map_o (map (entry_tree d s)) es) (λ l. pick (is_empty l) None (Some (record { suppress = sup; timed = tim; entries = l })))) None) None) None) None
  write-through true true true true es = es-through es
  write-through true true true false es = refl
  write-through true true false e es = refl
  write-through true false c e es = refl
  write-through false b c e es = refl

write-from : (s : List ℕ) (xs : List ℕ) → map_o (write_tree 7 s) (write_from s xs) ≡ write_slots (map (slot_in 9 s) xs)
unfolding write_from write_slots
write-from s xs =
    write-through 7 s (flag_in s (get_or xs 0 0)) (flag_in s (get_or xs 1 0)) (given (flag_in s (get_or xs 0 0))) (given (flag_in s (get_or xs 1 0))) (unchunked (flag_in s (get_or xs 3 0))) (given (number_in 255 false s (get_or xs 9 0))) (required_in (list_at entry_at 9 s) (get_or xs 2 0))
    ∙ rw (required-mapped (map (entry_tree 7 s)) 9 s (list_at entry_at 9 s) (list_t entry_t) (list_law (entry_tree 7 s) entry_t entry_at 8 s (entry-law 8 s)) refl (get_or xs 2 0), ← (at_place 9 s xs 2), flag-here 9 s xs 0, flag-here 9 s xs 1, flag-here 9 s xs 3, number-here 9 s xs 255 false 9) refl

-- any legal spelling of a write is read to its meaning, each entry's data to the tree that stands at its place
pub write-law : (ts : Trees) (s : List ℕ) → SpellsMessage ts s → map_o (write_tree 7 s) (write_in s) ≡ write_t ts
unfolding write_in write_t
write-law ts s m = whole-mapped write_tags (write_from s) (write_tree 7 s) s ∙ whole-law write_tags (λ xs. map_o (write_tree 7 s) (write_from s xs)) write_slots ts s m (write-from s)

-- the order of fields does not matter, and members that are not listed are as if absent
pub write-any-order : {ts us : Trees} → Reordered ts us → write_t ts ≡ write_t us
unfolding write_t
write-any-order r = whole-any-order write_tags write_slots r

pub write-unlisted : (t : Tree) (ts : Trees) → 10 ≤ slot_t write_tags (tag_of_tree t) → write_t (more t ts) ≡ write_t ts
unfolding write_t
write-unlisted t ts l = whole-unlisted write_tags write_slots t ts l
