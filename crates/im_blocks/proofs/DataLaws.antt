-- THE LAWS of attribute data and attribute reports.
use Rattle.std.specs.Prelude.{Some, None, Option}
use mathlib.Core.Path.{◌≡◌, refl, sym, ap, ◌∙◌}
use mathlib.Core.Bool.{Bool, true, false}
use mathlib.Core.List.{List, map}
use Prim.Native.Nat.{ℕ, zero, suc, ◌-◌}
use native.Mathlib.Omega.{arith}
use borrow.Author.Tests.{ne_eqb}
use lib.ListN.{get_or}
use lib.Dec.{eqb}
use Rattle.std.proofs.lemmas.Option.{some_pair_parts}
use Rattle.tlv_reader.specs.Octet.{pick, structure, end_of_container}
use Rattle.tlv_reader.specs.Tree.{Tree}
use Rattle.tlv_reader.specs.Tree.Tag.{anonymous}
use Rattle.tlv_reader.specs.Tree.Tree.{container}
use Rattle.tlv_reader.specs.Tree.Trees.{none}
use Rattle.tlv_reader.specs.declared.Cursor.{Cursor}
use Rattle.tlv_reader.specs.Walk.{Got, map_g, bind_g}
use Rattle.tlv_reader.specs.Walk.Got.{got, bad}
use Rattle.tlv_reader.specs.Decode.{place, bind_o, tree_at}
use Rattle.im_members.specs.Fields.{slot_in, inside_at, inside_t, or_none}
use Rattle.im_members.specs.Fields.Slot.{absent}
use Rattle.im_members.specs.Scalar.{WRONG, number_in}
use Rattle.im_members.specs.Array.{map_o, required_in}
use Rattle.im_members.proofs.MeaningLaws.{schema-law, at_place}
use Rattle.im_members.proofs.ArrayLaws.{number-here, required-here, member-mapped, plain}
use Rattle.im_blocks.specs.declared.Path.{Path}
use Rattle.im_blocks.specs.declared.Answer.{Answer}
use Rattle.im_blocks.specs.declared.Data.{Data}
use Rattle.im_blocks.specs.Path.{path_at, path_t}
use Rattle.im_blocks.specs.Filter.{pair_tags}
use Rattle.im_blocks.specs.Status.{answer_at, answer_t}
use Rattle.im_blocks.specs.Data.{DataOf, triple_tags, versioned, any_in, any_t, data_from, data_at, data_struct, data_read, data_of, data_t, either, maybe_in, maybe_t, report_from, report_at, report_of, report_t, data_tree, report_tree}
use Rattle.im_blocks.proofs.BlockLaws.{path-law, no-path, answer-law, no_answer, never}

map-bind : {A B C : Type 0} (β : B → C) (F : A → Option B) (g : Got A) → map_g β (bind_g g (λ a n. place (F a) n)) ≡ bind_g g (λ a n. place (map_o β (F a)) n)
map-bind β F bad = refl
map-bind β F (got a n) = go (F a)
  where
    go : (o : Option _) → map_g β (place o n) ≡ place (map_o β o) n
    go None = refl
    go (Some b) = refl

-- the tree that stands at a slot's place
any-law : (d : ℕ) (s : List ℕ) (p : ℕ) → map_o (λ q. or_none (tree_at d s q)) (any_in p) ≡ any_t (slot_in d s p)
unfolding any_in slot_in
any-law d s zero = refl
any-law d s (suc p) = let e : suc p - 1 ≡ p = omega arith in rw (ne_eqb (suc p) 0 (λ z. omega arith), e) refl

-- the parts of attribute data, seen as trees
through : (d : ℕ) (s : List ℕ) (v : ℕ) (p : Option Path) (x : Option ℕ) → map_o (data_tree d s) (bind_o p (λ q. bind_o x (λ y. versioned v q y))) ≡ bind_o p (λ q. bind_o (map_o (λ y. or_none (tree_at d s y)) x) (λ t. versioned v q t))
through d s v None x = refl
through d s v (Some q) None = refl
through d s v (Some q) (Some y) = go (eqb v WRONG)
  where
    go : (b : Bool) → map_o (data_tree d s) (pick b None (Some (record { version = v; path = q; element = y }))) ≡ pick b None (Some (record { version = v; path = q; element = or_none (tree_at d s y) }))
    go true = refl
    go false = refl

data-from : (d : ℕ) (s : List ℕ) (xs : List ℕ) → map_o (data_tree d s) (data_from d s xs) ≡ data_of (map (slot_in d s) xs)
unfolding data_from data_of
data-from d s xs =
    through d s (number_in 4294967295 false s (get_or xs 0 0)) (required_in (path_at d s) (get_or xs 1 0)) (any_in (get_or xs 2 0))
    ∙ rw (any-law d s (get_or xs 2 0), ← (at_place d s xs 2), required-here d s (path_at d s) path_t (path-law d s) no-path xs 1, number-here d s xs 4294967295 false 0) refl

-- THE LAW of attribute data
pub data-law : (d : ℕ) (s : List ℕ) (at : ℕ) → map_g (data_tree (d - 1) s) (data_at d s at) ≡ bind_g (tree_at d s at) (λ t n. place (data_t t) n)
unfolding data_at data_t
data-law d s at =
    map-bind (data_tree (d - 1) s) (data_from (d - 1) s) (inside_at structure d s triple_tags at)
    ∙ schema-law structure (omega arith) (omega arith) triple_tags d s (λ xs. map_o (data_tree (d - 1) s) (data_from (d - 1) s xs)) data_of (data-from (d - 1) s) at

pub no-data : data_t (container anonymous end_of_container none) ≡ None
unfolding data_t inside_t
no-data = refl

-- ---- reports

maybe-mapped : {A B : Type 0} (β : A → B) (d : ℕ) (s : List ℕ) (read : ℕ → Got A) (means : Tree → Option B) → ((at : ℕ) → map_g β (read at) ≡ bind_g (tree_at d s at) (λ t n. place (means t) n)) → means (container anonymous end_of_container none) ≡ None → (p : ℕ) → map_o (map_o β) (maybe_in read p) ≡ maybe_t means (slot_in d s p)
unfolding maybe_in required_in slot_in
maybe-mapped β d s read means law z zero = refl
maybe-mapped β d s read means law z (suc p) = let e : suc p - 1 ≡ p = omega arith in rw (ne_eqb (suc p) 0 (λ y. omega arith), e) (ap Some (member-mapped β d s read means law z p))

same-twice : {A : Type 0} (o : Option (Option A)) → map_o (map_o (λ x. x)) o ≡ o
same-twice None = refl
same-twice (Some None) = refl
same-twice (Some (Some a)) = refl

either-through : (d : ℕ) (s : List ℕ) (a : Option (Option Answer)) (x : Option (Option (DataOf ℕ))) → map_o (report_tree d s) (either a x) ≡ either a (map_o (map_o (data_tree d s)) x)
either-through d s None None = refl
either-through d s None (Some None) = refl
either-through d s None (Some (Some x)) = refl
either-through d s (Some None) None = refl
either-through d s (Some (Some a)) None = refl
either-through d s (Some a) (Some x) = refl

report-from : (d : ℕ) (s : List ℕ) (xs : List ℕ) → map_o (report_tree (d - 1) s) (report_from d s xs) ≡ report_of (map (slot_in d s) xs)
unfolding report_from report_of
report-from d s xs =
    let a : maybe_in (answer_at d s) (get_or xs 0 0) ≡ maybe_t answer_t (get_or (map (slot_in d s) xs) 0 absent) = sym (same-twice (maybe_in (answer_at d s) (get_or xs 0 0))) ∙ maybe-mapped (λ x. x) d s (answer_at d s) answer_t (plain d s (answer_at d s) answer_t (answer-law d s)) no_answer (get_or xs 0 0) ∙ ap (maybe_t answer_t) (sym (at_place d s xs 0)) in
    let x : map_o (map_o (data_tree (d - 1) s)) (maybe_in (data_at d s) (get_or xs 1 0)) ≡ maybe_t data_t (get_or (map (slot_in d s) xs) 1 absent) = maybe-mapped (data_tree (d - 1) s) d s (data_at d s) data_t (data-law d s) no-data (get_or xs 1 0) ∙ ap (maybe_t data_t) (sym (at_place d s xs 1)) in
    either-through (d - 1) s (maybe_in (answer_at d s) (get_or xs 0 0)) (maybe_in (data_at d s) (get_or xs 1 0)) ∙ rw (a, x) refl

-- THE LAW of an attribute report
pub report-law : (d : ℕ) (s : List ℕ) (at : ℕ) → map_g (report_tree (d - 1 - 1) s) (report_at d s at) ≡ bind_g (tree_at d s at) (λ t n. place (report_t t) n)
unfolding report_at report_t
report-law d s at =
    map-bind (report_tree (d - 1 - 1) s) (report_from (d - 1) s) (inside_at structure d s pair_tags at)
    ∙ schema-law structure (omega arith) (omega arith) pair_tags d s (λ xs. map_o (report_tree (d - 1 - 1) s) (report_from (d - 1) s xs)) report_of (report-from (d - 1) s) at

-- ---- what an answer says of what was found

pub data-lacks : (g : Got (DataOf ℕ)) → data_read g ≡ None → g ≡ bad
data-lacks bad e = refl
data-lacks (got p n) e = never (cc)

unfoldable pub data_found : Data → DataOf ℕ
data_found x = record { version = x.version; path = x.path; element = x.place }

pub data-has : (g : Got (DataOf ℕ)) {x : Data} {n : Cursor} → data_read g ≡ Some (x, n) → g ≡ got (data_found x) n.at
unfolding data_found
data-has bad e = never (cc)
data-has (got y m) {x} {n} e =
    let p = some_pair_parts (data_struct y) x (record { at = m }) n e in
    rw (← p.0, ← p.1) refl
