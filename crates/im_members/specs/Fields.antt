-- The listed members of a container: in bytes, where each stands; in trees, which each is (RULES 4.12).
use Rattle.std.specs.Prelude.{ℕ, zero, suc, ◌+◌, List, Bool, false, length, get_or, set, replicate, ltb, eqb, Some, None, Option}
use Rattle.tlv_reader.specs.declared.Element.{Element}
use Rattle.tlv_reader.specs.Octet.{pick, end_of_container}
use Rattle.tlv_reader.specs.Tree.{Tag, Tree, Trees, tag_of_tree}
use Rattle.tlv_reader.specs.Tree.Tag.{anonymous, context, common, implicit, full}
use Rattle.tlv_reader.specs.Tree.Tree.{primitive, container}
use Rattle.tlv_reader.specs.Tree.Trees.{none}
use Rattle.tlv_reader.specs.Head.{head_at}
use Rattle.tlv_reader.specs.Walk.{Got, fold_at, headed, element_end}
use Rattle.tlv_reader.specs.Walk.Got.{got, bad}
use Rattle.tlv_reader.specs.Decode.{fold_t, tree_at}

-- the slot of a context tag: 0 to 8 have their own, 255 has the last; 10 if the tag is not listed
unfoldable pub place_of : List Bool → ℕ → ℕ
place_of listed n = pick (ltb n 9) (pick (get_or listed n false) n 10) (pick (eqb n 255) (pick (get_or listed 9 false) 9 10) 10)

-- only a context tag is listed
unfoldable pub slot_of : List Bool → ℕ → ℕ → ℕ
slot_of listed form n = pick (eqb form 1) (place_of listed n) 10

-- IN BYTES. Each slot holds 0, or one more than where its member stands; a listed tag twice is malformed
unfoldable pub put_at : List ℕ → ℕ → ℕ → ℕ → Got (List ℕ)
put_at seen i at n = pick (ltb i 10) (pick (eqb (get_or seen i 0) 0) (got (set seen i (at + 1)) n) bad) (got seen n)

abbrev pub put_end : List ℕ → ℕ → ℕ → Got (Unit {0}) → Got (List ℕ)
put_end seen i at bad = bad
put_end seen i at (got x n) = put_at seen i at n

unfoldable pub field_step : ℕ → List ℕ → List Bool → List ℕ → ℕ → Element → Got (List ℕ)
field_step d s listed seen at e = put_end seen (slot_of listed e.form e.tag) at (element_end d s e)

unfoldable pub fields_from : ℕ → List ℕ → ℕ → List Bool → List ℕ → ℕ → Got (List ℕ)
fields_from d s kind listed seen at = fold_at (field_step d s listed) (length s) s kind seen at

unfoldable pub fields_at : ℕ → List ℕ → ℕ → List Bool → ℕ → Got (List ℕ)
fields_at d s kind listed at = fields_from d s kind listed (replicate 10 0) at

abbrev pub inside_by : ℕ → (ℕ → Got (List ℕ)) → Element → Got (List ℕ)
inside_by kind inner e = pick (eqb e.kind kind) (inner e.next.at) bad

-- of the container of a type that stands at a position
unfoldable pub inside_at : ℕ → ℕ → List ℕ → List Bool → ℕ → Got (List ℕ)
inside_at kind zero s listed at = bad
inside_at kind (suc d) s listed at = headed bad (inside_by kind (λ n. fields_at d s kind listed n)) (head_at s at)

-- IN TREES
pub data Slot : Type 0 where
  absent : Slot
  present : Tree → Slot

abbrev pub free : {A : Type 0} → Slot → A → A → A
free absent a b = a
free (present t) a b = b

unfoldable pub put_t : List Slot → ℕ → Tree → Option (List Slot)
put_t xs i t = pick (ltb i 10) (free (get_or xs i absent) (Some (set xs i (present t))) None) (Some xs)

abbrev pub slot_t : List Bool → Tag → ℕ
slot_t listed anonymous = 10
slot_t listed (context n) = place_of listed n
slot_t listed (common n) = 10
slot_t listed (implicit n) = 10
slot_t listed (full v p n) = 10

unfoldable pub field_m : List Bool → List Slot → Tree → Option (List Slot)
field_m listed xs t = put_t xs (slot_t listed (tag_of_tree t)) t

-- THE MEANING of members by their tags
unfoldable pub fields_t : List Bool → Trees → Option (List Slot)
fields_t listed ts = fold_t (field_m listed) (replicate 10 absent) ts

unfoldable pub inside_t : ℕ → List Bool → Tree → Option (List Slot)
inside_t kind listed (primitive t x) = None
inside_t kind listed (container t k ts) = pick (eqb k kind) (fields_t listed ts) None

-- the tree at a place; one that no schema takes where there is none
abbrev pub or_none : Got Tree → Tree
or_none bad = container anonymous end_of_container none
or_none (got t n) = t

unfoldable pub slot_in : ℕ → List ℕ → ℕ → Slot
slot_in d s zero = absent
slot_in d s (suc p) = present (or_none (tree_at d s p))
