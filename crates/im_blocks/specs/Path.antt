-- Attribute paths (chapter 10, 10.5.2): in bytes and in trees, and which of them RULES 6.11 refuses.
use Rattle.std.specs.Prelude.{ℕ, List, [], ◌∷◌, Bool, true, false, not, get_or, ltb, eqb, Some, None, Option}
use Rattle.tlv_reader.specs.Octet.{pick, list}
use Rattle.tlv_reader.specs.Tree.{Tree}
use Rattle.tlv_reader.specs.Walk.{Got, bind_g}
use Rattle.tlv_reader.specs.Decode.{bind_o, place}
use Rattle.tlv_reader.specs.declared.Element.{Element}
use Rattle.im_members.specs.Pass.{frame_on}
use Rattle.im_members.specs.Fields.{Slot, inside_at, inside_t}
use Rattle.im_members.specs.Fields.Slot.{absent}
use Rattle.im_members.specs.Scalar.{ABSENT, WRONG, number_in, flag_in, wide_in, number_t, flag_t, wide_t}
use Rattle.im_blocks.specs.declared.Path.{Path}

-- something read, if a test holds of it
abbrev pub checked : {A : Type 0} → (A → Bool) → A → Option A
checked sound x = pick (sound x) (Some x) None

-- no part of a wrong type or range
unfoldable pub sound_path : Path → Bool
sound_path p =
    pick (eqb p.compress WRONG) false
    (pick (eqb p.node WRONG) false
    (pick (eqb p.endpoint WRONG) false
    (pick (eqb p.cluster WRONG) false
    (pick (eqb p.attribute WRONG) false (not (eqb p.index WRONG))))))

abbrev pub path_tags : List Bool
path_tags = true ∷ true ∷ true ∷ true ∷ true ∷ true ∷ false ∷ false ∷ false ∷ false ∷ []

-- THE SCHEMA, said once for bytes and for trees: what a slot holds as a flag, as a wide number and as a number
abbrev pub path_with : {A : Type 0} → (A → ℕ) → (A → ℕ) → (ℕ → Bool → A → ℕ) → (ℕ → A) → Path
path_with flag wide number at = record {
  compress = flag (at 0);
  node = wide (at 1);
  endpoint = number 65535 false (at 2);
  cluster = number 4294967295 false (at 3);
  attribute = number 4294967295 false (at 4);
  index = number 65535 true (at 5);
}

unfoldable pub path_from : List ℕ → List ℕ → Option Path
path_from s seen = checked sound_path (path_with (flag_in s) (wide_in s) (λ m b p. number_in m b s p) (λ i. get_or seen i 0))

unfoldable pub path_at : ℕ → List ℕ → ℕ → Got Path
path_at d s at = bind_g (inside_at list d s path_tags at) (λ seen n. place (path_from s seen) n)

-- of the element with this head
unfoldable pub path_on : ℕ → List ℕ → Element → Got Path
path_on d s e = frame_on list d s path_tags (path_from s) e

-- THE MEANING of a tree as a path
unfoldable pub path_of : List Slot → Option Path
path_of xs = checked sound_path (path_with flag_t wide_t number_t (λ i. get_or xs i absent))

unfoldable pub path_t : Tree → Option Path
path_t t = bind_o (inside_t list path_tags t) path_of

-- RULES 6.11 b: Node, ListIndex or compression true
unfoldable pub banned : Path → Bool
banned p = pick (eqb p.compress 1) true (pick (eqb p.node ABSENT) (not (eqb p.index ABSENT)) true)

-- RULES 6.11 c: no cluster, and an attribute that is not one of FFF8 to FFFD
unfoldable pub loose : Path → Bool
loose p =
    pick (eqb p.cluster ABSENT)
    (pick (eqb p.attribute ABSENT) false (pick (ltb p.attribute 0xFFF8) true (ltb 0xFFFD p.attribute)))
    false

-- what a read may ask for
unfoldable pub askable_p : Path → Bool
askable_p p = pick (banned p) false (not (loose p))

-- what a write or a report may name: every part is there
unfoldable pub exact_p : Path → Bool
exact_p p =
    pick (banned p) false
    (pick (eqb p.endpoint ABSENT) false (pick (eqb p.cluster ABSENT) false (not (eqb p.attribute ABSENT))))
