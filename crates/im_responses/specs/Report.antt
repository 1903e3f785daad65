-- Report Data (chapter 10, 10.6.3; RULES 4).
use Rattle.std.specs.Prelude.{ℕ, ◌-◌, List, [], ◌∷◌, map, Bool, true, false, length, get_or, eqb, Some, None, Option}
use Rattle.base_bounds.specs.Bounds.{depth_limit}
use Rattle.tlv_reader.specs.Octet.{pick, array}
use Rattle.tlv_reader.specs.Tree.{Tree, Trees}
use Rattle.tlv_reader.specs.Walk.{Got, fold_at}
use Rattle.tlv_reader.specs.Decode.{bind_o}
use Rattle.im_members.specs.Fields.{Slot}
use Rattle.im_members.specs.Fields.Slot.{absent}
use Rattle.im_members.specs.Pass.{Pass, number_by, flag_by}
use Rattle.im_members.specs.Scalar.{WRONG, number_in, flag_in, number_t, flag_t}
use Rattle.im_members.specs.Array.{each_step, optional_in, optional_t}
use Rattle.im_blocks.specs.Data.{ReportOf, report_at, report_t, report_tree}
use Rattle.im_requests.specs.Message.{snoc, list_t, list_at, given, whole_pass, whole_in, whole_t}
use Rattle.im_responses.specs.declared.PartRead.{PartRead}

unfoldable pub blocks_from : ℕ → List ℕ → List (ReportOf ℕ) → ℕ → Got (List (ReportOf ℕ))
blocks_from d s l at = fold_at (each_step snoc (report_at d s)) (length s) s array l at

unfoldable pub blocks_at : ℕ → List ℕ → ℕ → Got (List (ReportOf ℕ))
blocks_at d s at = blocks_from d s [] at

-- THE MEANING of a part: its blocks, over what data is, and MoreChunkedMessages (0, 1 or absent)
pub record PartOf (D : Type 0) : Type 0 where
  pub more : ℕ
  pub blocks : List (ReportOf D)

abbrev pub part_tags : List Bool
part_tags = true ∷ true ∷ false ∷ true ∷ true ∷ false ∷ false ∷ false ∷ false ∷ true ∷ []

-- the revision is required; an absent array is empty; the other listed fields may be absent, and are of the right type if not
abbrev pub part_of : {D : Type 0} → ℕ → ℕ → ℕ → ℕ → Option (List (ReportOf D)) → Option (PartOf D)
part_of subscription more suppress revision bs =
    pick (eqb subscription WRONG) None
    (pick (eqb more WRONG) None
    (pick (eqb suppress WRONG) None
    (pick (given revision) (bind_o bs (λ l. Some (record { more = more; blocks = l }))) None)))

-- IN BYTES: data is the place where it stands
unfoldable pub part_from : List ℕ → List ℕ → Option (PartOf ℕ)
part_from s seen =
    part_of (number_in 4294967295 false s (get_or seen 0 0)) (flag_in s (get_or seen 3 0)) (flag_in s (get_or seen 4 0)) (number_in 255 false s (get_or seen 9 0)) (optional_in [] (list_at report_at (depth_limit - 1) s) (get_or seen 1 0))

unfoldable pub part_in : List ℕ → Option (PartOf ℕ)
part_in s = whole_in part_tags (part_from s) s

abbrev pub part_read : Option (PartOf ℕ) → Option PartRead
part_read None = None
part_read (Some p) = Some (record { more = p.more; blocks = length p.blocks })

-- by a pass over the message's members that has ended, with so many blocks
abbrev pub part_made : ℕ → ℕ → ℕ → ℕ → ℕ → Option PartRead
part_made subscription more suppress revision blocks =
    pick (eqb subscription WRONG) None
    (pick (eqb more WRONG) None
    (pick (eqb suppress WRONG) None
    (pick (given revision) (Some (record { more = more; blocks = blocks })) None)))

unfoldable pub part_by : ℕ → Pass → ℕ → Option PartRead
part_by len m blocks =
    pick (whole_pass len m)
    (part_made (number_by 4294967295 false (get_or m.codes 0 0)) (flag_by (get_or m.codes 3 0)) (flag_by (get_or m.codes 4 0)) (number_by 255 false (get_or m.codes 9 0)) blocks)
    None

-- IN TREES
unfoldable pub part_slots : List Slot → Option (PartOf Tree)
part_slots xs =
    part_of (number_t 4294967295 false (get_or xs 0 absent)) (flag_t (get_or xs 3 absent)) (flag_t (get_or xs 4 absent)) (number_t 255 false (get_or xs 9 absent)) (optional_t [] (list_t report_t) (get_or xs 1 absent))

unfoldable pub part_t : Trees → Option (PartOf Tree)
part_t ts = whole_t part_tags part_slots ts

-- a part read from bytes, each place replaced by the tree that stands there
abbrev pub part_tree : ℕ → List ℕ → PartOf ℕ → PartOf Tree
part_tree d s p = record { more = p.more; blocks = map (report_tree d s) p.blocks }
