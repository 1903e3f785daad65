-- The Write Request (chapter 10, 10.6.6; RULES 4, 6.10 and 6.11). In bytes an entry's data is the place where it
-- stands, in trees it is a tree.
use Rattle.std.specs.Prelude.{ℕ, ◌+◌, ◌-◌, ◌*◌, List, [], ◌∷◌, map, Bool, true, false, length, get_or, eqb, Some, None, Option, is_some}
use Rattle.base_bounds.specs.Bounds.{depth_limit, write_limit}
use Rattle.tlv_reader.specs.Octet.{pick, array}
use Rattle.tlv_reader.specs.Tree.{Tree, Trees}
use Rattle.tlv_reader.specs.Walk.{Got, bind_g, fold_at}
use Rattle.tlv_reader.specs.Decode.{bind_o, place, tree_at}
use Rattle.im_members.specs.Fields.{Slot, or_none}
use Rattle.im_members.specs.Fields.Slot.{absent}
use Rattle.im_members.specs.Scalar.{ABSENT, number_in, flag_in, number_t, flag_t}
use Rattle.im_members.specs.Array.{each_step, required_in, required_t}
use Rattle.im_members.specs.Pass.{Pass, number_by, flag_by}
use Rattle.im_blocks.specs.declared.Data.{Data}
use Rattle.im_blocks.specs.Path.{exact_p}
use Rattle.im_blocks.specs.Data.{DataOf, data_on, data_at, data_t}
use Rattle.im_requests.specs.Message.{snoc, list_t, list_at, given, whole_pass, whole_in, whole_t, Firsts, firsts, no_firsts, Kept, kept_as, kept_none}
use Rattle.tlv_reader.specs.declared.Element.{Element}
use Rattle.im_requests.specs.declared.write.WriteEntry.{WriteEntry}
use Rattle.im_requests.specs.declared.write.WriteCounts.{WriteCounts}

-- an entry, over what data is
pub record EntryOf (D : Type 0) : Type 0 where
  pub version : ℕ
  pub endpoint : ℕ
  pub cluster : ℕ
  pub attribute : ℕ
  pub element : D

abbrev pub entry_for : {D : Type 0} → DataOf D → EntryOf D
entry_for x = record {
  version = x.version;
  endpoint = x.path.endpoint;
  cluster = x.path.cluster;
  attribute = x.path.attribute;
  element = x.element;
}

-- a write path lacking a part, or of a form that is refused, gets 80 (RULES 6.11)
abbrev pub entry_if : {D : Type 0} → DataOf D → Option (EntryOf D)
entry_if x = pick (exact_p x.path) (Some (entry_for x)) None

unfoldable pub entry_at : ℕ → List ℕ → ℕ → Got (EntryOf ℕ)
entry_at d s at = bind_g (data_at d s at) (λ x n. place (entry_if x) n)

-- of the element with this head
unfoldable pub entry_on : ℕ → List ℕ → Element → Got (EntryOf ℕ)
entry_on d s e = bind_g (data_on d s e) (λ x n. place (entry_if x) n)

unfoldable pub entry_t : Tree → Option (EntryOf Tree)
entry_t t = bind_o (data_t t) entry_if

unfoldable pub entries_from : ℕ → List ℕ → List (EntryOf ℕ) → ℕ → Got (List (EntryOf ℕ))
entries_from d s l at = fold_at (each_step snoc (entry_at d s)) (length s) s array l at

unfoldable pub entries_at : ℕ → List ℕ → ℕ → Got (List (EntryOf ℕ))
entries_at d s at = entries_from d s [] at

-- as the code has them
abbrev pub entry_struct : EntryOf ℕ → WriteEntry
entry_struct x = record { version = x.version; endpoint = x.endpoint; cluster = x.cluster; attribute = x.attribute; place = x.element }

abbrev pub entry_of : Data → WriteEntry
entry_of d = record { version = d.version; endpoint = d.path.endpoint; cluster = d.path.cluster; attribute = d.path.attribute; place = d.place }

abbrev pub no_entry : WriteEntry
no_entry = record { version = 0; endpoint = 0; cluster = 0; attribute = 0; place = 0 }

abbrev pub entries_struct : List (EntryOf ℕ) → Firsts WriteEntry
entries_struct l = firsts write_limit no_entry (map entry_struct l)

-- in words, and back
abbrev pub entry_size : ℕ
entry_size = 5

abbrev pub entry_words : WriteEntry → List ℕ
entry_words x = x.version ∷ x.endpoint ∷ x.cluster ∷ x.attribute ∷ x.place ∷ []

abbrev pub kept_words : EntryOf ℕ → List ℕ
kept_words x = entry_words (entry_struct x)

abbrev pub entry_in : List ℕ → ℕ → WriteEntry
entry_in l i =
    record { version = get_or l (i * entry_size) 0; endpoint = get_or l (i * entry_size + 1) 0; cluster = get_or l (i * entry_size + 2) 0; attribute = get_or l (i * entry_size + 3) 0; place = get_or l (i * entry_size + 4) 0 }

-- THE MEANING of a write
pub record WriteOf (D : Type 0) : Type 0 where
  pub suppress : ℕ
  pub timed : ℕ
  pub entries : List (EntryOf D)

abbrev pub write_tags : List Bool
write_tags = true ∷ true ∷ true ∷ true ∷ false ∷ false ∷ false ∷ false ∷ false ∷ true ∷ []

unfoldable pub unchunked : ℕ → Bool
unchunked more = pick (eqb more 0) true (eqb more ABSENT)

abbrev pub is_empty : {A : Type 0} → List A → Bool
is_empty [] = true
is_empty (x ∷ l) = false

-- SuppressResponse, TimedRequest, WriteRequests and the revision are required; a chunked or empty write gets 80
abbrev pub write_of : {D : Type 0} → ℕ → ℕ → ℕ → ℕ → Option (List (EntryOf D)) → Option (WriteOf D)
write_of suppress timed more revision es =
    pick (given suppress)
    (pick (given timed)
    (pick (unchunked more)
    (pick (given revision) (bind_o es (λ l. pick (is_empty l) None (Some (record { suppress = suppress; timed = timed; entries = l })))) None)
    None)
    None)
    None

unfoldable pub write_from : List ℕ → List ℕ → Option (WriteOf ℕ)
write_from s seen =
    write_of (flag_in s (get_or seen 0 0)) (flag_in s (get_or seen 1 0)) (flag_in s (get_or seen 3 0)) (number_in 255 false s (get_or seen 9 0)) (required_in (list_at entry_at (depth_limit - 1) s) (get_or seen 2 0))

unfoldable pub write_in : List ℕ → Option (WriteOf ℕ)
write_in s = whole_in write_tags (write_from s) s

unfoldable pub write_slots : List Slot → Option (WriteOf Tree)
write_slots xs =
    write_of (flag_t (get_or xs 0 absent)) (flag_t (get_or xs 1 absent)) (flag_t (get_or xs 3 absent)) (number_t 255 false (get_or xs 9 absent)) (required_t (list_t entry_t) (get_or xs 2 absent))

unfoldable pub write_t : Trees → Option (WriteOf Tree)
write_t ts = whole_t write_tags write_slots ts

-- A REQUEST: whether it is well-formed, its two flags, and the first of its entries
pub record WriteRequest : Type 0 where
  pub good : Bool
  pub suppress : ℕ
  pub timed : ℕ
  pub entries : Firsts WriteEntry

abbrev pub write_read : Option (WriteOf ℕ) → WriteRequest
write_read None = record { good = false; suppress = 0; timed = 0; entries = no_firsts write_limit no_entry }
write_read (Some w) = record { good = true; suppress = w.suppress; timed = w.timed; entries = entries_struct w.entries }

-- ---- AS THE CODE HAS IT: the count, and the entries in the words that are lent

pub record WriteKept : Type 0 where
  pub good : Bool
  pub suppress : ℕ
  pub timed : ℕ
  pub entries : Kept

abbrev pub write_counts : Option WriteCounts → WriteCounts
write_counts None = record { suppress = 0; timed = 0; entries = 0 }
write_counts (Some r) = r

abbrev pub write_with : Option WriteCounts → List ℕ → WriteKept
write_with r words =
    record { good = is_some r; suppress = (write_counts r).suppress; timed = (write_counts r).timed; entries = record { count = (write_counts r).entries; words = words } }

abbrev pub write_kept : List ℕ → Option (WriteOf ℕ) → WriteKept
write_kept words None = record { good = false; suppress = 0; timed = 0; entries = kept_none (write_limit * entry_size) }
write_kept words (Some w) = record { good = true; suppress = w.suppress; timed = w.timed; entries = kept_as write_limit kept_words words w.entries }

-- whatever stands in the words of one that is refused
abbrev pub write_left : Option WriteCounts → List ℕ → WriteKept
write_left r words = pick (is_some r) (write_with r words) (write_kept [] None)

-- by a pass over the request's members that has ended, with so many entries
abbrev pub write_made : ℕ → ℕ → ℕ → ℕ → ℕ → Option WriteCounts
write_made suppress timed more revision count =
    pick (given suppress)
    (pick (given timed)
    (pick (unchunked more)
    (pick (given revision)
    (pick (eqb count 0) None (Some (record { suppress = suppress; timed = timed; entries = count })))
    None)
    None)
    None)
    None

unfoldable pub write_by : ℕ → Pass → ℕ → Option WriteCounts
write_by len m count =
    pick (whole_pass len m)
    (write_made (flag_by (get_or m.codes 0 0)) (flag_by (get_or m.codes 1 0)) (flag_by (get_or m.codes 3 0)) (number_by 255 false (get_or m.codes 9 0)) count)
    None

-- the tree that stands at a place, for each entry
abbrev pub entry_tree : ℕ → List ℕ → EntryOf ℕ → EntryOf Tree
entry_tree d s x = record { version = x.version; endpoint = x.endpoint; cluster = x.cluster; attribute = x.attribute; element = or_none (tree_at d s x.element) }

abbrev pub write_tree : ℕ → List ℕ → WriteOf ℕ → WriteOf Tree
write_tree d s w = record { suppress = w.suppress; timed = w.timed; entries = map (entry_tree d s) w.entries }
