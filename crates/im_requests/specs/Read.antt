-- The Read Request (chapter 10, 10.6.2; RULES 4, 6.10 and 6.11).
use Rattle.std.specs.Prelude.{ℕ, ◌-◌, ◌*◌, List, [], ◌∷◌, Bool, true, false, length, get_or, eqb, Some, None, Option, is_some}
use Rattle.base_bounds.specs.Bounds.{depth_limit, path_limit, filter_limit}
use Rattle.tlv_reader.specs.Octet.{pick, structure, array}
use Rattle.tlv_reader.specs.Tree.{Tree, Trees}
use Rattle.tlv_reader.specs.Walk.{Got, bind_g, fold_at}
use Rattle.tlv_reader.specs.Decode.{bind_o, place}
use Rattle.im_members.specs.Fields.{Slot}
use Rattle.im_members.specs.Fields.Slot.{absent}
use Rattle.im_members.specs.Scalar.{ABSENT, number_in, flag_in, number_t, flag_t}
use Rattle.im_members.specs.Array.{each_step, optional_in, optional_t}
use Rattle.im_blocks.specs.declared.Path.{Path}
use Rattle.im_blocks.specs.declared.Filter.{Filter}
use Rattle.tlv_reader.specs.declared.Element.{Element}
use Rattle.im_blocks.specs.Path.{path_on, path_at, path_t, askable_p}
use Rattle.im_blocks.specs.Filter.{filter_on, filter_at, filter_t}
use Rattle.im_requests.specs.Message.{snoc, list_t, list_at, list_on, given, whole_in, whole_t, whole_pass, Firsts, firsts, no_firsts, Kept, kept_as, kept_none, ListRead, list_read}
use Rattle.im_requests.specs.declared.Target.{Target}
use Rattle.im_requests.specs.declared.VersionFilter.{VersionFilter}
use Rattle.im_requests.specs.declared.Passed.{Passed}
use Rattle.im_requests.specs.declared.ReadCounts.{ReadCounts}
use Rattle.im_members.specs.Pass.{Pass, pass_with, no_pass, pass_from, number_by, flag_by}

abbrev pub target_of : Path → Target
target_of p = record { endpoint = p.endpoint; cluster = p.cluster; attribute = p.attribute }

abbrev pub nowhere : Target
nowhere = record { endpoint = 0; cluster = 0; attribute = 0 }

-- in words
abbrev pub target_size : ℕ
target_size = 3

abbrev pub target_words : Target → List ℕ
target_words t = t.endpoint ∷ t.cluster ∷ t.attribute ∷ []

-- a path that a read may have, as what it asks for
unfoldable pub asked_of : Path → Option Target
asked_of p = pick (askable_p p) (Some (target_of p)) None

unfoldable pub asked_at : ℕ → List ℕ → ℕ → Got Target
asked_at d s at = bind_g (path_at d s at) (λ p n. place (asked_of p) n)

-- of the element with this head
unfoldable pub asked_on : ℕ → List ℕ → Element → Got Target
asked_on d s e = bind_g (path_on d s e) (λ p n. place (asked_of p) n)

unfoldable pub asked_t : Tree → Option Target
asked_t t = bind_o (path_t t) asked_of

-- the paths of an array, from a member on
unfoldable pub paths_from : ℕ → List ℕ → List Target → ℕ → Got (List Target)
paths_from d s l at = fold_at (each_step snoc (asked_at d s)) (length s) s array l at

unfoldable pub paths_at : ℕ → List ℕ → ℕ → Got (List Target)
paths_at d s at = paths_from d s [] at

abbrev pub paths_struct : List Target → Firsts Target
paths_struct l = firsts path_limit nowhere l

-- a filter as what it vouches for; one with a node in its path is refused
abbrev pub version_filter_of : Filter → VersionFilter
version_filter_of f = record { endpoint = f.path.endpoint; cluster = f.path.cluster; version = f.version }

abbrev pub unwanted : VersionFilter
unwanted = record { endpoint = 0; cluster = 0; version = 0 }

abbrev pub version_filter_size : ℕ
version_filter_size = 3

abbrev pub version_filter_words : VersionFilter → List ℕ
version_filter_words f = f.endpoint ∷ f.cluster ∷ f.version ∷ []

unfoldable pub local_f : Filter → Bool
local_f f = eqb f.path.node ABSENT

unfoldable pub version_filter_if : Filter → Option VersionFilter
version_filter_if f = pick (local_f f) (Some (version_filter_of f)) None

unfoldable pub version_filter_at : ℕ → List ℕ → ℕ → Got VersionFilter
version_filter_at d s at = bind_g (filter_at d s at) (λ f n. place (version_filter_if f) n)

unfoldable pub version_filter_on : ℕ → List ℕ → Element → Got VersionFilter
version_filter_on d s e = bind_g (filter_on d s e) (λ f n. place (version_filter_if f) n)

unfoldable pub version_filter_t : Tree → Option VersionFilter
version_filter_t t = bind_o (filter_t t) version_filter_if

unfoldable pub version_filters_from : ℕ → List ℕ → List VersionFilter → ℕ → Got (List VersionFilter)
version_filters_from d s l at = fold_at (each_step snoc (version_filter_at d s)) (length s) s array l at

unfoldable pub version_filters_at : ℕ → List ℕ → ℕ → Got (List VersionFilter)
version_filters_at d s at = version_filters_from d s [] at

abbrev pub version_filters_struct : List VersionFilter → Firsts VersionFilter
version_filters_struct l = firsts filter_limit unwanted l

-- THE MEANING of a read: all that it asks for, and all its filters
pub record Read : Type 0 where
  pub paths : List Target
  pub filters : List VersionFilter

abbrev pub read_tags : List Bool
read_tags = true ∷ false ∷ false ∷ true ∷ true ∷ false ∷ false ∷ false ∷ false ∷ true ∷ []

-- FabricFiltered and the revision are required, an absent list is empty
abbrev pub read_of : ℕ → ℕ → Option (List Target) → Option (List VersionFilter) → Option Read
read_of filtered revision ps fs =
    pick (given filtered) (pick (given revision) (bind_o ps (λ p. bind_o fs (λ f. Some (record { paths = p; filters = f })))) None) None

unfoldable pub read_from : List ℕ → List ℕ → Option Read
read_from s seen =
    read_of (flag_in s (get_or seen 3 0)) (number_in 255 false s (get_or seen 9 0)) (optional_in [] (list_at asked_at (depth_limit - 1) s) (get_or seen 0 0)) (optional_in [] (list_at version_filter_at (depth_limit - 1) s) (get_or seen 4 0))

unfoldable pub read_in : List ℕ → Option Read
read_in s = whole_in read_tags (read_from s) s

unfoldable pub read_slots : List Slot → Option Read
read_slots xs =
    read_of (flag_t (get_or xs 3 absent)) (number_t 255 false (get_or xs 9 absent)) (optional_t [] (list_t asked_t) (get_or xs 0 absent)) (optional_t [] (list_t version_filter_t) (get_or xs 4 absent))

unfoldable pub read_t : Trees → Option Read
read_t ts = whole_t read_tags read_slots ts

-- A REQUEST: whether it is well-formed, and the first of its paths and filters
pub record ReadRequest : Type 0 where
  pub good : Bool
  pub paths : Firsts Target
  pub filters : Firsts VersionFilter

abbrev pub read_read : Option Read → ReadRequest
read_read None = record { good = false; paths = no_firsts path_limit nowhere; filters = no_firsts filter_limit unwanted }
read_read (Some r) = record { good = true; paths = paths_struct r.paths; filters = version_filters_struct r.filters }

-- ---- AS THE CODE HAS IT: the counts, and the lists in the words that are lent

pub record ReadKept : Type 0 where
  pub good : Bool
  pub paths : Kept
  pub filters : Kept

abbrev pub read_counts : Option ReadCounts → ReadCounts
read_counts None = record { paths = 0; filters = 0 }
read_counts (Some r) = r

abbrev pub read_with : Option ReadCounts → List ℕ → List ℕ → ReadKept
read_with r paths filters =
    record { good = is_some r; paths = record { count = (read_counts r).paths; words = paths }; filters = record { count = (read_counts r).filters; words = filters } }

abbrev pub read_kept : List ℕ → List ℕ → Option Read → ReadKept
read_kept paths filters None = record { good = false; paths = kept_none (path_limit * target_size); filters = kept_none (filter_limit * version_filter_size) }
read_kept paths filters (Some r) =
    record { good = true; paths = kept_as path_limit target_words paths r.paths; filters = kept_as filter_limit version_filter_words filters r.filters }

-- whatever stands in the words of one that is refused
abbrev pub read_left : Option ReadCounts → List ℕ → List ℕ → ReadKept
read_left r paths filters = pick (is_some r) (read_with r paths filters) (read_kept [] [] None)

-- BY A PASS over the request's members: at a stop its list is read, and the pass goes on after it
pub record PassKept : Type 0 where
  pub pass : Pass
  pub kept : Kept

abbrev pub passed_with : Passed → List ℕ → List ℕ → List ℕ → PassKept
passed_with r at codes words = record { pass = pass_with r.stop at codes; kept = record { count = r.count; words = words } }

abbrev pub found_on : (ℕ → Pass) → ListRead → PassKept
found_on on x = record { pass = pick x.good (on x.next.at) no_pass; kept = x.kept }

abbrev pub stopped_at : ℕ → (List ℕ → Element → ListRead) → List ℕ → List Bool → Pass → Kept → PassKept
stopped_at i read s stops m before =
    pick (eqb m.slot i) (found_on (pass_from (depth_limit - 1) s structure read_tags stops m.at m.codes) (read before.words m.head)) (record { pass = m; kept = before })

unfoldable pub pass_paths : List ℕ → List Bool → Pass → Kept → PassKept
pass_paths s stops m before = stopped_at 0 (λ words e. list_read path_limit target_size target_words words (list_on asked_at (depth_limit - 1) s e)) s stops m before

unfoldable pub pass_version_filters : List ℕ → List Bool → Pass → Kept → PassKept
pass_version_filters s stops m before = stopped_at 4 (λ words e. list_read filter_limit version_filter_size version_filter_words words (list_on version_filter_at (depth_limit - 1) s e)) s stops m before

-- and the request is made of the pass that has ended, and of the lists
unfoldable pub readable : ℕ → Pass → Bool
readable len m =
    pick (whole_pass len m) (pick (given (flag_by (get_or m.codes 3 0))) (given (number_by 255 false (get_or m.codes 9 0))) false) false

unfoldable pub read_by : ℕ → Pass → Kept → Kept → ReadKept
read_by len m ps fs = pick (readable len m) (record { good = true; paths = ps; filters = fs }) (read_kept [] [] None)
