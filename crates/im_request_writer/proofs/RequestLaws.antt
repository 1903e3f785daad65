-- The requests that we write: frame and contents together spell the request's tree, within the depth of a message.
use mathlib.Core.Path.{◌≡◌, refl}
use mathlib.Core.Bool.{Bool, true, false}
use mathlib.Core.List.{List, [], ◌∷◌, ◌++◌, append_assoc}
use Prim.Native.Nat.{ℕ, ◌+◌, ◌*◌, ◌^◌, ◌<◌, ◌≤◌, max}
use native.Mathlib.Nat.{max-le}
use native.Mathlib.Omega.{arith}
use lib.ListN.{length, length-append}
use Rattle.tlv_reader.specs.Octet.{tag_width, number_width, structure}
use Rattle.tlv_reader.specs.Tree.{Tree, SpellsMessage, depth, depths, stands}
use Rattle.tlv_reader.specs.Value.{Datum}
use Rattle.tlv_writer.specs.declared.Tag.TheVariants.{Context}
use Rattle.tlv_writer.specs.Element.{form_of, head_length, end_octets, datum_octets}
use Rattle.tlv_writer.specs.Meaning.{Writable}
use Rattle.tlv_writer.proofs.Octets.{length-boolean}
use Rattle.im_writer.specs.Spelling.{writer_tag, spelling, spellings, joined, primitive_d, Each, OurTag, Ours, OursAll}
use Rattle.im_writer.specs.Block.{flag, path_tree, data_members, ShortText}
use Rattle.im_writer.specs.Message.{message_tree, revision, ListedTree}
use Rattle.im_writer.proofs.SpellingLaws.{datum-back}
use Rattle.im_writer.proofs.LengthLaws.{anonymous-open, context-open, context-unsigned, width32, path-bound, value-bound, length-revision, joined-bound}
use Rattle.im_writer.proofs.BlockLaws.{ours-data, ours-versioned}
use Rattle.im_writer.proofs.MessageLaws.{members-joined, message-spells, ours-revision, members-depth, ours-array}
use Rattle.im_request_writer.specs.Request.{wildcard_tree, paths_tree, filter_members, read_members, read_opening, filters_opening, read_closing, versioned, version_octets, entry_tree, write_members, write_opening}

-- READ REQUEST: opening, filters if there are any, closing
pub read_none : read_opening ++ read_closing false ≡ spelling (message_tree (read_members []))
unfolding spelling writer_tag read_members filter_members read_opening read_closing
read_none = simp append_assoc

pub read_some : (t : Tree) (l : List Tree) → read_opening ++ (filters_opening ++ (joined (t ∷ l) ++ read_closing true)) ≡ spelling (message_tree (read_members (t ∷ l)))
unfolding spelling writer_tag read_members filter_members read_opening filters_opening read_closing
read_some t l = rw (members-joined (t ∷ l)) (simp append_assoc)

ours-paths : Ours paths_tree
unfolding Ours OurTag paths_tree wildcard_tree stands
ours-paths = (omega arith, (omega arith, (omega arith, (refl, ((tt, (omega arith, (omega arith, tt))), tt)))))

ours-filters : (l : List Tree) → Each ListedTree l → OursAll structure (filter_members l)
unfolding Ours filter_members stands
ours-filters [] h = ours-revision
ours-filters (t ∷ l) h = (refl, (ours-array 4 (t ∷ l) (omega arith) h, ours-revision))

filters-depth : (l : List Tree) → Each ListedTree l → depths (filter_members l) ≤ 9
unfolding filter_members depth revision
filters-depth [] h = omega arith
filters-depth (t ∷ l) h = max-le (omega (arith, members-depth (t ∷ l) h)) (omega arith)

pub read-spells : (l : List Tree) → Each ListedTree l → SpellsMessage (read_members l) (spelling (message_tree (read_members l)))
unfolding read_members Ours OurTag Writable paths_tree wildcard_tree depth stands
read-spells l h =
    message-spells (read_members l) (refl, (ours-paths, (refl, ((omega arith, tt), ours-filters l h))))
    (max-le (omega arith) (max-le (omega arith) (filters-depth l h)))

-- lengths of a read request's frame; a request with n filters of at most 21 octets each
flag-length : (n : ℕ) (b : Bool) → length (spelling (flag n b)) ≡ 2
unfolding spelling writer_tag datum_octets head_length form_of tag_width
flag-length n b = length-boolean (Context n) b

pub length-read-opening : length read_opening ≡ 8
unfolding read_opening spelling writer_tag paths_tree wildcard_tree number_width
length-read-opening = simp (length-append, anonymous-open 21 refl, anonymous-open 23 refl, context-open 0 22 refl, flag-length)

pub length-filters-opening : length filters_opening ≡ 2
unfolding filters_opening number_width
length-filters-opening = context-open 4 22 refl

pub length-read-closing : (any : Bool) → length (read_closing any) ≤ 5
unfolding read_closing
length-read-closing true = omega (arith, length-revision)
length-read-closing false = omega (arith, length-revision)

pub read-bound : (l : List Tree) → Each (λ t. length (spelling t) ≤ 21) l → length (spelling (message_tree (read_members l))) ≤ 15 + length l * 21
read-bound [] h = rw (← read_none) (omega (arith, length-append read_opening (read_closing false), length-read-opening, length-read-closing false))
read-bound (t ∷ l) h =
    rw (← (read_some t l))
    (simp (length-append, length-read-opening, length-filters-opening) (omega (arith, length-read-closing true, joined-bound 21 (t ∷ l) h)))

-- WRITE REQUEST
pub length-write-opening : length write_opening ≡ 8
unfolding write_opening number_width
length-write-opening = simp (length-append, anonymous-open 21 refl, context-open 2 22 refl, flag-length)

module _ (given : Bool) (version e c a : ℕ) (d : Datum) where
  pub write-octets : write_opening ++ (version_octets given version ++ (spellings (data_members e c a d) ++ (end_octets ++ spellings revision))) ≡ spelling (message_tree (write_members (entry_tree given version e c a d)))
  unfolding spelling writer_tag datum_octets write_members entry_tree versioned version_octets write_opening
  write-octets = go given
    where
      go : (g : Bool) → write_opening ++ (version_octets g version ++ (spellings (data_members e c a d) ++ (end_octets ++ spellings revision))) ≡ spelling (message_tree (write_members (entry_tree g version e c a d)))
      go true = simp append_assoc
      go false = simp append_assoc

  pub length-write : length (spelling (message_tree (write_members (entry_tree given version e c a d)))) ≡ length write_opening + length (version_octets given version) + length (spellings (data_members e c a d)) + 1 + length (spellings revision)
  length-write = rw (← write-octets) (simp length-append (omega arith))

  module _ (fv : version < 2 ^ 32) (fe : e < 2 ^ 16) (fc : c < 2 ^ 32) (fa : a < 2 ^ 32) where
    ours-entry : Writable (primitive_d d) → OursAll structure (versioned given version (data_members e c a d))
    unfolding versioned
    ours-entry w = go given
      where
        go : (g : Bool) → OursAll structure (versioned g version (data_members e c a d))
        go true = ours-versioned e c a fe fc fa d version fv w
        go false = ours-data e c a fe fc fa d w

    entry-depth : depth (entry_tree given version e c a d) ≤ 8
    unfolding entry_tree versioned data_members path_tree depth
    entry-depth = go given
      where
        go : (g : Bool) → depth (entry_tree g version e c a d) ≤ 8
        go true = omega arith
        go false = omega arith

    pub write-spells : Writable (primitive_d d) → SpellsMessage (write_members (entry_tree given version e c a d)) (spelling (message_tree (write_members (entry_tree given version e c a d))))
    unfolding write_members entry_tree Ours OurTag Writable depth stands revision
    write-spells w =
        let deep : max (depth (entry_tree given version e c a d)) 0 ≤ 8 = max-le entry-depth (omega arith) in
        message-spells (write_members (entry_tree given version e c a d))
        (refl, ((omega arith, tt), (refl, ((omega arith, tt), (refl, ((omega arith, (omega arith, (omega arith, (refl, ((tt, (omega arith, (omega arith, ours-entry w))), tt))))), ours-revision))))))
        (max-le (omega arith) (max-le (omega arith) (max-le (omega arith) (omega arith))))

    version-bound : length (version_octets given version) ≤ 6
    unfolding version_octets
    version-bound = go given
      where
        go : (g : Bool) → length (version_octets g version) ≤ 6
        go true = omega (arith, context-unsigned 0 version, width32 version fv)
        go false = omega arith

    length-data : length (spellings (data_members e c a d)) ≡ length (spelling (path_tree 1 e c a)) + length (datum_octets (Context 2) d) + 1
    unfolding spelling writer_tag data_members
    length-data = simp (length-append, datum-back) (omega arith)

    pub write-bound : ShortText d → length (spelling (message_tree (write_members (entry_tree given version e c a d)))) ≤ 242
    write-bound h =
        omega (arith, length-write, length-write-opening, version-bound, length-data, path-bound e c a fe fc fa 1, value-bound d h, length-revision)
