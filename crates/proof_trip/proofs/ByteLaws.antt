-- What is spelled is of bytes, if the strings in it are.
use mathlib.Core.Path.{◌≡◌, sym, subst}
use mathlib.Core.Bool.{Bool, true, false}
use mathlib.Core.List.{List, [], ◌∷◌, map}
use Prim.Native.Nat.{ℕ, zero, suc, ◌/◌, ◌^◌, ◌<◌}
use native.Mathlib.Omega.{arith}
use lib.Dec.{ltb}
use lib.ListN.{length, get_or}
use Rattle.base_octets.specs.Number.{bytes_of, Bytes}
use Rattle.tlv_reader.specs.Octet.{pick, tag_width, number_width, is_string, head_octets, end_of_container}
use Rattle.tlv_reader.specs.Tree.{Tag, Primitive, Tree, Trees, primitive_of, scalar_of, SpellsPrimitive, Spells, SpellsAll}
use Rattle.tlv_reader.specs.Tree.Tree.{primitive, container}
use Rattle.tlv_reader.specs.Tree.Trees.{none, more}
use Rattle.tlv_reader.specs.Value.{Datum}
use Rattle.tlv_writer.specs.Meaning.{Writable}
use Rattle.im_writer.specs.Spelling.{Each, members, primitive_d}
use Rattle.im_writer.specs.Block.{Block, block_tree, data_block_tree, status_block_tree, data_members, answer_members, path_tree, status_tree}
use Rattle.im_writer.specs.Message.{ListedTree, message_tree, revision, report_ending, report_members}
use Rattle.im_writer.specs.Meaning.{PathFits, Fits}
use Rattle.im_writer.proofs.BlockLaws.{listed-block}
use Rattle.im_writer.proofs.MessageLaws.{report-spells}
use Rattle.im_request_writer.specs.Request.{write_members, entry_tree, versioned}
use Rattle.im_request_writer.proofs.RequestLaws.{write-spells}
use Rattle.proof_round_trip.specs.Meant.{report_octets, write_octets}
use Rattle.proof_round_trip.proofs.ListLaws.{each_map}
use Rattle.proof_trip.specs.Taken.{Takable, Sent}
use Rattle.proof_trip.proofs.EachLaws.{each_both}
use Rattle.proof_trip.proofs.Utf8Laws.{Byte, utf8-bytes}

pub to-bytes : (l : List ℕ) → Each Byte l → Bytes l
unfolding Each Bytes
to-bytes [] h k b = absurd (omega arith)
to-bytes (x ∷ l) h k b = go k b (to-bytes l h.1)
  where
    go : (k : ℕ) → k < length (x ∷ l) → Bytes l → get_or (x ∷ l) k 0 < 256
    go zero b rest = h.0
    go (suc k) b rest = rest k (omega arith)

number-bytes : (w n : ℕ) → Each Byte (bytes_of w n)
unfolding Each bytes_of
number-bytes zero n = tt
number-bytes (suc w) n = (omega arith, number-bytes w (n / 256))

head_bytes : (form kind label number : ℕ) → form < 8 → kind < 32 → Each Byte (head_octets form kind label number)
unfolding Each head_octets
head_bytes form kind label number f k =
    (omega arith, each_both Byte (bytes_of (tag_width form) label) (bytes_of (number_width kind) number) (number-bytes (tag_width form) label) (number-bytes (number_width kind) number))

-- strings of bytes: in a value, and in a tree
unfoldable pub ByteValue : Primitive → Type 0
ByteValue Primitive.null = Unit {0}
ByteValue (Primitive.boolean b) = Unit {0}
ByteValue (Primitive.unsigned n) = Unit {0}
ByteValue (Primitive.signed z) = Unit {0}
ByteValue (Primitive.float32 n) = Unit {0}
ByteValue (Primitive.float64 n) = Unit {0}
ByteValue (Primitive.text b) = Each Byte b
ByteValue (Primitive.octets b) = Each Byte b

unfoldable mutual
  pub ByteTree : Tree → Type 0
  ByteTree (primitive tag x) = ByteValue x
  ByteTree (container tag kind ts) = ByteTrees ts

  pub ByteTrees : Trees → Type 0
  ByteTrees none = Unit {0}
  ByteTrees (more t ts) = ByteTree t × ByteTrees ts

body_bytes : (s t : Bool) (n : ℕ) (body : List ℕ) (x : Primitive) → length body ≡ pick s n 0 → ByteValue (pick s (pick t (Primitive.text body) (Primitive.octets body)) x) → Each Byte body
unfolding ByteValue Each
body_bytes true true n body x e h = h
body_bytes true false n body x e h = h
body_bytes false t n [] x e h = tt
body_bytes false t n (b ∷ body) x e h = absurd (omega (arith, e))

primitive-bytes : {tag : Tag} {x : Primitive} {bs : List ℕ} → SpellsPrimitive tag x bs → ByteValue x → Each Byte bs
unfolding primitive_of
primitive-bytes w h =
    rw w.is-bytes (each_both Byte (head_octets w.form w.kind w.label w.number) w.body (head_bytes w.form w.kind w.label w.number w.form-fits (omega (arith, w.kind_fits)))
    (body_bytes (is_string w.kind) (ltb w.kind 16) w.number w.body (scalar_of w.kind w.number) w.body-fits (subst ByteValue w.is-value h)))

end-byte : Each Byte (end_of_container ∷ [])
unfolding Each
end-byte = (omega arith, tt)

mutual
  unfolding Spells ByteTree

  pub tree-bytes : (t : Tree) (bs : List ℕ) → Spells t bs → ByteTree t → Each Byte bs
  tree-bytes (primitive tag x) bs w h = primitive-bytes w h
  tree-bytes (container tag kind ts) bs w h =
      subst (Each Byte) (sym w.is-bytes) (each_both Byte (head_octets w.form kind w.label 0) w.rest (head_bytes w.form kind w.label 0 w.form-fits (omega (arith, w.kind-high))) (trees-bytes ts kind w.rest w.rests h))

  trees-bytes : (ts : Trees) (kind : ℕ) (bs : List ℕ) → SpellsAll ts kind bs → ByteTrees ts → Each Byte bs
  trees-bytes none kind bs e h = subst (Each Byte) (sym e) end-byte
  trees-bytes (more t ts) kind bs w h =
      subst (Each Byte) (sym w.1.is-bytes) (each_both Byte w.1.first w.1.rest (tree-bytes t w.1.first w.1.firsts h.0) (trees-bytes ts kind w.1.rest w.1.rests h.1))

-- a value that a cache can take
datum-bytes : (d : Datum) → Takable d → ByteValue (primitive_d d)
unfolding Takable primitive_d ByteValue
datum-bytes Datum.null h = tt
datum-bytes (Datum.boolean b) h = tt
datum-bytes (Datum.unsigned n) h = tt
datum-bytes (Datum.signed z) h = tt
datum-bytes (Datum.float n) h = tt
datum-bytes (Datum.text b) h = utf8-bytes b h.0
datum-bytes Datum.other h = tt

-- A REPORT
block-bytes : (b : Block) → Sent b → ByteTree (block_tree b)
unfolding Sent ByteTree ByteValue block_tree data_block_tree status_block_tree data_members answer_members path_tree status_tree
block-bytes (Block.value version e c a d) h = ((tt, ((tt, (tt, (tt, tt))), (datum-bytes d h.1, tt))), tt)
block-bytes (Block.status e c a code) h = (((tt, (tt, (tt, tt))), ((tt, tt), tt)), tt)

blocks-bytes : (l : List Block) → Each Sent l → ByteTrees (members (map block_tree l))
unfolding Each ByteTree members
blocks-bytes [] h = tt
blocks-bytes (b ∷ l) h = (block-bytes b h.0, blocks-bytes l h.1)

members-bytes : (l : List Block) (m : Bool) → Each Sent l → ByteTrees (report_members (map block_tree l) m)
unfolding ByteTree ByteValue report_members report_ending revision
members-bytes [] m h = (tt, (tt, tt))
members-bytes (b ∷ l) m h = (blocks-bytes (b ∷ l) h, (tt, (tt, tt)))

sent-fits : (b : Block) → Sent b → Fits b
unfolding Sent
sent-fits (Block.value version e c a d) h = h.0
sent-fits (Block.status e c a code) h = h

pub all_fit : (l : List Block) → Each Sent l → Each Fits l
unfolding Each
all_fit [] h = tt
all_fit (b ∷ l) h = (sent-fits b h.0, all_fit l h.1)

pub report-bytes : (l : List Block) (m : Bool) → Each Sent l → Bytes (report_octets l m)
unfolding ByteTree
report-bytes l m h =
    to-bytes (report_octets l m) (tree-bytes (message_tree (report_members (map block_tree l) m)) (report_octets l m) (report-spells (map block_tree l) m (each_map Fits block_tree ListedTree listed-block l (all_fit l h))).spells (members-bytes l m h))

-- A WRITE
module _ (given : Bool) (version e c a : ℕ) (d : Datum) (h : Takable d) where
  entry-bytes : (g : Bool) → ByteTree (entry_tree g version e c a d)
  unfolding ByteTree ByteValue entry_tree versioned data_members path_tree
  entry-bytes true = (tt, ((tt, (tt, (tt, tt))), (datum-bytes d h, tt)))
  entry-bytes false = ((tt, (tt, (tt, tt))), (datum-bytes d h, tt))

  pub write_bytes : version < 2 ^ 32 → PathFits e c a → Writable (primitive_d d) → Bytes (write_octets given version e c a d)
  unfolding ByteTree ByteValue write_members revision
  write_bytes fv p w =
      to-bytes (write_octets given version e c a d) (tree-bytes (message_tree (write_members (entry_tree given version e c a d))) (write_octets given version e c a d) (write-spells given version e c a d fv p.endpoint-fits p.cluster-fits p.attribute-fits w).spells (tt, (tt, ((entry-bytes given, tt), (tt, tt)))))
