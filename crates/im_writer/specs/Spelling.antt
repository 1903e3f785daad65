-- The one spelling that we write of a tree (RULES 4.3, least widths; members stand in the tree's order).
use Rattle.std.specs.Prelude.{ℕ, ◌<◌, ◌≤◌, ◌≡◌, true, List, [], ◌∷◌, ◌++◌}
use Rattle.tlv_reader.specs.Octet.{structure, end_of_container}
use Rattle.tlv_reader.specs.Tree.{Tree, Trees, Primitive, stands, tag_of_tree}
use Rattle.tlv_reader.specs.Tree.Tag.{anonymous, context, common, implicit, full}
use Rattle.tlv_reader.specs.Tree.Tree.{primitive, container}
use Rattle.tlv_reader.specs.Tree.Trees.{none, more}
use Rattle.tlv_reader.specs.Tree as Tree
use Rattle.tlv_reader.specs.Value.{Datum, datum_p}
use Rattle.tlv_writer.specs.declared.Tag.{Tag}
use Rattle.tlv_writer.specs.declared.Tag.TheVariants.{Anonymous, Context}
use Rattle.tlv_writer.specs.Element.{datum_octets, open_octets, end_octets}
use Rattle.tlv_writer.specs.Meaning.{Writable}

-- a tag as the writer has it; profile tags are not written
unfoldable pub writer_tag : Tree.Tag → Tag
writer_tag anonymous = Anonymous
writer_tag (context n) = Context n
writer_tag (common n) = Anonymous
writer_tag (implicit n) = Anonymous
writer_tag (full v p n) = Anonymous

-- the octets of a tree, and those of a container's members with its end
unfoldable mutual
  pub spelling : Tree → List ℕ
  spelling (primitive tag x) = datum_octets (writer_tag tag) (datum_p x)
  spelling (container tag kind ts) = open_octets (writer_tag tag) kind ++ spellings ts

  pub spellings : Trees → List ℕ
  spellings none = end_octets
  spellings (more t ts) = spelling t ++ spellings ts

-- the octets of trees one after the other
unfoldable pub joined : List Tree → List ℕ
joined [] = []
joined (t ∷ l) = spelling t ++ joined l

-- trees as members of a container
unfoldable pub members : List Tree → Trees
members [] = none
members (t ∷ l) = more t (members l)

-- a value as a tree has it; what we do not write as something that has no writing
unfoldable pub primitive_d : Datum → Primitive
primitive_d Datum.null = Primitive.null
primitive_d (Datum.boolean b) = Primitive.boolean b
primitive_d (Datum.unsigned n) = Primitive.unsigned n
primitive_d (Datum.signed z) = Primitive.signed z
primitive_d (Datum.float n) = Primitive.float32 n
primitive_d (Datum.text b) = Primitive.text b
primitive_d Datum.other = Primitive.float64 0

-- WHAT WE WRITE: untagged or with a context tag, values of 64 bits, members where they may stand
unfoldable pub OurTag : Tree.Tag → Type 0
OurTag anonymous = Unit {0}
OurTag (context n) = n < 256
OurTag (common n) = ⊥
OurTag (implicit n) = ⊥
OurTag (full v p n) = ⊥

unfoldable mutual
  pub Ours : Tree → Type 0
  Ours (primitive tag x) = OurTag tag × Writable x
  Ours (container tag kind ts) = OurTag tag × ((structure ≤ kind) × ((kind < end_of_container) × OursAll kind ts))

  pub OursAll : ℕ → Trees → Type 0
  OursAll kind none = Unit {0}
  OursAll kind (more t ts) = (stands kind (tag_of_tree t) ≡ true) × (Ours t × OursAll kind ts)

-- what holds of each of them
unfoldable pub Each : {A : Type 0} → (A → Type 0) → List A → Type 0
Each P [] = Unit {0}
Each P (x ∷ l) = P x × Each P l
