-- What we write of a tree spells it.
use mathlib.Core.Path.{◌≡◌, refl, subst}
use Prim.Native.Nat.{ℕ, ◌<◌}
use native.Mathlib.Omega.{arith}
use Rattle.tlv_reader.specs.Tree.{Tree, Trees, Spells, SpellsAll}
use Rattle.tlv_reader.specs.Tree.Tag.{anonymous, context, common, implicit, full}
use Rattle.tlv_reader.specs.Tree.Tree.{primitive, container}
use Rattle.tlv_reader.specs.Tree.Trees.{none, more}
use Rattle.tlv_reader.specs.Tree as Tree
use Rattle.tlv_reader.specs.Value.{Datum, datum_p}
use Rattle.tlv_writer.specs.Element.{label_of}
use Rattle.tlv_writer.specs.Meaning.{tree_tag}
use Rattle.tlv_writer.proofs.Spelling.{spells, open-spells, end-spells, member-spells}
use Rattle.im_writer.specs.Spelling.{writer_tag, spelling, spellings, primitive_d, OurTag, Ours, OursAll}

-- a value is what its tree means
pub datum-back : (d : Datum) → datum_p (primitive_d d) ≡ d
unfolding primitive_d
datum-back Datum.null = refl
datum-back (Datum.boolean b) = refl
datum-back (Datum.unsigned n) = refl
datum-back (Datum.signed z) = refl
datum-back (Datum.float n) = refl
datum-back (Datum.text b) = refl
datum-back Datum.other = refl

-- a tag that we write is the tag that the writer has for it
tag_fits : (tag : Tree.Tag) → OurTag tag → (label_of (writer_tag tag) < 256) × (tree_tag (writer_tag tag) ≡ tag)
unfolding OurTag writer_tag label_of tree_tag
tag_fits anonymous h = (omega arith, refl)
tag_fits (context n) h = (h, refl)
tag_fits (common n) h = absurd h
tag_fits (implicit n) h = absurd h
tag_fits (full v p n) h = absurd h

mutual
  unfolding Ours spelling

  pub spelling-spells : (t : Tree) → Ours t → Spells t (spelling t)
  spelling-spells (primitive tag x) h =
      let f = tag_fits tag h.0 in
      subst (λ (g : Tree.Tag). Spells (primitive g x) (spelling (primitive tag x))) f.1 (spells (writer_tag tag) f.0 x h.1)
  spelling-spells (container tag kind ts) h =
      let f = tag_fits tag h.0 in
      subst (λ (g : Tree.Tag). Spells (container g kind ts) (spelling (container tag kind ts))) f.1 (open-spells (writer_tag tag) f.0 kind ts (spellings ts) h.1.0 h.1.1.0 (spellings-spell kind ts h.1.1.1))

  pub spellings-spell : (kind : ℕ) (ts : Trees) → OursAll kind ts → SpellsAll ts kind (spellings ts)
  spellings-spell kind none h = end-spells kind
  spellings-spell kind (more t ts) h =
      member-spells kind t ts (spelling t) (spellings ts) h.0 (spelling-spells t h.1.0) (spellings-spell kind ts h.1.1)
