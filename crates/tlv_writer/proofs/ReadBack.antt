-- What is written is read back as it was meant, whatever stands before and after it.
use mathlib.Core.Path.{◌≡◌, refl}
use mathlib.Core.List.{List, ◌++◌}
use Prim.Native.Nat.{ℕ, ◌+◌, ◌<◌}
use native.Mathlib.Omega.{arith}
use lib.ListN.{length}
use Rattle.tlv_reader.specs.Tree.{Primitive, depth}
use Rattle.tlv_reader.specs.Tree.Tree.{primitive}
use Rattle.tlv_reader.specs.Value.{datum_p}
use Rattle.tlv_reader.specs.Walk.Got.{got}
use Rattle.tlv_reader.specs.Decode.{tree_at}
use Rattle.tlv_reader.proofs.Completeness.{tree-back}
use Rattle.tlv_writer.specs.declared.Tag.{Tag}
use Rattle.tlv_writer.specs.Element.{label_of, datum_octets}
use Rattle.tlv_writer.specs.Meaning.{tree_tag, Writable}
use Rattle.tlv_writer.proofs.Spelling.{spells}

pub read_back : (tag : Tag) → label_of tag < 256 → (x : Primitive) → Writable x → (d : ℕ) (p q : List ℕ) → tree_at d (p ++ (datum_octets tag (datum_p x) ++ q)) (length p) ≡ got (primitive (tree_tag tag) x) (length p + length (datum_octets tag (datum_p x)))
unfolding depth
read_back tag fits x w d p q = tree-back (primitive (tree_tag tag) x) d (p ++ (datum_octets tag (datum_p x) ++ q)) (length p) p q (datum_octets tag (datum_p x)) (spells tag fits x w) (omega arith) refl refl
