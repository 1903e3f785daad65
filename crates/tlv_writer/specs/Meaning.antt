-- What the written octets are meant to spell, in terms of the trees of tlv.
use Rattle.std.specs.Prelude.{◌^◌, ◌<◌, length}
use Rattle.std.specs.Int.Signed.{mag}
use Rattle.tlv_reader.specs.Tree.{Primitive}
use Rattle.tlv_reader.specs.Tree.Primitive.{null, boolean, unsigned, signed, float32, float64, text, octets}
use Rattle.tlv_reader.specs.Tree as Tree
use Rattle.tlv_writer.specs.declared.Tag.{Tag}
use Rattle.tlv_writer.specs.declared.Tag.TheVariants.{Anonymous, Context}

unfoldable pub tree_tag : Tag → Tree.Tag
tree_tag Anonymous = Tree.Tag.anonymous
tree_tag (Context n) = Tree.Tag.context n

-- what we write: integers and lengths of 64 bits, float32 of 32 bits; no float64 and no octet string
unfoldable pub Writable : Primitive → Type 0
Writable null = Unit {0}
Writable (boolean b) = Unit {0}
Writable (unsigned v) = v < 2 ^ 64
Writable (signed z) = mag z < 2 ^ 63
Writable (float32 n) = n < 2 ^ 32
Writable (float64 n) = ⊥
Writable (text bs) = length bs < 2 ^ 64
Writable (octets bs) = ⊥
