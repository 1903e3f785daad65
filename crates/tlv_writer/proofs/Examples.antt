-- Worked examples, by computing: S5 (RULES 8.5), the ends of widths, and values of the examples of the Matter Core
-- Specification, Appendix A.
use mathlib.Core.Path.{◌≡◌, refl}
use mathlib.Core.Bool.{true}
use mathlib.Core.List.{[], ◌∷◌, ◌++◌}
use lib.IntN.{pos, negsuc}
use Rattle.base_octets.specs.Number.{bytes_of}
use Rattle.tlv_reader.specs.Octet.{tag_width, number_width, head_octets}
use Rattle.tlv_writer.specs.declared.Tag.TheVariants.{Anonymous, Context}
use Rattle.tlv_writer.specs.Width.{least_of, least_width, least_signed_width, twos, width_code}
use Rattle.tlv_writer.specs.Element.{form_of, label_of, head_for, unsigned_octets, signed_octets, boolean_octets, null_octets, float_octets, text_octets, open_octets, end_octets}

-- S5: -128, and -129
pub s5 : signed_octets (Context 2) (negsuc 127) ++ signed_octets (Context 2) (negsuc 128) ≡ 0x20 ∷ 0x02 ∷ 0x80 ∷ 0x21 ∷ 0x02 ∷ 0x7f ∷ 0xff ∷ []
unfolding signed_octets head_for head_octets bytes_of tag_width number_width form_of label_of least_signed_width least_of twos width_code
s5 = refl

-- 127, 128 and -2^63
pub signed-ends : signed_octets Anonymous (pos 127) ++ (signed_octets Anonymous (pos 128) ++ signed_octets Anonymous (negsuc 9223372036854775807)) ≡ 0 ∷ 0x7f ∷ 1 ∷ 0x80 ∷ 0 ∷ 3 ∷ 0 ∷ 0 ∷ 0 ∷ 0 ∷ 0 ∷ 0 ∷ 0 ∷ 0x80 ∷ []
unfolding signed_octets head_for head_octets bytes_of tag_width number_width form_of label_of least_signed_width least_of twos width_code
signed-ends = refl

-- 5, 256 and 65536
pub unsigned-widths : unsigned_octets (Context 0) 5 ++ (unsigned_octets (Context 0) 256 ++ unsigned_octets (Context 0) 65536) ≡ 0x24 ∷ 0 ∷ 5 ∷ 0x25 ∷ 0 ∷ 0 ∷ 1 ∷ 0x26 ∷ 0 ∷ 0 ∷ 0 ∷ 1 ∷ 0 ∷ []
unfolding unsigned_octets head_for head_octets bytes_of tag_width number_width form_of label_of least_width least_of width_code
unsigned-widths = refl

-- "Hello!"
pub hello : text_octets Anonymous (0x48 ∷ 0x65 ∷ 0x6c ∷ 0x6c ∷ 0x6f ∷ 0x21 ∷ []) ≡ 0x0c ∷ 6 ∷ 0x48 ∷ 0x65 ∷ 0x6c ∷ 0x6c ∷ 0x6f ∷ 0x21 ∷ []
unfolding text_octets head_for head_octets bytes_of tag_width number_width form_of label_of least_width least_of width_code
hello = refl

-- an untagged array of true, null and 17.9
pub array-of-three : open_octets Anonymous 22 ++ (boolean_octets Anonymous true ++ (null_octets Anonymous ++ (float_octets Anonymous 0x418f3333 ++ end_octets))) ≡ 0x16 ∷ 9 ∷ 0x14 ∷ 0x0a ∷ 0x33 ∷ 0x33 ∷ 0x8f ∷ 0x41 ∷ 0x18 ∷ []
unfolding open_octets boolean_octets null_octets float_octets head_for head_octets bytes_of tag_width number_width form_of label_of
array-of-three = refl
