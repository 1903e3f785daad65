-- Worked examples, by computing: replies of RULES 8.
use mathlib.Core.Path.{◌≡◌, refl}
use mathlib.Core.Bool.{true, false}
use mathlib.Core.List.{[], ◌∷◌, ◌++◌}
use lib.IntN.{negsuc}
use Rattle.base_octets.specs.Number.{bytes_of}
use Rattle.tlv_reader.specs.Octet.{tag_width, number_width, head_octets}
use Rattle.tlv_reader.specs.Tree.Tag.{context}
use Rattle.tlv_reader.specs.Tree.Tree.{primitive}
use Rattle.tlv_reader.specs.Value.{Datum}
use Rattle.tlv_writer.specs.Width.{least_of, least_width, least_signed_width, twos, width_code}
use Rattle.tlv_writer.specs.Element.{form_of, label_of, head_for, unsigned_octets, signed_octets, boolean_octets, open_octets, datum_octets}
use Rattle.im_writer.specs.Envelope.{big_octets, cache_edition, envelope_word, envelope_octets}
use Rattle.im_writer.specs.Spelling.{writer_tag, spelling, members, primitive_d}
use Rattle.im_writer.specs.Block.{path_tree, data_members, data_block_tree, status_tree, answer_members, answer_tree, status_block_tree}
use Rattle.im_writer.specs.Message.{message_tree, revision, status_members, report_ending, report_members, response_members}

-- S1: the reply, envelope and payload
pub s1 : envelope_octets cache_edition 5 7 1 ++ spelling (message_tree (report_members (data_block_tree 5 1 6 0 (Datum.boolean true) ∷ []) false)) ≡ 0x05 ∷ 0 ∷ 0 ∷ 0 ∷ 0 ∷ 0x07 ∷ 0 ∷ 0x01 ∷ 0x15 ∷ 0x36 ∷ 0x01 ∷ 0x15 ∷ 0x35 ∷ 0x01 ∷ 0x24 ∷ 0 ∷ 0x05 ∷ 0x37 ∷ 0x01 ∷ 0x24 ∷ 0x02 ∷ 0x01 ∷ 0x24 ∷ 0x03 ∷ 0x06 ∷ 0x24 ∷ 0x04 ∷ 0 ∷ 0x18 ∷ 0x29 ∷ 0x02 ∷ 0x18 ∷ 0x18 ∷ 0x18 ∷ 0x29 ∷ 0x04 ∷ 0x24 ∷ 0xff ∷ 0x0a ∷ 0x18 ∷ []
unfolding envelope_octets envelope_word big_octets spelling members writer_tag primitive_d data_block_tree data_members path_tree report_members report_ending revision datum_octets unsigned_octets boolean_octets open_octets head_for head_octets bytes_of tag_width number_width form_of label_of least_width least_of width_code
s1 = refl

-- S2: the block of an absent attribute
pub s2 : spelling (status_block_tree 1 6 9 0x86) ≡ 0x15 ∷ 0x35 ∷ 0 ∷ 0x37 ∷ 0 ∷ 0x24 ∷ 0x02 ∷ 0x01 ∷ 0x24 ∷ 0x03 ∷ 0x06 ∷ 0x24 ∷ 0x04 ∷ 0x09 ∷ 0x18 ∷ 0x35 ∷ 0x01 ∷ 0x24 ∷ 0 ∷ 0x86 ∷ 0x18 ∷ 0x18 ∷ 0x18 ∷ []
unfolding spelling writer_tag status_block_tree answer_members status_tree path_tree datum_octets unsigned_octets open_octets head_for head_octets bytes_of tag_width number_width form_of label_of least_width least_of width_code
s2 = refl

-- S3: the payload with no block
pub s3 : spelling (message_tree (report_members [] false)) ≡ 0x15 ∷ 0x29 ∷ 0x04 ∷ 0x24 ∷ 0xff ∷ 0x0a ∷ 0x18 ∷ []
unfolding spelling writer_tag report_members report_ending revision datum_octets unsigned_octets boolean_octets open_octets head_for head_octets bytes_of tag_width number_width form_of label_of least_width least_of width_code
s3 = refl

-- S5: -128 and -129 as data
pub s5 : spelling (primitive (context 2) (primitive_d (Datum.signed (negsuc 127)))) ++ spelling (primitive (context 2) (primitive_d (Datum.signed (negsuc 128)))) ≡ 0x20 ∷ 0x02 ∷ 0x80 ∷ 0x21 ∷ 0x02 ∷ 0x7f ∷ 0xff ∷ []
unfolding spelling writer_tag primitive_d datum_octets signed_octets head_for head_octets bytes_of tag_width number_width form_of label_of least_signed_width least_of twos width_code
s5 = refl

-- a status response with INVALID_ACTION, and a write response with SUCCESS for endpoint 1, cluster 6, attribute 0
pub status-80 : spelling (message_tree (status_members 0x80)) ≡ 0x15 ∷ 0x24 ∷ 0 ∷ 0x80 ∷ 0x24 ∷ 0xff ∷ 0x0a ∷ 0x18 ∷ []
unfolding spelling writer_tag status_members revision datum_octets unsigned_octets open_octets head_for head_octets bytes_of tag_width number_width form_of label_of least_width least_of width_code
status-80 = refl

pub written : spelling (message_tree (response_members (answer_tree 1 6 0 0 ∷ []))) ≡ 0x15 ∷ 0x36 ∷ 0 ∷ 0x15 ∷ 0x37 ∷ 0 ∷ 0x24 ∷ 0x02 ∷ 0x01 ∷ 0x24 ∷ 0x03 ∷ 0x06 ∷ 0x24 ∷ 0x04 ∷ 0 ∷ 0x18 ∷ 0x35 ∷ 0x01 ∷ 0x24 ∷ 0 ∷ 0 ∷ 0x18 ∷ 0x18 ∷ 0x18 ∷ 0x24 ∷ 0xff ∷ 0x0a ∷ 0x18 ∷ []
unfolding spelling members writer_tag response_members revision answer_tree answer_members status_tree path_tree datum_octets unsigned_octets open_octets head_for head_octets bytes_of tag_width number_width form_of label_of least_width least_of width_code
written = refl
