-- Worked examples, by computing.
use mathlib.Core.Path.{◌≡◌, refl}
use mathlib.Core.Bool.{true, false}
use mathlib.Core.List.{[], ◌∷◌}
use Rattle.base_octets.specs.Number.{bytes_of}
use Rattle.tlv_reader.specs.Octet.{tag_width, number_width, head_octets}
use Rattle.tlv_reader.specs.Value.{Datum}
use Rattle.tlv_writer.specs.Width.{least_of, least_width, width_code}
use Rattle.tlv_writer.specs.Element.{form_of, label_of, head_for, unsigned_octets, boolean_octets, open_octets, datum_octets}
use Rattle.im_writer.specs.Spelling.{writer_tag, spelling, members, primitive_d}
use Rattle.im_writer.specs.Block.{path_tree, data_members}
use Rattle.im_writer.specs.Message.{message_tree, revision}
use Rattle.im_request_writer.specs.Request.{wildcard_tree, cluster_tree, filter_tree, paths_tree, filter_members, read_members, versioned, entry_tree, write_members}

-- the first read of a cache
pub first_read : spelling (message_tree (read_members [])) ≡ 0x15 ∷ 0x36 ∷ 0 ∷ 0x17 ∷ 0x18 ∷ 0x18 ∷ 0x28 ∷ 0x03 ∷ 0x24 ∷ 0xff ∷ 0x0a ∷ 0x18 ∷ []
unfolding spelling writer_tag read_members filter_members paths_tree wildcard_tree revision datum_octets unsigned_octets boolean_octets open_octets head_for head_octets bytes_of tag_width number_width form_of label_of least_width least_of width_code
first_read = refl

-- a read with a filter: cluster 6 of endpoint 1 is held at version 5
pub filtered-read : spelling (message_tree (read_members (filter_tree 1 6 5 ∷ []))) ≡ 0x15 ∷ 0x36 ∷ 0 ∷ 0x17 ∷ 0x18 ∷ 0x18 ∷ 0x28 ∷ 0x03 ∷ 0x36 ∷ 0x04 ∷ 0x15 ∷ 0x37 ∷ 0 ∷ 0x24 ∷ 0x01 ∷ 0x01 ∷ 0x24 ∷ 0x02 ∷ 0x06 ∷ 0x18 ∷ 0x24 ∷ 0x01 ∷ 0x05 ∷ 0x18 ∷ 0x18 ∷ 0x24 ∷ 0xff ∷ 0x0a ∷ 0x18 ∷ []
unfolding spelling members writer_tag read_members filter_members paths_tree wildcard_tree filter_tree cluster_tree revision datum_octets unsigned_octets boolean_octets open_octets head_for head_octets bytes_of tag_width number_width form_of label_of least_width least_of width_code
filtered-read = refl

-- false written to endpoint 1, cluster 6, attribute 0, if its version is 5; and whatever its version is
pub write-at-5 : spelling (message_tree (write_members (entry_tree true 5 1 6 0 (Datum.boolean false)))) ≡ 0x15 ∷ 0x28 ∷ 0 ∷ 0x28 ∷ 0x01 ∷ 0x36 ∷ 0x02 ∷ 0x15 ∷ 0x24 ∷ 0 ∷ 0x05 ∷ 0x37 ∷ 0x01 ∷ 0x24 ∷ 0x02 ∷ 0x01 ∷ 0x24 ∷ 0x03 ∷ 0x06 ∷ 0x24 ∷ 0x04 ∷ 0 ∷ 0x18 ∷ 0x28 ∷ 0x02 ∷ 0x18 ∷ 0x18 ∷ 0x24 ∷ 0xff ∷ 0x0a ∷ 0x18 ∷ []
unfolding spelling writer_tag primitive_d write_members entry_tree versioned data_members path_tree revision datum_octets unsigned_octets boolean_octets open_octets head_for head_octets bytes_of tag_width number_width form_of label_of least_width least_of width_code
write-at-5 = refl

pub write-anyway : spelling (message_tree (write_members (entry_tree false 0 1 6 0 (Datum.boolean false)))) ≡ 0x15 ∷ 0x28 ∷ 0 ∷ 0x28 ∷ 0x01 ∷ 0x36 ∷ 0x02 ∷ 0x15 ∷ 0x37 ∷ 0x01 ∷ 0x24 ∷ 0x02 ∷ 0x01 ∷ 0x24 ∷ 0x03 ∷ 0x06 ∷ 0x24 ∷ 0x04 ∷ 0 ∷ 0x18 ∷ 0x28 ∷ 0x02 ∷ 0x18 ∷ 0x18 ∷ 0x24 ∷ 0xff ∷ 0x0a ∷ 0x18 ∷ []
unfolding spelling writer_tag primitive_d write_members entry_tree versioned data_members path_tree revision datum_octets unsigned_octets boolean_octets open_octets head_for head_octets bytes_of tag_width number_width form_of label_of least_width least_of width_code
write-anyway = refl
