-- S1 to S12, the read of two parts and the limits shown, each by computing.
use mathlib.Core.Path.{refl}
use lib.Ieee.{of_bits, nan_bits, le}
use Rattle.base_octets.specs.Number.{bytes_of}
use Rattle.base_octets.specs.Number as Number
use Rattle.base_octets.specs.Store.{store}
use Rattle.base_utf8.specs.WellFormed.{completes, table, trailing, within}
use Rattle.base_utf8.specs.WellFormed as Utf8
use Rattle.tlv_reader.specs.Head.{closed_at, head_at}
use Rattle.tlv_reader.specs.Octet.{head_octets, number_width, tag_width}
use Rattle.tlv_reader.specs.Value.{value_in, value_of}
use Rattle.tlv_reader.specs.Walk.{allowed_in, element_by, element_end, fold_at, fold_by}
use Rattle.tlv_writer.specs.Element.{boolean_octets, datum_octets, float_octets, form_of, head_for, label_of, open_octets, signed_octets, text_octets, unsigned_octets}
use Rattle.tlv_writer.specs.Width.{least_of, least_signed_width, least_width, twos, width_code}
use Rattle.im_members.specs.Array.{each_step, optional_in, required_in}
use Rattle.im_members.specs.Fields.{field_step, fields_at, fields_from, inside_at, place_of, put_at, slot_of}
use Rattle.im_members.specs.Scalar.{flag_in, flag_of, number_in, wide_in}
use Rattle.im_members.specs.Scalar as Scalar
use Rattle.im_blocks.specs.Data.{any_in, data_at, data_from}
use Rattle.im_blocks.specs.Filter.{cluster_at, cluster_from, filter_at, filter_from, sound_cluster}
use Rattle.im_blocks.specs.Path.{askable_p, banned, exact_p, loose, path_at, path_from, sound_path}
use Rattle.im_requests.specs.Message.{first_of, list_at, message_at, untagged}
use Rattle.im_requests.specs.Read.{asked_at, asked_of, local_f, read_from, read_in, version_filter_at, version_filter_if}
use Rattle.im_requests.specs.Status.{response_from, response_in}
use Rattle.im_requests.specs.Write.{entry_at, unchunked, write_from, write_in}
use Rattle.im_writer.specs.Block.{answer_members, answer_tree, block_tree, data_block_tree, data_members, path_tree, status_block_tree, status_tree}
use Rattle.im_writer.specs.Envelope.{big_number, big_octets, envelope_octets, envelope_word}
use Rattle.im_writer.specs.Message.{report_ending, report_members, response_members, revision, status_members}
use Rattle.im_writer.specs.Spelling.{members, primitive_d, spelling, spellings, writer_tag}
use Rattle.im_envelope.specs.Envelope.{envelope_in, fields_of}
use Rattle.node_kinds.specs.Float.{in_range, range_of, range_ok}
use Rattle.node_kinds.specs.Limits.{judged_in, status_code}
use Rattle.node_kinds.specs.Stored.{equal, held, next_version}
use Rattle.node_schema.specs.Check.{count, every, rises}
use Rattle.node_schema.specs.Check as Schema
use Rattle.node_schema.specs.Rows.{rows_from}
use Rattle.node_schema.specs.Search.{first}
use Rattle.node_access.specs.Access.{covers_place, given_by, grants_of, is_granted, level_of, privilege_ok, privileges_ok, table_ok}
use Rattle.node_plan.specs.Attributes.{kind_of}
use Rattle.node_plan.specs.Check.{accepted, float_right, numbers_right, texts_right}
use Rattle.node_plan.specs.Pages.{shown_text}
use Rattle.server_values.specs.Change.{stored_edits, stored_values, word_for}
use Rattle.server_values.specs.Fresh.{fresh_values}
use Rattle.server_values.specs.Valid.{values_right}
use Rattle.server_values.specs.Values.{datum_at, text_at}
use Rattle.server_selection.specs.Asked.{asked_for, asks_for, concrete}
use Rattle.server_selection.specs.Filters.{filter_words, joined, on, skips_now, word_after}
use Rattle.server_selection.specs.Request as Request
use Rattle.server_selection.specs.Request.{paths_words}
use Rattle.server_selection.specs.Items.{concrete_item, item_at, read_item, span, wildcard_item}
use Rattle.server_selection.specs.Locate.{located}
use Rattle.server_selection.specs.Reach.{allowed, reached}
use Rattle.im_exchange.specs.Rules.{action_of, on_request, on_status}
use Rattle.server_report.specs.Blocks.{block_of, blocks_from, collect, path_blocks, paths_blocks, value_block}
use Rattle.server_report.specs.Chunk.{after, left, taken}
use Rattle.server_report.specs.Part.{part_payload}
use Rattle.server_writes.specs.Entry.{codes_of, entry_written, held_after, may_write}
use Rattle.server_writes.specs.Offer.{changed, offered}
use Rattle.server_writes.specs.Response.{answer_trees, response_payload}
use Rattle.server_replies.specs.Refusal.{refusal_code}
use Rattle.server_replies.specs.Begin.{read_begun, request_of, write_begun}
use Rattle.server_replies.specs.Messages.{report_message, response_message, status_message}
use Rattle.server_replies.specs.Row.{keeping, kept_right, next_part, row_right, served_right, standing_in}
use Rattle.server.specs.Receive.{for_server, reacted, received, step_of}
use Rattle.server.specs.Start.{altered_by, fresh_row, started}
use Rattle.server.specs.State.{server_right}
use Rattle.proof_specimens.specs.Server.{words, defaults, edits, access, fresh}
use Rattle.proof_specimens.specs.Messages.{times, nested}
use Rattle.proof_specimens.specs.Specimens.{All}

pub all : All
unfolding bytes_of Number.number_of store completes table trailing within Utf8.after Utf8.well_formed closed_at head_at head_octets number_width tag_width value_of allowed_in element_by element_end fold_at fold_by boolean_octets datum_octets float_octets form_of head_for label_of open_octets signed_octets text_octets unsigned_octets least_of least_signed_width least_width twos width_code each_step optional_in required_in field_step fields_at fields_from inside_at place_of put_at slot_of flag_in flag_of number_in wide_in Scalar.number_of any_in data_at data_from cluster_at cluster_from filter_at filter_from sound_cluster askable_p banned exact_p loose path_at path_from sound_path first_of list_at message_at untagged asked_at asked_of local_f read_from read_in version_filter_at version_filter_if response_from response_in entry_at unchunked write_from write_in answer_members answer_tree block_tree data_block_tree data_members path_tree status_block_tree status_tree big_number big_octets envelope_octets envelope_word report_ending report_members response_members revision status_members members primitive_d spelling spellings writer_tag envelope_in fields_of in_range range_of range_ok judged_in status_code equal held next_version count every rises Schema.changes Schema.well_formed rows_from first covers_place given_by grants_of is_granted level_of privilege_ok privileges_ok table_ok kind_of accepted float_right numbers_right texts_right shown_text stored_edits stored_values word_for fresh_values values_right datum_at text_at asked_for asks_for concrete filter_words joined on skips_now word_after paths_words concrete_item item_at read_item span wildcard_item located allowed reached action_of on_request on_status block_of blocks_from collect path_blocks paths_blocks value_block after left taken part_payload codes_of entry_written held_after may_write value_in changed offered answer_trees response_payload refusal_code read_begun request_of write_begun report_message response_message status_message keeping next_part kept_right row_right served_right standing_in for_server reacted received step_of altered_by fresh_row started server_right of_bits nan_bits le words defaults edits access fresh times nested
all = record { made = refl; right = refl; table = refl; framed = refl; reported = refl; s1 = refl; s2 = refl; s3 = refl; s4 = refl; s5-128 = refl; s5-number = refl; s5-129 = refl; s6-zero = refl; s6-zero-read = refl; s6-zero-written = refl; s6-nan = refl; s6-nan-written = refl; s7-200 = refl; s7-200-read = refl; s7-200-written = refl; s7-201 = refl; s7-201-written = refl; s8 = refl; s8-version = refl; s8-values = refl; s8-page = refl; s9-from = refl; s9-number = refl; s9 = refl; s9-read = refl; s9-written = refl; s10-expanded = refl; s10-refused = refl; s11-16 = refl; s11-17 = refl; s12-10 = refl; s12-11 = refl; begun-5 = refl; begun-6 = refl; standing-5 = refl; standing-6 = refl; altering-5 = refl; altering-6 = refl; endpoints = refl; clusters = refl; attributes = refl; entries = refl; text = refl; text-room = refl; header = refl; versions = refl; edition = refl; exchanges = refl; turns = refl; payload = refl; first = refl; message = refl; depth = refl; paths = refl; writes = refl; filters = refl; cache-entries = refl; cache-clusters = refl; cache-text = refl }
