-- The cache's calls, each by computing.
use mathlib.Core.Path.{refl}
use Rattle.base_octets.specs.Number.{bytes_of}
use Rattle.base_octets.specs.Number as Number
use Rattle.base_octets.specs.Store.{store}
use Rattle.base_utf8.specs.WellFormed.{after, completes, table, trailing, well_formed, within}
use Rattle.tlv_reader.specs.Head.{closed_at, head_at}
use Rattle.tlv_reader.specs.Octet.{head_octets, number_width, tag_width}
use Rattle.tlv_reader.specs.Value.{value_in, value_of}
use Rattle.tlv_reader.specs.Walk.{allowed_in, element_by, element_end, fold_at, fold_by}
use Rattle.tlv_writer.specs.Element.{boolean_octets, datum_octets, form_of, head_for, label_of, open_octets, text_octets, unsigned_octets}
use Rattle.tlv_writer.specs.Width.{least_of, least_width, width_code}
use Rattle.im_members.specs.Array.{each_step, optional_in, required_in}
use Rattle.im_members.specs.Fields.{field_step, fields_at, fields_from, inside_at, place_of, put_at, slot_of}
use Rattle.im_members.specs.Scalar.{flag_in, flag_of, number_in, wide_in}
use Rattle.im_members.specs.Scalar as Scalar
use Rattle.im_blocks.specs.Data.{any_in, data_at, data_from, maybe_in, report_at, report_from}
use Rattle.im_blocks.specs.Path.{banned, exact_p, path_at, path_from, sound_path}
use Rattle.im_requests.specs.Message.{list_at, message_at, untagged}
use Rattle.im_responses.specs.Report.{part_from, part_in}
use Rattle.im_writer.specs.Block.{block_tree, data_block_tree, data_members, path_tree}
use Rattle.im_writer.specs.Envelope.{big_number, big_octets, envelope_octets, envelope_word}
use Rattle.im_writer.specs.Message.{report_ending, report_members, revision, status_members}
use Rattle.im_writer.specs.Spelling.{members, primitive_d, spelling, spellings, writer_tag}
use Rattle.im_envelope.specs.Envelope.{envelope_in, fields_of}
use Rattle.im_request_writer.specs.Request.{filter_members, paths_tree, read_members, wildcard_tree}
use Rattle.node_kinds.specs.Stored.{word_of}
use Rattle.node_schema.specs.Check.{count, every}
use Rattle.node_schema.specs.Search.{first}
use Rattle.cache_entries.specs.Coherent.{all_are, coherent_at, versions_from}
use Rattle.cache_order.specs.Order.{inserted, order_right, place_in, places_right, rising, word_at}
use Rattle.cache_entries.specs.Texts.{free_place, place_given, place_used}
use Rattle.cache_entries.specs.Set.{cluster_place, entry_place, order_with, with_cluster, with_entry}
use Rattle.cache_entries.specs.Valid.{clusters_right, entries_right, entry_right, held_right, text_right, text_right_at, texts_right, word_right}
use Rattle.cache_messages.specs.Filters.{filters_from, filters_of}
use Rattle.cache_messages.specs.Messages.{read_message, success_message}
use Rattle.im_responses.specs.Kept.{concrete_p}
use Rattle.cache_report.specs.Block.{judgement_by, judgement_of}
use Rattle.cache_entries.specs.Values.{inside_usable, long_v, usable_in}
use Rattle.cache_report.specs.Entry.{entry_position, held_for, kind_v, number_for, page_for, position_of, text_stored, with_item, word_as, worse}
use Rattle.cache_report.specs.Part.{blocks_in, held_all, judged_all, page_all}
use Rattle.cache_state.specs.Begin.{asked_as, begins_read, fresh, keeping, resends, unknown_after}
use Rattle.cache_state.specs.State.{asked_right, is_open, open_right, cache_right}
use Rattle.cache_receive.specs.Receive.{awaited, ended_as, for_cache, goes_on, opcode_awaited, past_turns, primed_as, received, takes, takes_part}
use Rattle.cache_ask.specs.Ask.{coherent_of}
use Rattle.proof_example.specs.Plan.{page}
use Rattle.proof_example.specs.Messages.{request, success, part1, part2}
use Rattle.proof_example.specs.Cache.{panel1, panel2, panel3, page2, page3, kept_request, kept_success}
use Rattle.proof_example.specs.Calls.{CacheCalls}

pub cache-calls : CacheCalls
unfolding bytes_of Number.number_of store after completes table trailing well_formed within closed_at head_at head_octets number_width tag_width value_in value_of allowed_in element_by element_end fold_at fold_by boolean_octets datum_octets form_of head_for label_of open_octets text_octets unsigned_octets least_of least_width width_code each_step optional_in required_in field_step fields_at fields_from inside_at place_of put_at slot_of flag_in flag_of number_in wide_in Scalar.number_of any_in data_at data_from maybe_in report_at report_from banned exact_p path_at path_from sound_path list_at message_at untagged part_from part_in block_tree data_block_tree data_members path_tree big_number big_octets envelope_octets envelope_word report_ending report_members revision status_members members primitive_d spelling spellings writer_tag envelope_in fields_of filter_members paths_tree read_members wildcard_tree word_of count every first inserted order_right place_in places_right rising word_at all_are coherent_at versions_from free_place place_given place_used cluster_place entry_place order_with with_cluster with_entry clusters_right entries_right entry_right held_right text_right text_right_at texts_right word_right filters_from filters_of read_message success_message concrete_p judgement_by judgement_of inside_usable long_v usable_in entry_position held_for kind_v number_for page_for position_of text_stored with_item word_as worse blocks_in held_all judged_all page_all asked_as begins_read fresh keeping resends unknown_after asked_right open_right is_open cache_right awaited ended_as for_cache goes_on opcode_awaited past_turns primed_as received takes takes_part coherent_of page kept_request kept_success page2 page3 panel1 panel2 panel3 part1 part2 request success
cache-calls = record { page-size = refl; begins = refl; resends = refl; takes = refl; refuses = refl; ends = refl; request-sent = λ l. refl; success-sent = λ l. refl; whole = refl; not-whole = refl }
