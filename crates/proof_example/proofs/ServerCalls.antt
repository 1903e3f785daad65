-- The server's calls, each by computing.
use mathlib.Core.Path.{refl}
use Rattle.base_octets.specs.Number.{bytes_of}
use Rattle.base_octets.specs.Number as Number
use Rattle.base_octets.specs.Store.{store}
use Rattle.base_utf8.specs.Bytewise.{all_below}
use Rattle.base_utf8.specs.WellFormed.{completes, table, trailing, within}
use Rattle.base_utf8.specs.WellFormed as Utf8
use Rattle.tlv_reader.specs.Head.{closed_at, head_at}
use Rattle.tlv_reader.specs.Octet.{head_octets, number_width, tag_width}
use Rattle.tlv_reader.specs.Walk.{allowed_in, element_by, element_end, fold_at, fold_by}
use Rattle.tlv_writer.specs.Element.{boolean_octets, datum_octets, form_of, head_for, label_of, open_octets, text_octets, unsigned_octets}
use Rattle.tlv_writer.specs.Width.{least_of, least_width, width_code}
use Rattle.im_members.specs.Array.{each_step, optional_in}
use Rattle.im_members.specs.Fields.{field_step, fields_at, fields_from, inside_at, place_of, put_at, slot_of}
use Rattle.im_members.specs.Scalar.{flag_in, flag_of, number_in, wide_in}
use Rattle.im_members.specs.Scalar as Scalar
use Rattle.im_blocks.specs.Path.{askable_p, banned, loose, path_at, path_from, sound_path}
use Rattle.im_requests.specs.Message.{first_of, list_at, message_at, untagged}
use Rattle.im_requests.specs.Read.{asked_at, asked_of, read_from, read_in}
use Rattle.im_requests.specs.Status.{response_from, response_in}
use Rattle.im_writer.specs.Block.{block_tree, data_block_tree, data_members, path_tree}
use Rattle.im_writer.specs.Envelope.{big_number, big_octets, envelope_octets, envelope_word}
use Rattle.im_writer.specs.Message.{report_ending, report_members, revision, status_members}
use Rattle.im_writer.specs.Spelling.{members, primitive_d, spelling, spellings, writer_tag}
use Rattle.im_envelope.specs.Envelope.{envelope_in, fields_of}
use Rattle.im_request_writer.specs.Request.{filter_members, paths_tree, read_members, wildcard_tree}
use Rattle.node_kinds.specs.Limits.{judged_in, status_code}
use Rattle.node_kinds.specs.Stored.{equal, held, next_version}
use Rattle.node_schema.specs.Check.{count, every, rises}
use Rattle.node_schema.specs.Check as Schema
use Rattle.node_schema.specs.Rows.{rows_from}
use Rattle.node_schema.specs.Search.{first}
use Rattle.node_access.specs.Access.{covers_place, given_by, grants_of, is_granted, level_of, privilege_ok, privileges_ok, table_ok}
use Rattle.node_plan.specs.Attributes.{kind_of}
use Rattle.node_plan.specs.Check.{accepted, numbers_right, texts_right}
use Rattle.node_plan.specs.Pages.{shown_text}
use Rattle.server_values.specs.Change.{stored_edits, stored_values, word_for}
use Rattle.server_values.specs.Fresh.{fresh_values}
use Rattle.server_values.specs.Valid.{values_right}
use Rattle.server_values.specs.Values.{datum_at, text_at}
use Rattle.server_selection.specs.Asked.{asked_for, asks_for, concrete}
use Rattle.server_selection.specs.Filters.{filter_words, joined, on, skips_now, word_after}
use Rattle.server_selection.specs.Request as Request
use Rattle.server_selection.specs.Request.{paths_words}
use Rattle.server_selection.specs.Items.{concrete_item, item_at, read_item, span, wildcard_item}
use Rattle.server_selection.specs.Locate.{located}
use Rattle.server_selection.specs.Reach.{allowed, reached}
use Rattle.im_exchange.specs.Rules.{action_of, on_request, on_status}
use Rattle.server_report.specs.Blocks.{block_of, blocks_from, collect, path_blocks, paths_blocks, value_block}
use Rattle.server_report.specs.Chunk.{left, taken}
use Rattle.server_report.specs.Chunk as report
use Rattle.server_report.specs.Part.{part_payload}
use Rattle.server_writes.specs.Offer.{changed, offered}
use Rattle.server_replies.specs.Refusal.{refusal_code}
use Rattle.server_replies.specs.Begin.{read_begun, request_of}
use Rattle.server_replies.specs.Messages.{report_message}
use Rattle.server_replies.specs.Row.{keeping, kept_right, next_part, row_right, served_right, standing_in}
use Rattle.server.specs.Receive.{for_server, reacted, received, step_of}
use Rattle.server.specs.Start.{altered_by, fresh_row, started}
use Rattle.server.specs.State.{server_right}
use Rattle.cache_messages.specs.Messages.{read_message, success_message}
use Rattle.proof_example.specs.Plan.{access, defaults, edits, plan, words}
use Rattle.proof_example.specs.Messages.{request, success, part1, part2}
use Rattle.proof_example.specs.Server.{sign0, sign1, sign2, sign3, changed_edits, changed_values, row1, row2}
use Rattle.proof_example.specs.Calls.{ServerCalls}

pub server-calls : ServerCalls
unfolding bytes_of Number.number_of store all_below completes table trailing within Utf8.after Utf8.well_formed closed_at head_at head_octets number_width tag_width allowed_in element_by element_end fold_at fold_by boolean_octets datum_octets form_of head_for label_of open_octets text_octets unsigned_octets least_of least_width width_code each_step optional_in field_step fields_at fields_from inside_at place_of put_at slot_of flag_in flag_of number_in wide_in Scalar.number_of askable_p banned loose path_at path_from sound_path first_of list_at message_at untagged asked_at asked_of read_from read_in response_from response_in block_tree data_block_tree data_members path_tree big_number big_octets envelope_octets envelope_word report_ending report_members revision status_members members primitive_d spelling spellings writer_tag envelope_in fields_of filter_members paths_tree read_members wildcard_tree judged_in status_code equal held next_version count every rises Schema.changes Schema.well_formed rows_from first covers_place given_by grants_of is_granted level_of privilege_ok privileges_ok table_ok kind_of accepted numbers_right texts_right shown_text stored_edits stored_values word_for fresh_values values_right datum_at text_at asked_for asks_for concrete filter_words joined on skips_now word_after paths_words concrete_item item_at read_item span wildcard_item located allowed reached action_of on_request on_status block_of blocks_from collect path_blocks paths_blocks value_block left taken report.after part_payload changed offered refusal_code read_begun request_of report_message keeping next_part kept_right row_right served_right standing_in for_server reacted received step_of altered_by fresh_row started server_right read_message success_message access defaults edits plan words changed_edits changed_values part1 part2 request row1 row2 sign0 sign1 sign2 sign3 success
server-calls = record { accepts = refl; words-fit = refl; table-right = refl; edits-size = refl; made = refl; begins = refl; repeats = refl; alters = refl; goes_on = refl; turns = (refl, refl); part1-sent = λ l. refl; part2-sent = λ l. refl; row6 = refl; may-read6 = (_, refl); stands = (refl, refl, refl, refl) }
