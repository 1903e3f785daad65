-- S1 to S12 of RULES 8, a read of two parts and the limits in figures, as one list, over what `receive` and `change` answer.
use Rattle.std.specs.Prelude.{◌≡◌, true, List, [], ◌∷◌, ◌++◌, ℕ, ◌-◌, negsuc, get_or, replicate}
use Rattle.base_bounds.specs.Bounds.{endpoint_limit, cluster_limit, attribute_limit, entry_limit, text_bytes_limit, version_limit, payload_limit, depth_limit, path_limit, filter_limit, write_limit}
use Rattle.tlv_reader.specs.declared.Value.{Value}
use Rattle.tlv_reader.specs.declared.Value.TheVariants.{Signed, Float, Text}
use Rattle.im_writer.specs.Envelope.{cache_edition, exchange_limit}
use Rattle.im_envelope.specs.Envelope.{envelope_length, max_message}
use Rattle.node_schema.specs.Layout.{text_size}
use Rattle.node_access.specs.Access.{table_ok}
use Rattle.im_exchange.specs.Rules.{first_reply, max_turn}
use Rattle.cache_entries.specs.Limits as Cache
use Rattle.server_replies.specs.Server.{ServerState, ServerReaction}
use Rattle.server.specs.State.{server_right}
use Rattle.server.specs.Receive.{received}
use Rattle.server.specs.Start.{started, altered_by}
use Rattle.proof_specimens.specs.Server.{words, defaults, edits, access, fresh, server_at, caller}
use Rattle.proof_specimens.specs.Messages.{request1, reply1, block2, payload3, minus128, minus129, envelope, id, id_fffd, asked, asked_of_any, reading, filter, filters, version, version_ffffffff, block, report, first_part, second_part, status, writing, response, true-data, float-data, text-data, times, nested}

-- a server given a message by subject 1, with a buffer of full size
abbrev pub given : ServerState → List ℕ → ServerReaction
given s m = received (server_at s) caller m max_message

-- the fresh server given a message
abbrev pub after : List ℕ → ServerReaction
after m = given fresh m

-- the line printed for an answer: the number, then the reply
abbrev pub shown : ServerReaction → List ℕ
shown x = x.number ∷ x.reply

abbrev pub line : List ℕ → List ℕ
line m = shown (after m)

-- a local change at the fresh server's endpoint 1, to a value whose text, if it is one, lies in src
abbrev pub changed : ℕ → ℕ → List ℕ → Value → ServerReaction
changed cluster attribute src new = altered_by (server_at fresh) 1 cluster attribute src new

-- the line for a message given after it
abbrev pub line_then : ServerReaction → List ℕ → List ℕ
line_then x m = shown (given x.state m)

-- the data version of the cluster at a place of the list of clusters
abbrev pub version_of : ℕ → ServerState → ℕ
version_of k s = get_or s.values.versions k 0

-- refused with a status: nothing touched
abbrev pub untouched : ℕ → ServerReaction
untouched code = record { number = code; state = fresh; reply = [] }

-- the signed attribute, of cluster 6, at -129
abbrev pub to-129 : ServerReaction
to-129 = changed 6 1 [] (Signed (negsuc 128))

-- the float and the text, of cluster 8: the float by its bits, the text n bytes that are each 41
abbrev pub to_float : ℕ → ServerReaction
to_float bits = changed 8 0 [] (Float bits)

abbrev pub bytes : ℕ → List ℕ
bytes n = replicate n 0x41

abbrev pub to_text : ℕ → ServerReaction
to_text n = changed 8 1 (bytes n) (Text 0 n)

-- 1.0
abbrev pub one : ℕ
one = 0x3F80_0000

-- A READ OF TWO PARTS: the text of 200 bytes five times, of which a part has room for four, then the boolean of cluster 6, with a filter for that cluster
abbrev pub begun : ℕ → ServerReaction
begun v = given (to_text 200).state (reading (times 5 (asked 8 (id 1)) ++ asked 6 (id 0)) (filters (filter v)))

-- between the parts cluster 6 goes from version 5 to 6
abbrev pub moved : ServerReaction → ServerReaction
moved x = altered_by (server_at x.state) 1 6 1 [] (Signed (negsuc 128))

-- the second part, without that change and with it
abbrev pub standing : ℕ → List ℕ
standing v = shown (given (begun v).state (status 0x00))

abbrev pub altering : ℕ → List ℕ
altering v = line_then (moved (begun v)) (status 0x00)

abbrev pub texts : ℕ → List ℕ
texts n = times n (block (version 0) 8 (id 1) (text-data 200 (bytes 200)))

pub record All : Type 0 where
  -- the server is one that `start` makes, its state keeps the rules, and so does its access table
  pub made : started words defaults edits ≡ untouched 0
  pub right : server_right (server_at fresh) ≡ true
  pub table : table_ok access ≡ true
  -- the frames are those of S1
  pub framed : reading (asked 6 (id 0)) [] ≡ request1
  pub reported : report (block (version 5) 6 (id 0) true-data) ≡ reply1
  -- S1 (RULES 8.1): a boolean read
  pub s1 : line request1 ≡ 0 ∷ reply1
  -- S2: no such attribute
  pub s2 : line (reading (asked 6 (id 9)) []) ≡ 0 ∷ report block2
  -- S3: a filter that agrees
  pub s3 : line (reading (asked 6 (id 0)) (filters (filter 5))) ≡ 0 ∷ (envelope 0x05 0x01 ++ payload3)
  -- S4: two filters, of which one agrees
  pub s4 : line (reading (asked 6 (id 0)) (filters (filter 5 ++ filter 6))) ≡ 0 ∷ reply1
  -- S5: the least width of -128 and of -129
  pub s5-128 : line (reading (asked 6 (id 1)) []) ≡ 0 ∷ report (block (version 5) 6 (id 1) minus128)
  pub s5-number : to-129.number ≡ 0x00
  pub s5-129 : line_then to-129 (reading (asked 6 (id 1)) []) ≡ 0 ∷ report (block (version 6) 6 (id 1) minus129)
  -- S6: minus zero in a range from 0.0, and a NaN
  pub s6-zero : (to_float 0x8000_0000).number ≡ 0x00
  pub s6-zero-read : line_then (to_float 0x8000_0000) (reading (asked 8 (id 0)) []) ≡ 0 ∷ report (block (version 0) 8 (id 0) (float-data 0x00 0x00 0x00 0x80))
  pub s6-zero-written : line (writing 8 (id 0) (float-data 0x00 0x00 0x00 0x80)) ≡ 0 ∷ response 8 (id 0) 0x00
  pub s6-nan : to_float 0x7FC0_0000 ≡ untouched 0x87
  pub s6-nan-written : line (writing 8 (id 0) (float-data 0x00 0x00 0xC0 0x7F)) ≡ 0 ∷ response 8 (id 0) 0x87
  -- S7: texts of 200 and 201 bytes
  pub s7-200 : (to_text 200).number ≡ 0x00
  pub s7-200-read : line_then (to_text 200) (reading (asked 8 (id 1)) []) ≡ 0 ∷ report (block (version 0) 8 (id 1) (text-data 200 (bytes 200)))
  pub s7-200-written : line (writing 8 (id 1) (text-data 200 (bytes 200))) ≡ 0 ∷ response 8 (id 1) 0x00
  pub s7-201 : to_text 201 ≡ untouched 0x87
  pub s7-201-written : line (writing 8 (id 1) (text-data 201 (bytes 201))) ≡ 0 ∷ response 8 (id 1) 0x87
  -- S8: the value that is held, written
  pub s8 : line (writing 6 (id 0) true-data) ≡ 0 ∷ response 6 (id 0) 0x00
  pub s8-version : version_of 0 (after (writing 6 (id 0) true-data)).state ≡ 5
  pub s8-values : (after (writing 6 (id 0) true-data)).state.values ≡ fresh.values
  pub s8-page : (after (writing 6 (id 0) true-data)).state.edits ≡ edits
  -- S9: the version after FFFFFFFF
  pub s9-from : version_of 1 fresh ≡ 0xFFFF_FFFF
  pub s9-number : (to_float one).number ≡ 0x00
  pub s9 : version_of 1 (to_float one).state ≡ 0
  pub s9-read : line_then (to_float one) (reading (asked 8 (id 0)) []) ≡ 0 ∷ report (block (version 0) 8 (id 0) (float-data 0x00 0x00 0x80 0x3F))
  pub s9-written : (after (writing 8 (id 0) (float-data 0x00 0x00 0x80 0x3F))).state.values ≡ (to_float one).state.values
  -- S10: a path without a cluster
  pub s10-expanded : line (reading (asked_of_any id_fffd) []) ≡ 0 ∷ report (block (version 5) 6 id_fffd (0x24 ∷ 0x02 ∷ 0x04 ∷ []) ++ block version_ffffffff 8 id_fffd (0x24 ∷ 0x02 ∷ 0x06 ∷ []))
  pub s10-refused : line (reading (asked_of_any (id 0)) []) ≡ 0 ∷ status 0x80
  -- S11: 16 and 17 paths
  pub s11-16 : line (reading (times 16 (asked 6 (id 0))) []) ≡ 0 ∷ report (times 16 (block (version 5) 6 (id 0) true-data))
  pub s11-17 : line (reading (times 17 (asked 6 (id 0))) []) ≡ 0 ∷ status 0xC8
  -- S12: depth 10 and 11, the message's structure and 9 or 10 more
  pub s12-10 : line (reading (asked 6 (id 0)) (nested 9)) ≡ 0 ∷ reply1
  pub s12-11 : line (reading (asked 6 (id 0)) (nested 10)) ≡ 0 ∷ status 0x80
  -- each part judges the filters with the versions held when it is made: that of version 5 agrees until the change, that of version 6 from then on
  pub begun-5 : shown (begun 5) ≡ 0 ∷ first_part (texts 4)
  pub begun-6 : (begun 6).reply ≡ (begun 5).reply
  pub standing-5 : standing 5 ≡ 0 ∷ second_part (texts 1)
  pub standing-6 : standing 6 ≡ 0 ∷ second_part (texts 1 ++ block (version 5) 6 (id 0) true-data)
  pub altering-5 : altering 5 ≡ 0 ∷ second_part (texts 1 ++ block (version 6) 6 (id 0) true-data)
  pub altering-6 : altering 6 ≡ 0 ∷ second_part (texts 1)
  -- THE LIMITS in figures. RULES 2.1
  pub endpoints : endpoint_limit ≡ 8
  pub clusters : cluster_limit ≡ 32
  pub attributes : attribute_limit ≡ 256
  pub entries : entry_limit ≡ 16
  -- RULES 2.6, and room for as many bytes in the page of edits
  pub text : text_bytes_limit ≡ 200
  pub text-room : text_size ≡ 200
  -- RULES 2.25: the last version
  pub versions : version_limit - 1 ≡ 0xFFFF_FFFF
  -- RULES 3.1 and 3.2
  pub header : envelope_length ≡ 8
  pub edition : cache_edition ≡ 0
  pub exchanges : exchange_limit ≡ 1099511627776
  pub turns : max_turn ≡ 65535
  pub payload : payload_limit ≡ 1024
  -- RULES 3.6
  pub first : first_reply ≡ 1
  -- refusals 3 and 4 (RULES 6.1)
  pub message : max_message ≡ 1032
  -- RULES 4.9 and 6.10
  pub depth : depth_limit ≡ 10
  pub paths : path_limit ≡ 16
  pub writes : write_limit ≡ 16
  pub filters : filter_limit ≡ 32
  -- refusal 7 (RULES 6.1)
  pub cache-entries : Cache.max_entries ≡ 256
  pub cache-clusters : Cache.max_clusters ≡ 32
  pub cache-text : Cache.text_size ≡ 200
