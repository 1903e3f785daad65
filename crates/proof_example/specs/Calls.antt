-- THE CALLS of the run, each with all that it answers and leaves.
use Rattle.std.specs.Prelude.{◌≡◌, true, List, [], ◌∷◌, ℕ, ◌*◌, ◌^◌, length, get_or, Some}
use Rattle.base_utf8.specs.Bytewise.{all_below}
use Rattle.tlv_reader.specs.declared.Value.TheVariants.{Text}
use Rattle.im_envelope.specs.Envelope.{max_message}
use Rattle.node_schema.specs.Layout.{text_size}
use Rattle.node_schema.specs.Check.{count_of_texts}
use Rattle.node_schema.specs.Find.{find_cluster}
use Rattle.node_plan.specs.Check.{accepted}
use Rattle.node_access.specs.Access.{table_ok}
use Rattle.server_selection.specs.Items.{concrete_item}
use Rattle.server_report.specs.Blocks.{block_of}
use Rattle.server_replies.specs.Server.{ServerState, ServerReaction}
use Rattle.server.specs.Receive.{received}
use Rattle.server.specs.Start.{started, altered_by}
use Rattle.cache_entries.specs.Limits.{page_size}
use Rattle.cache_entries.specs.Entries.{CacheEntry}
use Rattle.cache_state.specs.declared.CacheState.{CacheState}
use Rattle.cache_state.specs.Reaction as cache
use Rattle.cache_state.specs.Begin as begin
use Rattle.cache_state.specs.Begin.{fresh}
use Rattle.cache_receive.specs.Receive as receive
use Rattle.cache_ask.specs.Ask.{said, says_whole}
use Rattle.proof_promises.specs.World.{subject_of, granted, server_of, caller_of, with}
use Rattle.proof_promises.specs.Claims.{asked, entry_for}
use Rattle.proof_example.specs.Plan.{edits, page, plan}
use Rattle.proof_example.specs.Messages.{request, success, part1, part2, new}
use Rattle.proof_example.specs.Server.{sign0, sign1, sign2, sign3}
use Rattle.proof_example.specs.Cache.{panel1, panel2, panel3, page2, page3}

-- the plan's subject hands a message to the server, with a buffer of full size
abbrev pub given : ServerState → List ℕ → ServerReaction
given s m = received (server_of plan s) (caller_of plan (subject_of plan)) m max_message

-- the last text of cluster 8 is changed at the server
abbrev pub renewed : ServerState → ServerReaction
renewed s = altered_by (server_of plan s) 1 8 2 new (Text 0 3)

abbrev pub answers : ServerState → List ℕ → ServerReaction
answers s reply = record { number = 0; state = s; reply = reply }

-- the version of cluster 6, the schema's first
abbrev pub version6 : ServerState → ℕ
version6 s = get_or s.values.versions 0 0

-- a message is one: it is not silence
abbrev pub Sent : List ℕ → Type 0
Sent m = (l : List (List ℕ)) → with m l ≡ m ∷ l

pub record ServerCalls : Type 0 where
  -- the plan keeps the rules, and a server is made of it
  pub accepts : accepted plan.words plan.defaults ≡ true
  pub words-fit : all_below (2 ^ 64) plan.words ≡ true
  pub table-right : table_ok plan.table ≡ true
  pub edits-size : length edits ≡ text_size * count_of_texts plan.words
  pub made : started plan.words plan.defaults edits ≡ answers sign0 []
  -- the request begins the exchange, and once more gets the very same bytes
  pub begins : given sign0 request ≡ answers sign1 part1
  pub repeats : given sign1 request ≡ answers sign1 part1
  pub alters : renewed sign1 ≡ answers sign2 []
  -- the success gets the second part
  pub goes_on : given sign2 success ≡ answers sign3 part2
  pub turns : (get_or part1 7 0 ≡ 1) × (get_or part2 7 0 ≡ 2)
  pub part1-sent : Sent part1
  pub part2-sent : Sent part2
  -- cluster 6 has something to read, and is at version 5 throughout
  pub row6 : find_cluster plan.words 1 6 ≡ Some 0
  pub may-read6 : (e : CacheEntry) × (entry_for (block_of plan.words sign2.values plan.defaults sign2.edits (asked 1 6 0) (concrete_item plan.words (granted plan) [] (asked 1 6 0))) ≡ Some e)
  pub stands : (version6 sign0 ≡ 5) × (version6 sign1 ≡ 5) × (version6 sign2 ≡ 5) × (version6 sign3 ≡ 5)

-- a cache reacts so
abbrev pub reacts : ℕ → CacheState → List ℕ → List ℕ → cache.CacheReaction
reacts n s texts reply = record { number = n; state = s; page = texts; reply = reply }

pub record CacheCalls : Type 0 where
  pub page-size : length page ≡ page_size
  pub begins : begin.begins_read page fresh max_message ≡ reacts 0 panel1 page request
  pub resends : begin.resends page panel1 max_message ≡ reacts 0 panel1 page request
  -- part 1 is taken, and once more refused with 5, nothing touched
  pub takes : receive.received page panel1 part1 max_message ≡ reacts 0 panel2 page2 success
  pub refuses : receive.received page2 panel2 part1 max_message ≡ reacts 5 panel2 page2 []
  -- part 2 ends the read
  pub ends : receive.received page2 panel2 part2 max_message ≡ reacts 1 panel3 page3 []
  pub request-sent : Sent request
  pub success-sent : Sent success
  -- then cluster 6 is whole at version 5, and cluster 8, whose entries are of two versions, is not
  pub whole : says_whole page3 panel3 1 6 ≡ said 0 (5 ∷ [])
  pub not-whole : says_whole page3 panel3 1 8 ≡ said 1 []
