-- DEMAND 3 OF THE PRODUCT (RULES 0.3), over both ends as they are. First half: what the cache calls whole at a version is what the server held at it. Second
-- half: a read whose messages all arrive leaves whole what did not change.
use Rattle.std.specs.Prelude.{◌≡◌, false, ℕ, ◌^◌, ◌<◌, ◌≤◌, max, get_or, drop, Some, None, Option}
use mathlib.Core.List.{List, [], ◌∷◌, Memᴰ}
use Rattle.base_bounds.specs.Bounds.{version_limit}
use Rattle.im_envelope.specs.declared.Fields.{Fields}
use Rattle.im_envelope.specs.Envelope.{envelope_in, envelope_length}
use Rattle.im_responses.specs.Report.{PartOf, part_in}
use Rattle.im_writer.specs.Block.{Block}
use Rattle.node_schema.specs.Rows.{count_of_attributes}
use Rattle.node_schema.specs.Find.{find_cluster}
use Rattle.server_selection.specs.declared.asked.Asked.{Asked}
use Rattle.server_selection.specs.Items.{concrete_item}
use Rattle.server_report.specs.Blocks.{block_of}
use Rattle.im_exchange.specs.Rules.{report_opcode}
use Rattle.cache_entries.specs.Entries.{CacheEntry}
use Rattle.cache_state.specs.State.{reading, last_part}
use Rattle.cache_state.specs.Begin as begin
use Rattle.cache_receive.specs.Receive.{received}
use Rattle.cache_ask.specs.Ask.{said, says_whole, entry_said, says_entry}
use Rattle.proof_promises.specs.World.{Plan, World, Start, granted, after_cache}
use Rattle.proof_promises.specs.Runs.{Run, Reach, join, Visits, Passes, index_of, Same, NoneBegun, Heard, Got}

-- THE WORDS OF THE CLAIMS

-- what the cache answers when it is asked whether a cluster is whole: yes, at this version
abbrev pub CallsWhole : World → ℕ → ℕ → ℕ → Type 0
CallsWhole u endpoint cluster version = says_whole u.page u.cache endpoint cluster ≡ said 0 (version ∷ [])

-- the version of a cluster of the schema, and how often it has changed
abbrev pub on_row : {A : Type 0} → A → (ℕ → A) → Option ℕ → A
on_row none f (Some k) = f k
on_row none f None = none

abbrev pub version_of : Plan → World → ℕ → ℕ → Option ℕ
version_of p u endpoint cluster = on_row None (λ k. Some (get_or u.server.values.versions k 0)) (find_cluster p.words endpoint cluster)

abbrev pub changes_of : Plan → World → ℕ → ℕ → ℕ
changes_of p u endpoint cluster = on_row 0 u.changes (find_cluster p.words endpoint cluster)

-- what the server answers to the cache of one path, by demand 2: a value with its version, or a status; no filter is given
abbrev pub asked : ℕ → ℕ → ℕ → Asked
asked endpoint cluster attribute =
    record { any_endpoint = false; endpoint = endpoint; any_cluster = false; cluster = cluster; any_attribute = false; attribute = attribute }

abbrev pub shown : Plan → World → ℕ → ℕ → ℕ → Option Block
shown p u endpoint cluster attribute =
    block_of p.words u.server.values p.defaults u.server.edits (asked endpoint cluster attribute) (concrete_item p.words (granted p) [] (asked endpoint cluster attribute))

-- what it may read, as an entry: a status is none
abbrev pub entry_for : Option Block → Option CacheEntry
entry_for None = None
entry_for (Some (Block.value version endpoint cluster attribute d)) = Some (record { version = version; value = d })
entry_for (Some (Block.status endpoint cluster attribute code)) = None

abbrev pub MayReadSome : Plan → World → ℕ → ℕ → Type 0
MayReadSome p u endpoint cluster = (attribute : ℕ) × (e : CacheEntry) × (attribute < 2 ^ 32) × (entry_for (shown p u endpoint cluster attribute) ≡ Some e)

-- the exchange of a message
abbrev pub exchange_of : Option Fields → Option ℕ
exchange_of None = None
exchange_of (Some f) = Some f.exchange

abbrev pub In : ℕ → List ℕ → Type 0
In exchange m = exchange_of (envelope_in m) ≡ Some exchange

-- a last part: a report that does not promise more
abbrev pub Last : List ℕ → Type 0
Last m = (x : PartOf ℕ) × (part_in (drop envelope_length m) ≡ Some x) × (x.more ≡ 1 → ⊥)

-- THE FIRST HALF: in every state that a run can reach, with fewer than 2^32 changes to the cluster
abbrev pub FirstHalf : Type 0
FirstHalf =
    (p : Plan) (b : Start p) (u : World) (run : Reach p b u) (endpoint cluster version : ℕ) → endpoint < 2 ^ 16 → cluster < 2 ^ 32
    → changes_of p u endpoint cluster < version_limit
    → CallsWhole u endpoint cluster version
    → ((x : World) × Visits run x × (version_of p x endpoint cluster ≡ Some version))
    × ((x : World) → Visits run x → version_of p x endpoint cluster ≡ Some version
    → (attribute : ℕ) → attribute < 2 ^ 32 → says_entry u.page u.cache endpoint cluster attribute ≡ entry_said (entry_for (shown p x endpoint cluster attribute)))

-- THE SECOND HALF

-- each message of the cache's exchange, and each reply to it, has arrived at least once
pub record Arrived {p : Plan} {u v : World} (run : Run p u v) : Type 0 where
  pub requests : (m : List ℕ) → Memᴰ m v.requests → In u.cache.asked.exchange m → Heard m run
  pub replies : (m : List ℕ) → Memᴰ m v.replies → In u.cache.asked.exchange m → Got m run

-- the step in which the server takes the request of this exchange
pub record Taking {p : Plan} {u v : World} (run : Run p u v) (exchange : ℕ) : Type 0 where
  pub at : World
  pub next : World
  pub passes : Passes run at next
  pub before : at.server.row.progress.last < exchange
  pub after : next.server.row.progress.last ≡ exchange

-- the step in which it makes this reply: it was not made before, and then is
pub record Making {p : Plan} {u v : World} (run : Run p u v) (m : List ℕ) : Type 0 where
  pub at : World
  pub next : World
  pub passes : Passes run at next
  pub before : Memᴰ m at.replies → ⊥
  pub after : Memᴰ m next.replies

-- the cache's read of this exchange is open; it has ended on its last part
abbrev pub Open : World → ℕ → Type 0
Open u exchange = (u.cache.asked.stage ≡ reading) × (u.cache.asked.exchange ≡ exchange)

abbrev pub Ended : World → ℕ → Type 0
Ended u exchange = (u.cache.asked.stage ≡ last_part) × (u.cache.asked.exchange ≡ exchange)

-- the step in which the cache takes this reply, the last part of this exchange
pub record Ending {p : Plan} {u v : World} (run : Run p u v) (exchange : ℕ) (m : List ℕ) : Type 0 where
  pub at : World
  pub next : World
  pub passes : Passes run at next
  pub before : Open at exchange
  pub after : Ended next exchange
  pub made : Memᴰ m at.replies
  pub room : ℕ
  pub taken : next ≡ after_cache at (received at.page at.cache m room)

-- EACH OF THESE THREE STEPS is the only one of its kind in a run, and the last part is one reply. And a report is not made before its request is taken, so that there is a time between
-- the two
pub record Once : Type 0 where
  pub taking : (p : Plan) (b : Start p) (u : World) (run : Reach p b u) (exchange : ℕ) (k l : Taking run exchange)
      → Same run k.at k.next l.at l.next k.passes l.passes
  pub making : (p : Plan) (b : Start p) (u : World) (run : Reach p b u) (m : List ℕ) (k l : Making run m)
      → Same run k.at k.next l.at l.next k.passes l.passes
  pub ending : (p : Plan) (b : Start p) (u v : World) → Reach p b u → (run : Run p u v) (exchange : ℕ) (m m' : List ℕ) (k : Ending run exchange m) (l : Ending run exchange m')
      → (m ≡ m') × Same run k.at k.next l.at l.next k.passes l.passes
  pub order : (p : Plan) (b : Start p) (u : World) (run : Reach p b u) (m : List ℕ) (f : Fields) → envelope_in m ≡ Some f → f.opcode ≡ report_opcode
      → (k : Taking run f.exchange) (l : Making run m) → index_of run k.at k.next k.passes ≤ index_of run l.at l.next l.passes

-- it is so in this state, and for as long as the cache begins nothing
abbrev pub Stays : Plan → World → (World → Type 0) → Type 0
Stays p u P = (z : World) (on : Run p u z) → NoneBegun on → P z

-- A read is open. If each of its messages and each reply has arrived before the cache begins anything else, whatever else happens, then the cache has taken its last part. From
-- that step on, until the cache begins something, the read has ended on its last part, and the cache calls whole every cluster with something that it may read and that did not change
-- between the taking of the request and the making of that part, at the version it had. The rest of the run is one in which it begins nothing, so that is so at its end too
abbrev pub SecondHalf : Type 0
SecondHalf =
    (p : Plan) (b : Start p) (u v : World) (reach : Reach p b u) (exchange : ℕ) → Open u exchange
    → (run : Run p u v) → NoneBegun run → Arrived run
    → (m : List ℕ) × In exchange m × Last m
    × (taking : Taking (join reach run) exchange) × (making : Making (join reach run) m) × (ending : Ending run exchange m)
    × Stays p ending.next (λ z. Ended z exchange)
    × ((endpoint cluster : ℕ) → endpoint < 2 ^ 16 → cluster < 2 ^ 32 → MayReadSome p making.at endpoint cluster
    → changes_of p taking.at endpoint cluster ≡ changes_of p making.at endpoint cluster
    → (version : ℕ) × (version_of p making.at endpoint cluster ≡ Some version) × Stays p ending.next (λ z. CallsWhole z endpoint cluster version))

-- a run from u in which all of that has arrived
pub record Complete (p : Plan) (u : World) : Type 0 where
  pub end : World
  pub run : Run p u end
  pub none-begun : NoneBegun run
  pub arrived : Arrived run

-- for every read that begins, whatever happened before, all of it can arrive: so the second half is never empty
abbrev pub Possible : Type 0
Possible =
    (p : Plan) (b : Start p) (u : World) → Reach p b u → (room : ℕ) → (begin.begins_read u.page u.cache room).number ≡ 0
    → Complete p (after_cache u (begin.begins_read u.page u.cache room))

-- no read has more parts than the schema has attributes, and one if it has none
abbrev pub FewParts : Type 0
FewParts =
    (p : Plan) (b : Start p) (u : World) → Reach p b u → (m : List ℕ) → Memᴰ m u.replies → (f : Fields) → envelope_in m ≡ Some f → f.opcode ≡ report_opcode
    → f.turn ≤ max 1 (count_of_attributes p.words)
