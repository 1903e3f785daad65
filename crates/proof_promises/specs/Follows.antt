-- HOW A RUN OF THE ENDS FOLLOWS A RUN OF THE PROTOCOL: words of the proof (`follow`), which no claim uses.
use Rattle.std.specs.Prelude.{◌≡◌, ℕ, ◌<◌}
use mathlib.Core.List.{List, Memᴰ}
use Rattle.tlv_reader.specs.Value.{Datum}
use Rattle.node_schema.specs.Rows.{count_of_clusters}
use Rattle.proof_round_trip.specs.Meant.{WriteStatus, OutcomeFits}
use Rattle.im_writer.specs.Envelope.{exchange_limit}
use Rattle.proof_protocol.specs.Model.{Node, Message, Part, System}
use Rattle.proof_protocol.specs.Steps as model
use Rattle.proof_refinement.specs.Terms.{node_of}
use Rattle.proof_refinement.specs.Bytes.{MessageAs, PartRight, part_bytes, answer_bytes, Wrote}
use Rattle.proof_refinement.specs.Server.{ServerAs}
use Rattle.proof_refinement.specs.Cache.{CacheAs}
use Rattle.proof_promises.specs.World.{Plan, World, Start, granted, server_of}
use Rattle.proof_promises.specs.Runs.{Run, Visits, Passes, NoneBegun, Heard, Got}

-- a reply ever made: a part that the protocol has, or the answer to a write
pub data ReplyOf (w : List ℕ) (sent : List (List ℕ)) (parts : List (Part Datum)) (m : List ℕ) : Type 0 where
  part : (q : Part Datum) → Memᴰ q parts → m ≡ part_bytes w q → ReplyOf w sent parts m
  answer : (x : ℕ) (o : WriteStatus) → m ≡ answer_bytes x o → x < exchange_limit → OutcomeFits o → Wrote sent x o.endpoint o.cluster o.attribute → ReplyOf w sent parts m

-- both ends in bytes stand for a state of the protocol
pub record Stands (p : Plan) (u : World) (s : System Datum) : Type 0 where
  pub server : ServerAs (server_of p u.server) (granted p) u.requests s.clusters s.row
  pub cache : CacheAs p.words u.requests u.page u.cache s.cache
  pub requests : (m : List ℕ) → Memᴰ m u.requests → (q : Message) × MessageAs p.words m q × Memᴰ q s.messages
  pub messages : (q : Message) → Memᴰ q s.messages → (m : List ℕ) × MessageAs p.words m q × Memᴰ m u.requests
  pub replies : (m : List ℕ) → Memᴰ m u.replies → ReplyOf p.words u.requests s.parts m
  pub parts : (q : Part Datum) → Memᴰ q s.parts → Memᴰ (part_bytes p.words q) u.replies × PartRight p.words q
  pub counted : (k : ℕ) → k < count_of_clusters p.words → u.changes k ≡ (s.clusters k).changes

module _ (p : Plan) (b : Start p) where
  -- the node of the protocol
  abbrev pub node : Node Datum
  node = node_of p.words p.defaults b.edits (granted p)

  -- the part whose bytes the cache got in the run
  pub record Took (m : List ℕ) {s t : System Datum} (run : model.Run node s t) : Type 0 where
    pub part-got : Part Datum
    pub bytes : m ≡ part_bytes p.words part-got
    pub right : PartRight p.words part-got
    pub got-it : model.Got part-got run

  -- state by state and step by step
  pub record Follows {u v : World} (run : Run p u v) (s : System Datum) : Type 0 where
    pub end : System Datum
    pub follows : model.Run node s end
    pub stands : Stands p v end
    pub none-begun : NoneBegun run → model.NoneBegun follows
    pub visited : (x : World) → Visits run x → (t : System Datum) × model.Visits follows t × Stands p x t
    pub origin : (t : System Datum) → model.Visits follows t → (x : World) × Visits run x × Stands p x t
    pub passed : (t t' : System Datum) → model.Passes follows t t' → (x : World) × (x' : World) × Passes run x x' × Stands p x t × Stands p x' t'
    pub heard : (m : List ℕ) → Heard m run → (q : Message) → MessageAs p.words m q → model.Heard q follows
    pub got : (m : List ℕ) → Got m run → (q : Part Datum) → PartRight p.words q → m ≡ part_bytes p.words q → Took m follows
