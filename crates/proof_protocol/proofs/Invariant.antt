-- What holds in every state of a run.
use mathlib.Core.Path.{◌≡◌}
use mathlib.Core.Logic.{◌⊎◌}
use mathlib.Core.Bool.{true, false}
use mathlib.Core.List.{List, Memᴰ}
use Prim.Native.Nat.{ℕ, suc, ◌+◌, ◌%◌, ◌^◌, ◌≤◌, ◌<◌}
use lib.ListN.{length}
use Rattle.proof_protocol.specs.Model.{ConcretePath, Entry, Filter, Node, Cluster, Message, read, write, success, failure, Part, ServedExchange, Cache, System, exchange_of, FiltersFor}
use Rattle.proof_protocol.specs.Claims.{most_parts}
use Rattle.proof_protocol.proofs.SmallLaws.{Has}

-- a read of this exchange carries these filters
abbrev pub Mine : ℕ → List Filter → Message → Type 0
Mine ex filters (read x gs) = x ≡ ex → gs ≡ filters
Mine ex filters (write x) = Unit {0}
Mine ex filters (success x k) = Unit {0}
Mine ex filters (failure x k) = Unit {0}

module _ {Value : Type 0} where
  -- the version after so many changes
  abbrev pub version_after : Node Value → ℕ → ℕ → ℕ
  version_after node c n = (node.first_version c + n) % 2 ^ 32

  -- each cluster's version counts its changes
  abbrev pub Counted : Node Value → (ℕ → Cluster Value) → Type 0
  Counted node clusters = (c : ℕ) → (clusters c).version ≡ version_after node c (clusters c).changes

  -- the filters pass over w after n changes
  pub record Skipped (node : Node Value) (filters : List Filter) (n : ℕ → ℕ) (w : ConcretePath) : Type 0 where
    pub some : (f : Filter) × Memᴰ f filters × (f.cluster ≡ w.cluster)
    pub all : (f : Filter) → Memᴰ f filters → f.cluster ≡ w.cluster → f.version ≡ version_after node w.cluster (n w.cluster)

  -- a path that was ahead of the part: told in it, still ahead, or passed over
  pub data Gone (node : Node Value) (m : Part Value) (w : ConcretePath) : Type 0 where
    told : Has w m.entries → Gone node m w
    waits : Memᴰ w m.after → Gone node m w
    passed : Skipped node m.filters m.made w → Gone node m w

  -- what holds of a part ever after
  pub record PartOk (node : Node Value) (clusters : ℕ → Cluster Value) (messages : List Message) (m : Part Value) : Type 0 where
    pub on : (e : Entry Value) → Memᴰ e m.entries → Memᴰ e.place node.readable
    pub versions : (e : Entry Value) → Memᴰ e m.entries → e.version ≡ version_after node e.place.cluster (m.made e.place.cluster)
    pub cover : (w : ConcretePath) → Memᴰ w m.before → Gone node m w
    pub last : m.more ≡ false → (w : ConcretePath) → Memᴰ w m.after → Skipped node m.filters m.made w
    pub rise : (c : ℕ) → m.since c ≤ m.made c
    pub now : (c : ℕ) → m.made c ≤ (clusters c).changes
    pub first : m.turn ≡ 1 → m.before ≡ node.readable
    pub asked : Memᴰ (read m.exchange m.filters) messages
    pub short : m.more ≡ true → m.turn < length node.readable
    pub turn : 1 ≤ m.turn
    pub few : m.turn ≤ most_parts node.readable

  -- the part m is of an exchange that the server has begun; of the exchange it is in, the part is not behind the newest
  pub record Sent (s : ServedExchange Value) (m : Part Value) : Type 0 where
    pub begun : m.exchange ≤ s.exchange
    pub before : m.exchange ≡ s.exchange → m.turn ≤ s.turn
    pub since : m.exchange ≡ s.exchange → m.since ≡ s.since
    pub joins : m.exchange ≡ s.exchange → m.turn ≡ s.turn → m.after ≡ s.ahead
    pub goes : m.exchange ≡ s.exchange → m.turn ≡ s.turn → m.more ≡ s.more

  -- the exchange being served: what is ahead is readable, and shrinks as its turns rise
  pub record RowOk (node : Node Value) (clusters : ℕ → Cluster Value) (messages : List Message) (parts : List (Part Value)) (s : ServedExchange Value) : Type 0 where
    pub ahead : (w : ConcretePath) → Memᴰ w s.ahead → Memᴰ w node.readable
    pub asked : s.more ≡ true → Memᴰ (read s.exchange s.filters) messages
    pub size : s.more ≡ true → s.turn + length s.ahead ≤ length node.readable
    pub turn : s.more ≡ true → 1 ≤ s.turn
    pub some : s.more ≡ true → 1 ≤ length s.ahead
    pub rise : (c : ℕ) → s.since c ≤ (clusters c).changes
    pub kept : (m : Part Value) → Memᴰ m s.kept → Memᴰ m parts

  -- m' follows on m
  pub record Follows (m m' : Part Value) : Type 0 where
    pub on : m'.before ≡ m.after
    pub since : m'.since ≡ m.since
    pub rise : (c : ℕ) → m.made c ≤ m'.made c

  abbrev pub Joined : Part Value → Part Value → Type 0
  Joined m m' = m.exchange ≡ m'.exchange → m'.turn ≡ suc m.turn → Follows m m'

  -- the cache has the path w, and if its cluster stood still, at the version that it had
  pub record Holding (node : Node Value) (m : Part Value) (l : List (Entry Value)) (w : ConcretePath) : Type 0 where
    pub has : Has w l
    pub version : m.since w.cluster ≡ m.made w.cluster → (e : Entry Value) → Memᴰ e l → e.place ≡ w → e.version ≡ version_after node w.cluster (m.since w.cluster)

  -- what a filter vouches for
  abbrev pub Vouched : Node Value → Part Value → List Filter → List (Entry Value) → Type 0
  Vouched node m filters l =
      (f : Filter) → Memᴰ f filters → m.since f.cluster ≡ m.made f.cluster → (e : Entry Value) → Memᴰ e l → e.place.cluster ≡ f.cluster → (e.version ≡ f.version) ⊎ (e.version ≡ version_after node f.cluster (m.since f.cluster))

  -- where the cache is in a read: before any part, or just behind a part that was sent
  pub data Reading (node : Node Value) (parts : List (Part Value)) (c : Cache Value) : Type 0 where
    fresh : c.next ≡ 1 → FiltersFor c c.filters → Reading node parts c
    behind : (m : Part Value) → Memᴰ m parts → m.exchange ≡ c.exchange → c.next ≡ suc m.turn → m.more ≡ true
        → ((w : ConcretePath) → Memᴰ w node.readable → Memᴰ w m.after ⊎ Holding node m c.entries w) → Vouched node m c.filters c.entries → Reading node parts c

  -- the cache: its entries are of readable paths, all of them once it is primed; no filter before that; no message of a later exchange
  pub record CacheOk (node : Node Value) (clusters : ℕ → Cluster Value) (messages : List Message) (parts : List (Part Value)) (c : Cache Value) : Type 0 where
    pub on : (e : Entry Value) → Memᴰ e c.entries → Memᴰ e.place node.readable
    pub full : c.primed ≡ true → (w : ConcretePath) → Memᴰ w node.readable → Has w c.entries
    pub bare : (f : Filter) → Memᴰ f c.filters → c.primed ≡ true
    pub ids : (u : Message) → Memᴰ u messages → exchange_of u ≤ c.exchange
    pub own : (u : Message) → Memᴰ u messages → Mine c.exchange c.filters u
    pub at : c.reading ≡ true → Reading node parts c

  -- all of it; of two parts of an exchange with turns in a row the second goes on from the first
  pub record Inv (node : Node Value) (s : System Value) : Type 0 where
    pub clusters : Counted node s.clusters
    pub parts : (m : Part Value) → Memᴰ m s.parts → PartOk node s.clusters s.messages m
    pub sent : (m : Part Value) → Memᴰ m s.parts → Sent s.row m
    pub chain : (m : Part Value) → Memᴰ m s.parts → (m' : Part Value) → Memᴰ m' s.parts → Joined m m'
    pub row : RowOk node s.clusters s.messages s.parts s.row
    pub cache : CacheOk node s.clusters s.messages s.parts s.cache
