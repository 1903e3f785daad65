-- DEMAND 3, as statements on every run; `proofs/Main.antt` proves them.
use Rattle.std.specs.Prelude.{◌≡◌, Bool, true, false, cond, ℕ, suc, ◌+◌, ◌-◌, ◌%◌, ◌^◌, ◌<◌, ◌≤◌, T, length}
use mathlib.Core.List.{List, [], ◌∷◌, Memᴰ}
use Rattle.base_bounds.specs.Bounds.{version_limit}
use Rattle.proof_protocol.specs.Model.{ConcretePath, Entry, Filter, Message, exchange_of, Node, Cluster, Part, System, Store, changed_in, stored_in, stores_of, begin_read, awaited, receive, CoherentIn, FiltersFor}
use Rattle.proof_protocol.specs.Steps.{Run, Reach, join, Visits, Passes, index_of, Same, NoneBegun, Heard, Got}

-- THE COUNT

module _ {Value : Type 0} (same : Value → Value → Bool) where
  -- the value is held already, by a test of values
  abbrev pub holds : (ℕ → Cluster Value) → Store Value → Bool
  holds clusters w = same ((clusters w.cluster).values w.attribute) w.value

  -- values set one after the other; a change is one that differs (RULES 2.24)
  unfoldable pub set_in : (ℕ → Cluster Value) → List (Store Value) → ℕ → Cluster Value
  set_in clusters [] = clusters
  set_in clusters (w ∷ sets) = set_in (cond (holds clusters w) clusters (changed_in clusters w)) sets

  -- and those of them that are changes
  unfoldable pub differing : (ℕ → Cluster Value) → List (Store Value) → List (Store Value)
  differing clusters [] = []
  differing clusters (w ∷ sets) = cond (holds clusters w) (differing clusters sets) (w ∷ differing (changed_in clusters w) sets)

-- how many changes lead from one version to another, if fewer than 2^32 do: new - old, and 2^32 more if the version has passed 2^32 - 1
abbrev pub moved : ℕ → ℕ → ℕ
moved old new = (new + version_limit - old) % version_limit

-- Changes are counted exactly, also where one step makes several.
pub record Counting : Type 1 where
  -- each store counts one for its cluster
  pub stores : (Value : Type 0) (clusters : ℕ → Cluster Value) (l : List (Store Value)) (cluster : ℕ)
      → (stored_in clusters l cluster).changes ≡ (clusters cluster).changes + stores_of cluster l
  -- to set values is to store those that differ
  pub sets : (Value : Type 0) (same : Value → Value → Bool) (clusters : ℕ → Cluster Value) (l : List (Store Value))
      → set_in same clusters l ≡ stored_in clusters (differing same clusters l)
  -- a count never falls
  pub rises : (Value : Type 0) (node : Node Value) (s t : System Value) → Run node s t → (cluster : ℕ) → (s.clusters cluster).changes ≤ (t.clusters cluster).changes
  -- what it rises by in a run, if less than 2^32, can be told from the version before and after
  pub told : (Value : Type 0) (node : Node Value) (s t : System Value) → Reach node s → Run node s t → (cluster n : ℕ) → n < version_limit
      → (t.clusters cluster).changes ≡ (s.clusters cluster).changes + n → n ≡ moved (s.clusters cluster).version (t.clusters cluster).version

-- THE FIRST HALF

-- the entries of the cluster are those of its readable attributes, each with this version and its value
pub record Exact {Value : Type 0} (node : Node Value) (cluster version : ℕ) (values : ℕ → Value) (entries : List (Entry Value)) : Type 0 where
  pub only : (e : Entry Value) → Memᴰ e entries → e.place.cluster ≡ cluster
      → Memᴰ e.place node.readable × (e.version ≡ version) × (e.value ≡ values e.place.attribute)
  pub all : (p : ConcretePath) → Memᴰ p node.readable → p.cluster ≡ cluster → (e : Entry Value) × Memᴰ e entries × (e.place ≡ p)

-- Whatever is called coherent at a version, in a cluster that has changed fewer than 2^32 times: the server has held that version, and whenever it did, the
-- entries are exactly what it held.
abbrev pub FirstHalf : Type 1
FirstHalf =
    (Value : Type 0) (node : Node Value) (s : System Value) (run : Reach node s) (cluster version : ℕ)
    → (s.clusters cluster).changes < version_limit
    → CoherentIn s.cache cluster version
    → ((u : System Value) × Visits run u × ((u.clusters cluster).version ≡ version))
    × ((u : System Value) → Visits run u → (u.clusters cluster).version ≡ version → Exact node cluster version (u.clusters cluster).values s.cache.entries)

-- THE SECOND HALF

-- each message of the exchange that the cache is in at the run's start, and each reply to it, has arrived at least once
pub record Arrived {Value : Type 0} {node : Node Value} {s t : System Value} (run : Run node s t) : Type 0 where
  pub messages : (m : Message) → Memᴰ m t.messages → exchange_of m ≡ s.cache.exchange → Heard m run
  pub parts : (m : Part Value) → Memᴰ m t.parts → m.exchange ≡ s.cache.exchange → Got m run

-- a run from s in which all of that has arrived
pub record Complete {Value : Type 0} (node : Node Value) (s : System Value) : Type 0 where
  pub end : System Value
  pub run : Run node s end
  pub none-begun : NoneBegun run
  pub arrived : Arrived run

-- the step in which the server takes the request of this exchange
pub record Taking {Value : Type 0} {node : Node Value} {s t : System Value} (run : Run node s t) (exchange : ℕ) : Type 0 where
  pub at : System Value
  pub next : System Value
  pub passes : Passes run at next
  pub before : at.row.exchange < exchange
  pub after : next.row.exchange ≡ exchange

-- the step in which it makes this part: the part was not sent before, and then is
pub record Making {Value : Type 0} {node : Node Value} {s t : System Value} (run : Run node s t) (part : Part Value) : Type 0 where
  pub at : System Value
  pub next : System Value
  pub passes : Passes run at next
  pub before : Memᴰ part at.parts → ⊥
  pub after : Memᴰ part next.parts

-- the step in which the cache takes the last part of the exchange that it is in at the run's start
pub record Ending {Value : Type 0} {node : Node Value} {s t : System Value} (run : Run node s t) : Type 0 where
  pub at : System Value
  pub next : System Value
  pub passes : Passes run at next
  pub part : Part Value
  pub sent : Memᴰ part at.parts
  pub wanted : T (awaited at.cache part)
  pub last : part.more ≡ false
  pub own : part.exchange ≡ s.cache.exchange
  pub taken : next ≡ receive at part

-- Each of these three steps is the only one of its kind in a run. And a part is not made before its request is taken, so that there is a time between the two.
pub record Once : Type 1 where
  pub taking : (Value : Type 0) (node : Node Value) (s t : System Value) (run : Run node s t) (exchange : ℕ) (k l : Taking run exchange)
      → Same run k.at k.next l.at l.next k.passes l.passes
  pub making : (Value : Type 0) (node : Node Value) (s t : System Value) (run : Run node s t) (part : Part Value) (k l : Making run part)
      → Same run k.at k.next l.at l.next k.passes l.passes
  pub ending : (Value : Type 0) (node : Node Value) (s t : System Value) (run : Run node s t) (k l : Ending run)
      → Same run k.at k.next l.at l.next k.passes l.passes
  pub order : (Value : Type 0) (node : Node Value) (s : System Value) (run : Reach node s) (part : Part Value) (k : Taking run part.exchange) (l : Making run part)
      → index_of run k.at k.next k.passes ≤ index_of run l.at l.next l.passes

-- at most one part for each readable attribute, and one if there is none
abbrev pub most_parts : List ConcretePath → ℕ
most_parts [] = 1
most_parts (p ∷ l) = suc (length l)

-- A read is open. If each of its messages and each reply has arrived before the cache begins anything else, whatever else happens, its last part was taken; no
-- read has more parts than the bound; and for every read that begins, all can arrive.
pub record ReadsEnd : Type 1 where
  pub ends : (Value : Type 0) (node : Node Value) (s t : System Value) → Reach node s → s.cache.reading ≡ true
      → (run : Run node s t) → NoneBegun run → Arrived run → Ending run
  pub bound : (Value : Type 0) (node : Node Value) (s : System Value) → Reach node s → (m : Part Value) → Memᴰ m s.parts → m.turn ≤ most_parts node.readable
  pub possible : (Value : Type 0) (node : Node Value) (s : System Value) → Reach node s → (filters : List Filter) → FiltersFor s.cache filters → Complete node (begin_read s filters)

-- the cache calls the cluster coherent at this version, in this state and for as long as it begins nothing
abbrev pub Stays : {Value : Type 0} (node : Node Value) → System Value → ℕ → ℕ → Type 0
Stays {Value} node s cluster version = (u : System Value) (on : Run node s u) → NoneBegun on → CoherentIn u.cache cluster version

-- What holds once a last part is taken: every cluster with something readable that did not change between the taking of the request and the making of that part is
-- coherent, at the version that it had, and stays so until the cache begins something.
abbrev pub Settles : {Value : Type 0} (node : Node Value) {s : System Value} → Reach node s → Part Value → System Value → Type 0
Settles node run part after =
    (taking : Taking run part.exchange) × (making : Making run part)
    × ((p : ConcretePath) → Memᴰ p node.readable
    → (taking.at.clusters p.cluster).changes ≡ (making.at.clusters p.cluster).changes
    → Stays node after p.cluster (making.at.clusters p.cluster).version)

-- Whenever the cache takes a last part, that holds.
abbrev pub Settled : Type 1
Settled =
    (Value : Type 0) (node : Node Value) (s : System Value) (run : Reach node s) (part : Part Value)
    → Memᴰ part s.parts → T (awaited s.cache part) → part.more ≡ false
    → Settles node run part (receive s part)

-- Both together: once each message and each reply of a read has arrived, its last part was taken, and from that step on it holds; so also at the end of the run, as the cache
-- begins nothing in it.
abbrev pub SecondHalf : Type 1
SecondHalf =
    (Value : Type 0) (node : Node Value) (s t : System Value) (reach : Reach node s) → s.cache.reading ≡ true
    → (run : Run node s t) → NoneBegun run → Arrived run
    → (k : Ending run) × Settles node (join reach run) k.part k.next
