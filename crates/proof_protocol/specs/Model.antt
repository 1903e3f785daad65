-- Both ends without bytes: what each holds, and what it does with a message. The size of a part, and what a write stores, are left to the step.
use Rattle.std.specs.Prelude.{◌≡◌, Bool, true, false, cond, not, ◌&&◌, ◌||◌, ℕ, zero, suc, ◌+◌, ◌%◌, ◌^◌, eqb, ltb}
use mathlib.Core.List.{List, [], ◌∷◌, ◌++◌, map, Memᴰ}
use Rattle.base_bounds.specs.Bounds.{version_limit}

-- a concrete path; a cluster stands for its endpoint and its number
pub record ConcretePath : Type 0 where
  pub cluster : ℕ
  pub attribute : ℕ

-- an entry of the cache, and a block of a report
pub record Entry (Value : Type 0) : Type 0 where
  pub place : ConcretePath
  pub version : ℕ
  pub value : Value

pub record Filter : Type 0 where
  pub cluster : ℕ
  pub version : ℕ

-- what stays the same throughout: first versions and values, and the paths that the cache may read, in plan order
pub record Node (Value : Type 0) : Type 0 where
  pub first_version : ℕ → ℕ
  pub first_value : ℕ → ℕ → Value
  pub readable : List ConcretePath

-- a cluster of the server; how often it has changed is for the theorems alone
pub record Cluster (Value : Type 0) : Type 0 where
  pub version : ℕ
  pub values : ℕ → Value
  pub changes : ℕ

-- a message of the cache: its exchange, and its filters or its turn
pub data Message : Type 0 where
  read : ℕ → List Filter → Message
  write : ℕ → Message
  success : ℕ → ℕ → Message
  failure : ℕ → ℕ → Message

-- a part of a report. The cache sees exchange, turn, entries and whether more is promised; the rest is for the proofs: the request's filters, the paths
-- that were ahead before and after, and each cluster's changes when the request was taken and when the part was made
pub record Part (Value : Type 0) : Type 0 where
  pub exchange : ℕ
  pub turn : ℕ
  pub entries : List (Entry Value)
  pub more : Bool
  pub filters : List Filter
  pub before : List ConcretePath
  pub after : List ConcretePath
  pub since : ℕ → ℕ
  pub made : ℕ → ℕ

-- the exchange that the server serves: `last` and k of RULES 3.8, the paths ahead, more promised, closed, the kept reply (of a write: none, as it is no
-- report), the request's filters; `since` as in a part
pub record ServedExchange (Value : Type 0) : Type 0 where
  pub exchange : ℕ
  pub turn : ℕ
  pub ahead : List ConcretePath
  pub more : Bool
  pub closed : Bool
  pub kept : List (Part Value)
  pub filters : List Filter
  pub since : ℕ → ℕ

-- the cache: its newest exchange, whether that is a read and open, the turn awaited, its entries, filled; the filters it sent are for the proofs
pub record Cache (Value : Type 0) : Type 0 where
  pub exchange : ℕ
  pub reading : Bool
  pub next : ℕ
  pub entries : List (Entry Value)
  pub primed : Bool
  pub filters : List Filter

-- both ends, and every message and part ever sent, the newest first: any of them may arrive at any time, often or never
pub record System (Value : Type 0) : Type 0 where
  pub clusters : ℕ → Cluster Value
  pub row : ServedExchange Value
  pub cache : Cache Value
  pub messages : List Message
  pub parts : List (Part Value)

-- a change: an attribute, and its new value
pub record Store (Value : Type 0) : Type 0 where
  pub cluster : ℕ
  pub attribute : ℕ
  pub value : Value

abbrev pub exchange_of : Message → ℕ
exchange_of (read exchange filters) = exchange
exchange_of (write exchange) = exchange
exchange_of (success exchange turn) = exchange
exchange_of (failure exchange turn) = exchange

abbrev pub update {ℓ} : {A : Type ℓ} → (ℕ → A) → ℕ → A → ℕ → A
update f place new n = cond (eqb n place) new (f n)

abbrev pub every {ℓ} : {A : Type ℓ} → (A → Bool) → List A → Bool
every test [] = true
every test (x ∷ l) = test x && every test l

abbrev pub any {ℓ} : {A : Type ℓ} → (A → Bool) → List A → Bool
any test [] = false
any test (x ∷ l) = test x || any test l

abbrev pub select {ℓ} : {A : Type ℓ} → (A → Bool) → List A → List A
select test [] = []
select test (x ∷ l) = cond (test x) (x ∷ select test l) (select test l)

abbrev pub same_place : ConcretePath → ConcretePath → Bool
same_place p q = eqb p.cluster q.cluster && eqb p.attribute q.attribute

-- RULES 2.25: the version after a change
abbrev pub next_version : ℕ → ℕ
next_version version = (version + 1) % version_limit

-- THE SERVER

-- of the paths ahead, those that a part reports: those not skipped, at most size + 1 of them
unfoldable pub reported : (ConcretePath → Bool) → ℕ → List ConcretePath → List ConcretePath
reported skip size [] = []
reported skip zero (p ∷ l) = cond (skip p) (reported skip zero l) (p ∷ [])
reported skip (suc size) (p ∷ l) = cond (skip p) (reported skip (suc size) l) (p ∷ reported skip size l)

-- and those that stay ahead, just after the last one reported
unfoldable pub remaining : (ConcretePath → Bool) → ℕ → List ConcretePath → List ConcretePath
remaining skip size [] = []
remaining skip zero (p ∷ l) = cond (skip p) (remaining skip zero l) l
remaining skip (suc size) (p ∷ l) = cond (skip p) (remaining skip (suc size) l) (remaining skip size l)

module _ {Value : Type 0} where
  abbrev pub entry_at : (ℕ → Cluster Value) → ConcretePath → Entry Value
  entry_at clusters p = record { place = p; version = (clusters p.cluster).version; value = (clusters p.cluster).values p.attribute }

  abbrev pub changes_of : (ℕ → Cluster Value) → ℕ → ℕ
  changes_of clusters cluster = (clusters cluster).changes

  -- RULES 5.8: what the filters skip
  unfoldable pub skips : List Filter → (ℕ → Cluster Value) → ConcretePath → Bool
  skips filters clusters p =
      any (λ (f : Filter). eqb f.cluster p.cluster) filters
      && every (λ (f : Filter). not (eqb f.cluster p.cluster) || eqb f.version (clusters p.cluster).version) filters

  -- RULES 5.12: when more is promised
  unfoldable pub part_of : (ℕ → Cluster Value) → ℕ → ℕ → List ConcretePath → List Filter → (ℕ → ℕ) → ℕ → Part Value
  part_of clusters exchange turn ahead filters since size =
      let skip : ConcretePath → Bool = skips filters clusters in
      record {
        exchange = exchange;
        turn = turn;
        entries = map (entry_at clusters) (reported skip size ahead);
        more = any (λ p. not (skip p)) (remaining skip size ahead);
        filters = filters;
        before = ahead;
        after = remaining skip size ahead;
        since = since;
        made = changes_of clusters;
      }

  abbrev pub row_after : Part Value → ServedExchange Value
  row_after m = record { exchange = m.exchange; turn = m.turn; ahead = m.after; more = m.more; closed = false; kept = m ∷ []; filters = m.filters; since = m.since }

  unfoldable pub send : System Value → Part Value → System Value
  send s m = record { clusters = s.clusters; row = row_after m; cache = s.cache; messages = s.messages; parts = m ∷ s.parts }

  -- the kept reply again
  unfoldable pub send_again : System Value → System Value
  send_again s = record { clusters = s.clusters; row = s.row; cache = s.cache; messages = s.messages; parts = s.row.kept ++ s.parts }

  abbrev pub closed_row : ServedExchange Value → ServedExchange Value
  closed_row r = record { exchange = r.exchange; turn = r.turn; ahead = r.ahead; more = r.more; closed = true; kept = r.kept; filters = r.filters; since = r.since }

  unfoldable pub close : System Value → System Value
  close s = record { clusters = s.clusters; row = closed_row s.row; cache = s.cache; messages = s.messages; parts = s.parts }

  abbrev pub changed : Cluster Value → ℕ → Value → Cluster Value
  changed c attribute value = record { version = next_version c.version; values = update c.values attribute value; changes = suc c.changes }

  abbrev pub changed_in : (ℕ → Cluster Value) → Store Value → ℕ → Cluster Value
  changed_in clusters w = update clusters w.cluster (changed (clusters w.cluster) w.attribute w.value)

  -- changes, one after the other
  unfoldable pub stored_in : (ℕ → Cluster Value) → List (Store Value) → ℕ → Cluster Value
  stored_in clusters [] = clusters
  stored_in clusters (w ∷ stores) = stored_in (changed_in clusters w) stores

  -- all of them in one step: what is held between them is no state of a run
  unfoldable pub store_all : System Value → List (Store Value) → System Value
  store_all s stores = record { clusters = stored_in s.clusters stores; row = s.row; cache = s.cache; messages = s.messages; parts = s.parts }

  -- one change alone
  abbrev pub change : System Value → ℕ → ℕ → Value → System Value
  change s cluster attribute value = store_all s (record { cluster = cluster; attribute = attribute; value = value } ∷ [])

  -- how many of them are changes of this cluster
  abbrev pub stores_of : ℕ → List (Store Value) → ℕ
  stores_of cluster [] = 0
  stores_of cluster (w ∷ stores) = cond (eqb cluster w.cluster) (suc (stores_of cluster stores)) (stores_of cluster stores)

  -- a write becomes the newest exchange
  unfoldable pub written : System Value → ℕ → System Value
  written s exchange =
      record {
        clusters = s.clusters;
        row = record { exchange = exchange; turn = 1; ahead = []; more = false; closed = false; kept = []; filters = []; since = changes_of s.clusters };
        cache = s.cache;
        messages = s.messages;
        parts = s.parts;
      }

  -- RULES 3.10
  abbrev pub starts : ServedExchange Value → ℕ → Bool
  starts r exchange = ltb r.exchange exchange

  -- RULES 3.12
  abbrev pub missed : ServedExchange Value → ℕ → Bool
  missed r turn = eqb (suc turn) r.turn && ltb 0 turn

  -- RULES 3.11
  abbrev pub repeated : System Value → ℕ → System Value
  repeated s exchange = cond (eqb exchange s.row.exchange && eqb s.row.turn 1 && not s.row.closed) (send_again s) s

  -- a message handed to the server: the exchange rules
  unfoldable pub serve : Node Value → System Value → Message → ℕ → List (Store Value) → System Value
  serve node s (read exchange filters) size stores =
      cond (starts s.row exchange) (send s (part_of s.clusters exchange 1 node.readable filters (changes_of s.clusters) size)) (repeated s exchange)
  serve node s (write exchange) size stores = cond (starts s.row exchange) (written (store_all s stores) exchange) (repeated s exchange)
  serve node s (success exchange turn) size stores =
      cond (eqb exchange s.row.exchange && not s.row.closed)
      (cond (missed s.row turn) (send_again s)
      (cond (eqb turn s.row.turn && s.row.more)
      (send s (part_of s.clusters exchange (suc s.row.turn) s.row.ahead s.row.filters s.row.since size))
      s))
      s
  serve node s (failure exchange turn) size stores = cond (eqb exchange s.row.exchange && eqb turn s.row.turn && s.row.more) (close s) s

  -- THE CACHE

  -- RULES 7.8
  unfoldable pub set_entry : Entry Value → List (Entry Value) → List (Entry Value)
  set_entry e l = e ∷ select (λ (d : Entry Value). not (same_place d.place e.place)) l

  unfoldable pub set_entries : List (Entry Value) → List (Entry Value) → List (Entry Value)
  set_entries [] l = l
  set_entries (e ∷ blocks) l = set_entries blocks (set_entry e l)

  -- RULES 7.6
  unfoldable pub begin_read : System Value → List Filter → System Value
  begin_read s filters =
      record {
        clusters = s.clusters;
        row = s.row;
        cache = record { exchange = suc s.cache.exchange; reading = true; next = 1; entries = s.cache.entries; primed = s.cache.primed; filters = filters };
        messages = read (suc s.cache.exchange) filters ∷ s.messages;
        parts = s.parts;
      }

  unfoldable pub begin_write : System Value → System Value
  begin_write s =
      record {
        clusters = s.clusters;
        row = s.row;
        cache = record { exchange = suc s.cache.exchange; reading = false; next = 1; entries = s.cache.entries; primed = s.cache.primed; filters = [] };
        messages = write (suc s.cache.exchange) ∷ s.messages;
        parts = s.parts;
      }

  -- the part awaited: its entries are set, and a success is sent if more is promised. The last part fills the cache (RULES 7.10)
  unfoldable pub accept : System Value → Part Value → System Value
  accept s m =
      record {
        clusters = s.clusters;
        row = s.row;
        cache =
            record {
              exchange = s.cache.exchange;
              reading = m.more;
              next = suc m.turn;
              entries = set_entries m.entries s.cache.entries;
              primed = s.cache.primed || not m.more;
              filters = s.cache.filters;
            };
        messages = cond m.more (success m.exchange m.turn ∷ s.messages) s.messages;
        parts = s.parts;
      }

  -- refusal 5: not the exchange and turn awaited
  abbrev pub awaited : Cache Value → Part Value → Bool
  awaited c m = eqb m.exchange c.exchange && eqb m.turn c.next && c.reading

  -- a part handed to the cache
  unfoldable pub receive : System Value → Part Value → System Value
  receive s m = cond (awaited s.cache m) (accept s m) s

  -- whole (RULES 7.11): coherent, of primed and entries alone
  pub record Coherent (primed : Bool) (entries : List (Entry Value)) (cluster version : ℕ) : Type 0 where
    pub primed-is : primed ≡ true
    pub same : (e : Entry Value) → Memᴰ e entries → e.place.cluster ≡ cluster → e.version ≡ version
    pub some : (e : Entry Value) × Memᴰ e entries × (e.place.cluster ≡ cluster)

  abbrev pub CoherentIn : Cache Value → ℕ → ℕ → Type 0
  CoherentIn c cluster version = Coherent c.primed c.entries cluster version

  -- the filters of RULES 7.3: for whole clusters and no other, in any order
  pub record FiltersFor (c : Cache Value) (filters : List Filter) : Type 0 where
    pub only : (f : Filter) → Memᴰ f filters → Coherent c.primed c.entries f.cluster f.version
    pub all : (cluster version : ℕ) → CoherentIn c cluster version → Memᴰ (record { cluster = cluster; version = version }) filters

  -- fresh ends, nothing sent
  abbrev pub start : Node Value → System Value
  start node =
      record {
        clusters = λ cluster. record { version = node.first_version cluster % version_limit; values = node.first_value cluster; changes = 0 };
        row = record { exchange = 0; turn = 0; ahead = []; more = false; closed = false; kept = []; filters = []; since = λ cluster. 0 };
        cache = record { exchange = 0; reading = false; next = 1; entries = []; primed = false; filters = [] };
        messages = [];
        parts = [];
      }
