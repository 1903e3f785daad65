-- Runs: what may happen, one step after the other.
use Rattle.std.specs.Prelude.{◌≡◌, ◌⊎◌, ℕ, suc}
use Rattle.std.proofs.Common.{inl, inr}
use mathlib.Core.List.{List, Memᴰ}
use Rattle.proof_protocol.specs.Model.{Filter, Message, Node, Part, Store, System, store_all, begin_read, begin_write, serve, receive, start, FiltersFor}

module _ {Value : Type 0} (node : Node Value) where
  -- Values change at the server, any number in one step; the cache begins a read or a write; any message ever sent is handed to the server, any part ever sent to the cache. To resend a
  -- message is no step, as it is still there to arrive; nor is a reply to a write, which touches no entry, nor a message of another subject, which gets silence, nor a value set to the one held
  pub data Step (s : System Value) : System Value → Type 0 where
    alters : (stores : List (Store Value)) → Step s (store_all s stores)
    begins_read : (filters : List Filter) → FiltersFor s.cache filters → Step s (begin_read s filters)
    begins_write : Step s (begin_write s)
    serves : (m : Message) (size : ℕ) (stores : List (Store Value)) → Memᴰ m s.messages → Step s (serve node s m size stores)
    receives : (m : Part Value) → Memᴰ m s.parts → Step s (receive s m)

  pub data Run (s : System Value) : System Value → Type 0 where
    none : Run s s
    then : {t u : System Value} → Run s t → Step t u → Run s u

  -- a run from fresh ends
  abbrev pub Reach : System Value → Type 0
  Reach s = Run (start node) s

module _ {Value : Type 0} {node : Node Value} where
  -- one run after another
  abbrev pub join : {s t u : System Value} → Run node s t → Run node t u → Run node s u
  join before none = before
  join before (then run p) = then (join before run) p

  -- u is a state of the run
  abbrev pub Visits : {s t : System Value} → Run node s t → System Value → Type 0
  Visits {s} none u = u ≡ s
  Visits {s} {t} (then run p) u = Visits run u ⊎ (u ≡ t)

  -- the run has a step from u to w
  abbrev pub Passes : {s t : System Value} → Run node s t → System Value → System Value → Type 0
  Passes none u w = ⊥
  Passes {s} {t} (then {t = t'} run p) u w = Passes run u w ⊎ ((u ≡ t') × (w ≡ t))

  abbrev pub step_count : {s t : System Value} → Run node s t → ℕ
  step_count none = 0
  step_count (then run p) = suc (step_count run)

  -- how many steps of the run come before that one
  abbrev pub index_of : {s t : System Value} (run : Run node s t) (u w : System Value) → Passes run u w → ℕ
  index_of none u w x = absurd x
  index_of (then run p) u w (inl x) = index_of run u w x
  index_of (then run p) u w (inr x) = step_count run

  -- two steps of a run are one step
  pub record Same {s t : System Value} (run : Run node s t) (u w u' w' : System Value) (x : Passes run u w) (x' : Passes run u' w') : Type 0 where
    pub index : index_of run u w x ≡ index_of run u' w' x'
    pub from : u ≡ u'
    pub to : w ≡ w'

  -- the cache begins nothing
  abbrev pub BeginsNone : {s t : System Value} → Step node s t → Type 0
  BeginsNone (alters stores) = Unit {0}
  BeginsNone (begins_read filters f) = ⊥
  BeginsNone begins_write = ⊥
  BeginsNone (serves m size stores i) = Unit {0}
  BeginsNone (receives m i) = Unit {0}

  abbrev pub NoneBegun : {s t : System Value} → Run node s t → Type 0
  NoneBegun none = Unit {0}
  NoneBegun (then run p) = NoneBegun run × BeginsNone p

  -- the message arrives at the server
  abbrev pub Hears : Message → {s t : System Value} → Step node s t → Type 0
  Hears u (alters stores) = ⊥
  Hears u (begins_read filters f) = ⊥
  Hears u begins_write = ⊥
  Hears u (serves m size stores i) = m ≡ u
  Hears u (receives m i) = ⊥

  abbrev pub Heard : Message → {s t : System Value} → Run node s t → Type 0
  Heard u none = ⊥
  Heard u (then run p) = Heard u run ⊎ Hears u p

  -- the part arrives at the cache
  abbrev pub Gets : Part Value → {s t : System Value} → Step node s t → Type 0
  Gets q (alters stores) = ⊥
  Gets q (begins_read filters f) = ⊥
  Gets q begins_write = ⊥
  Gets q (serves m size stores i) = ⊥
  Gets q (receives m i) = m ≡ q

  abbrev pub Got : Part Value → {s t : System Value} → Run node s t → Type 0
  Got q none = ⊥
  Got q (then run p) = Got q run ⊎ Gets q p
