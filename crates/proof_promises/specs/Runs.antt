-- Runs: what may happen, one step after the other, over a wire that does not forge (RULES 0.3 a).
use Rattle.std.specs.Prelude.{◌≡◌, ◌⊎◌, Bool, ℕ, suc, ◌^◌, ◌≤◌, ◌<◌}
use Rattle.std.proofs.Common.{inl, inr}
use mathlib.Core.List.{List, Memᴰ}
use Rattle.base_bounds.specs.Bounds.{version_limit}
use Rattle.tlv_reader.specs.declared.Value.{Value}
use Rattle.im_envelope.specs.Envelope.{max_message}
use Rattle.im_writer.specs.Meaning.{PathFits}
use Rattle.cache_state.specs.Begin as begin
use Rattle.cache_receive.specs.Receive as receive
use Rattle.proof_promises.specs.World.{Plan, subject_of, World, Start, begin, after_server, after_cache, answered, altered, Typed}

module _ (p : Plan) where
  -- a change at the server; the cache begins a read or a write, or resends; a message that the cache ever made is handed to the server, anything at all comes from another subject; a reply that
  -- the server ever made is handed to the cache. Every buffer is of any length
  pub data Step (u : World) : World → Type 0 where
    alters : (endpoint cluster attribute : ℕ) (src : List ℕ) (new : Value) → Typed new
        → Step u (after_server u (altered p u endpoint cluster attribute src new))
    begins_read : (room : ℕ) → Step u (after_cache u (begin.begins_read u.page u.cache room))
    begins_write : (endpoint cluster attribute : ℕ) (given : Bool) (version : ℕ) (src : List ℕ) (new : Value) (room : ℕ) → PathFits endpoint cluster attribute → version < version_limit → Typed new
        → Step u (after_cache u (begin.begins_write u.page u.cache endpoint cluster attribute given version src new room))
    resends : (room : ℕ) → Step u (after_cache u (begin.resends u.page u.cache room))
    hears : (m : List ℕ) (room : ℕ) → Memᴰ m u.requests
        → Step u (after_server u (answered p u (subject_of p) m room))
    hears_other : (subject : ℕ) (m : List ℕ) (room : ℕ) → (subject ≡ subject_of p → ⊥)
        → Step u (after_server u (answered p u subject m room))
    gets : (m : List ℕ) (room : ℕ) → Memᴰ m u.replies → Step u (after_cache u (receive.received u.page u.cache m room))

  pub data Run (u : World) : World → Type 0 where
    none : Run u u
    then : {v w : World} → Run u v → Step v w → Run u w

  -- a run from fresh ends
  abbrev pub Reach : Start p → World → Type 0
  Reach b u = Run (begin p b) u

module _ {p : Plan} where
  -- one run after another
  abbrev pub join : {u v w : World} → Run p u v → Run p v w → Run p u w
  join before none = before
  join before (then run step) = then (join before run) step

  -- x is a state of the run
  abbrev pub Visits : {u v : World} → Run p u v → World → Type 0
  Visits {u} none x = x ≡ u
  Visits {u} {v} (then run step) x = Visits run x ⊎ (x ≡ v)

  -- the run has a step from x to y
  abbrev pub Passes : {u v : World} → Run p u v → World → World → Type 0
  Passes none x y = ⊥
  Passes {u} {v} (then {v = v'} run step) x y = Passes run x y ⊎ ((x ≡ v') × (y ≡ v))

  abbrev pub step_count : {u v : World} → Run p u v → ℕ
  step_count none = 0
  step_count (then run step) = suc (step_count run)

  -- how many steps of the run come before that one
  abbrev pub index_of : {u v : World} (run : Run p u v) (x y : World) → Passes run x y → ℕ
  index_of none x y i = absurd i
  index_of (then run step) x y (inl i) = index_of run x y i
  index_of (then run step) x y (inr i) = step_count run

  -- two steps of a run are one step
  pub record Same {u v : World} (run : Run p u v) (x y x' y' : World) (i : Passes run x y) (i' : Passes run x' y') : Type 0 where
    pub index : index_of run x y i ≡ index_of run x' y' i'
    pub from : x ≡ x'
    pub to : y ≡ y'

  -- the cache begins nothing: such a call is refused
  abbrev pub BeginsNone : {u v : World} → Step p u v → Type 0
  BeginsNone (alters endpoint cluster attribute src new t) = Unit {0}
  BeginsNone {u} (begins_read room) = (begin.begins_read u.page u.cache room).number ≡ 0 → ⊥
  BeginsNone {u} (begins_write endpoint cluster attribute given version src new room f v t) = (begin.begins_write u.page u.cache endpoint cluster attribute given version src new room).number ≡ 0 → ⊥
  BeginsNone (resends room) = Unit {0}
  BeginsNone (hears m room i) = Unit {0}
  BeginsNone (hears_other subject m room n) = Unit {0}
  BeginsNone (gets m room i) = Unit {0}

  abbrev pub NoneBegun : {u v : World} → Run p u v → Type 0
  NoneBegun none = Unit {0}
  NoneBegun (then run step) = NoneBegun run × BeginsNone step

  -- a message arrives (RULES 7.15): at the server
  abbrev pub Hears : List ℕ → {u v : World} → Step p u v → Type 0
  Hears x (alters endpoint cluster attribute src new t) = ⊥
  Hears x (begins_read room) = ⊥
  Hears x (begins_write endpoint cluster attribute given version src new room f v t) = ⊥
  Hears x (resends room) = ⊥
  Hears x (hears m room i) = (m ≡ x) × (max_message ≤ room)
  Hears x (hears_other subject m room n) = ⊥
  Hears x (gets m room i) = ⊥

  abbrev pub Heard : List ℕ → {u v : World} → Run p u v → Type 0
  Heard x none = ⊥
  Heard x (then run step) = Heard x run ⊎ Hears x step

  -- and at the cache
  abbrev pub Gets : List ℕ → {u v : World} → Step p u v → Type 0
  Gets x (alters endpoint cluster attribute src new t) = ⊥
  Gets x (begins_read room) = ⊥
  Gets x (begins_write endpoint cluster attribute given version src new room f v t) = ⊥
  Gets x (resends room) = ⊥
  Gets x (hears m room i) = ⊥
  Gets x (hears_other subject m room n) = ⊥
  Gets x (gets m room i) = (m ≡ x) × (max_message ≤ room)

  abbrev pub Got : List ℕ → {u v : World} → Run p u v → Type 0
  Got x none = ⊥
  Got x (then run step) = Got x run ⊎ Gets x step
