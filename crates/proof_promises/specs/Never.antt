-- What the ends never answer along a run: 2, as RULES 6.4 has it, and the cache neither 6 nor 7.
use Rattle.std.specs.Prelude.{◌≡◌, Bool, ℕ}
use mathlib.Core.List.{List, Memᴰ}
use Rattle.tlv_reader.specs.declared.Value.{Value}
use Rattle.cache_state.specs.Begin as begin
use Rattle.cache_receive.specs.Receive as receive
use Rattle.proof_promises.specs.World.{Plan, World, Start, answered, altered}
use Rattle.proof_promises.specs.Runs.{Reach}

-- NEVER 2, whatever either end is handed and asked; and the cache never answers 6 or 7 to what this server sent it
pub record Fair (p : Plan) (u : World) : Type 0 where
  pub server-2 : (subject : ℕ) (m : List ℕ) (room : ℕ) → (answered p u subject m room).number ≡ 2 → ⊥
  pub change-2 : (endpoint cluster attribute : ℕ) (src : List ℕ) (new : Value) → (altered p u endpoint cluster attribute src new).number ≡ 2 → ⊥
  pub cache-2 : (m : List ℕ) (room : ℕ) → (receive.received u.page u.cache m room).number ≡ 2 → ⊥
  pub read-2 : (room : ℕ) → (begin.begins_read u.page u.cache room).number ≡ 2 → ⊥
  pub write-2 : (endpoint cluster attribute : ℕ) (given : Bool) (version : ℕ) (src : List ℕ) (new : Value) (room : ℕ) → (begin.begins_write u.page u.cache endpoint cluster attribute given version src new room).number ≡ 2 → ⊥
  pub resend-2 : (room : ℕ) → (begin.resends u.page u.cache room).number ≡ 2 → ⊥
  pub cache-6 : (m : List ℕ) → Memᴰ m u.replies → (room : ℕ) → (receive.received u.page u.cache m room).number ≡ 6 → ⊥
  pub cache-7 : (m : List ℕ) → Memᴰ m u.replies → (room : ℕ) → (receive.received u.page u.cache m room).number ≡ 7 → ⊥

abbrev pub Never : Type 0
Never = (p : Plan) (b : Start p) (u : World) → Reach p b u → Fair p u
