-- Where a read goes on after a part: still a place of the request.
use mathlib.Core.Path.{◌≡◌, refl}
use mathlib.Core.List.{List}
use Prim.Native.Nat.{ℕ, ◌≤◌}
use native.Mathlib.Omega.{arith}
use lib.ListN.{length}
use Rattle.base_bounds.specs.Bounds.{attribute_limit}
use Rattle.server_selection.specs.declared.asked.Asked.{Asked}
use Rattle.server_report.specs.declared.ReadPlace.{ReadPlace}
use Rattle.server_report.specs.Blocks.{View, attribute_phase, blocks_from}
use Rattle.server_report.specs.Chunk.{taken, after}
use Rattle.server_report.proofs.PlaceLaws.{part-place}

-- a place of one of the first n paths, or after all, of which nothing was sent
pub record Reached (n : ℕ) (at : ReadPlace) : Type 0 where
  pub phase : at.phase ≡ attribute_phase
  pub path : at.path ≤ n
  pub index : at.index ≤ attribute_limit
  pub sent : at.sent ≡ 0

-- A READ GOES ON from one of its places
pub part-reached : (n : ℕ) (s : View) (ps : List Asked) (at : ReadPlace) (room : ℕ) → length ps ≤ n → Reached n at → Reached n (after at (taken room (blocks_from s ps at)))
part-reached n s ps at room h r =
    part-place (Reached n) n (λ k i p q. record { phase = refl; path = omega arith; index = omega arith; sent = refl }) s ps at room h r.path r
