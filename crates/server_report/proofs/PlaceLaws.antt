-- Where a read goes on after a part: just after one of its blocks, or where it began. What holds of all such places holds of that one.
use mathlib.Core.Bool.{Bool, true, false}
use mathlib.Core.List.{List, [], ◌∷◌, ◌++◌, map}
use Prim.Native.Nat.{ℕ, zero, suc, ◌+◌, ◌-◌, ◌≤◌, ◌<◌}
use native.Mathlib.Omega.{arith}
use lib.ListN.{length, drop, length-drop}
use Rattle.base_bounds.specs.Bounds.{attribute_limit}
use Rattle.tlv_reader.specs.Octet.{pick}
use Rattle.im_writer.specs.Spelling.{Each}
use Rattle.im_writer.specs.Block.{Block}
use Rattle.server_selection.specs.declared.asked.Asked.{Asked}
use Rattle.server_selection.specs.Items.{span}
use Rattle.server_report.specs.declared.ReadPlace.{ReadPlace}
use Rattle.server_report.specs.Blocks.{View, PlacedBlock, start_of, block_at, placed_at, collect, path_blocks, paths_blocks, blocks_from}
use Rattle.server_report.specs.Chunk.{size, any, fits, taken, after}
use Rattle.server_report.proofs.BlockLaws.{span-most}

-- after each block of the first n paths there is a place with P
module _ (P : ReadPlace → Type 0) (n : ℕ) (each : (k i : ℕ) → k < n → i < attribute_limit → P (start_of k (i + 1))) where
  abbrev Leads : PlacedBlock → Type 0
  Leads x = P x.next

  place-leads : (k i : ℕ) (bs : List Block) (l : List PlacedBlock) → k < n → i < attribute_limit → Each Leads l → Each Leads (map (placed_at k i) bs ++ l)
  unfolding Each
  place-leads k i [] l p q h = h
  place-leads k i (b ∷ bs) l p q h = (each k i p q, place-leads k i bs l p q h)

  path-leads : (k : ℕ) (f : ℕ → List Block) (m i : ℕ) → k < n → m ≤ attribute_limit - i → Each Leads (collect k f m i)
  unfolding Each collect
  path-leads k f zero i p q = tt
  path-leads k f (suc m) i p q = place-leads k i (f i) (collect k f m (i + 1)) p (omega arith) (path-leads k f m (i + 1) p (omega arith))

  joined-lead : (l m : List PlacedBlock) → Each Leads l → Each Leads m → Each Leads (l ++ m)
  unfolding Each
  joined-lead [] m h g = g
  joined-lead (x ∷ l) m h g = (h.0, joined-lead l m h.1 g)

  paths-lead : (s : View) (k i : ℕ) (ps : List Asked) → k + length ps ≤ n → Each Leads (paths_blocks s k i ps)
  unfolding Each paths_blocks path_blocks
  paths-lead s k i [] h = tt
  paths-lead s k i (p ∷ ps) h =
      joined-lead (path_blocks s k p i) (paths_blocks s (k + 1) 0 ps)
      (path-leads k (block_at s p) (span s.schema p - i) i (omega arith) (omega (arith, span-most s.schema p)))
      (paths-lead s (k + 1) 0 ps (omega arith))

  after-taken : (room : ℕ) (l : List PlacedBlock) (at : ReadPlace) → Each Leads l → P at → P (after at (taken room l))
  unfolding Each taken after
  after-taken room [] at h r = r
  after-taken room (x ∷ l) at h r = go (fits room x (any l)) (after-taken (room - size x) l x.next h.1 h.0)
    where
      go : (b : Bool) → P (after x.next (taken (room - size x) l)) → P (after at (pick b (x ∷ taken (room - size x) l) []))
      go true q = q
      go false q = r

  -- A READ GOES ON from such a place
  pub part-place : (s : View) (ps : List Asked) (at : ReadPlace) (room : ℕ) → length ps ≤ n → at.path ≤ n → P at → P (after at (taken room (blocks_from s ps at)))
  unfolding blocks_from
  part-place s ps at room h g r =
      after-taken room (blocks_from s ps at) at (paths-lead s at.path at.index (drop at.path ps) (omega (arith, length-drop at.path ps))) r
