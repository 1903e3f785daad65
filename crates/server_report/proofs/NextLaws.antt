-- THE LAW OF A READ THAT GOES ON: in one view, the blocks from the place after a block on are those that follow it.
use Rattle.std.specs.Prelude.{Some, None, Option}
use mathlib.Core.Path.{◌≡◌, refl, sym, ap, ◌∙◌}
use mathlib.Core.List.{List, [], ◌∷◌, ◌++◌, map}
use Prim.Native.Nat.{ℕ, zero, suc, ◌+◌, ◌-◌, ◌≤◌}
use native.Mathlib.Omega.{arith}
use lib.ListN.{drop}
use lib.Seq.{drop-drop}
use Rattle.im_writer.specs.Block.{Block}
use Rattle.server_selection.specs.declared.asked.Asked.{Asked}
use Rattle.server_selection.specs.Items.{span, item_at}
use Rattle.server_report.specs.declared.ReadPlace.{ReadPlace}
use Rattle.server_report.specs.Blocks.{View, PlacedBlock, block_of, listed, placed_at, paths_blocks, blocks_from}
use Rattle.server_report.specs.Chunk.{after}
use Rattle.server_report.proofs.BlockLaws.{path-past, path-step}

-- a list of blocks that begins with x, of paths of which the first is number k: after x comes the rest
record Begins (s : View) (ps : List Asked) (k : ℕ) (x : PlacedBlock) (rest : List PlacedBlock) : Type 0 where
  low : k ≤ x.next.path
  on : paths_blocks s x.next.path x.next.index (drop (x.next.path - k) ps) ≡ rest

module _ (s : View) (x : PlacedBlock) (rest : List PlacedBlock) where
  -- a place has one block at most, and after it comes the next place
  begins-here : (p : Asked) (ps : List Asked) (k i : ℕ) (o : Option Block) →
      (paths_blocks s k (i + 1) (p ∷ ps) ≡ x ∷ rest → Begins s (p ∷ ps) k x rest) → map (placed_at k i) (listed o) ++ paths_blocks s k (i + 1) (p ∷ ps) ≡ x ∷ rest → Begins s (p ∷ ps) k x rest
  begins-here p ps k i None f e = f e
  begins-here p ps k i (Some b) f e =
      let h : placed_at k i b ≡ x = cc in
      let q : k ≡ x.next.path = ap (λ (y : PlacedBlock). y.next.path) h in
      let r : i + 1 ≡ x.next.index = ap (λ (y : PlacedBlock). y.next.index) h in
      let t : paths_blocks s k (i + 1) (p ∷ ps) ≡ rest = cc in
      let z : x.next.path - k ≡ 0 = omega arith in
      record { low = omega arith; on = rw (z, ← q, ← r) t }

  -- path k, or the paths after it
  begins-from : (p : Asked) (ps : List Asked) (k : ℕ) → (paths_blocks s (k + 1) 0 ps ≡ x ∷ rest → Begins s ps (k + 1) x rest) →
      (n i : ℕ) → span s.schema p - i ≡ n → paths_blocks s k i (p ∷ ps) ≡ x ∷ rest → Begins s (p ∷ ps) k x rest
  begins-from p ps k f zero i z e =
      let b = f (sym (path-past s k p ps i (omega arith)) ∙ e) in
      let d : x.next.path - k ≡ suc (x.next.path - (k + 1)) = omega (arith, b.low) in
      record { low = omega (arith, b.low); on = rw d b.on }
  begins-from p ps k f (suc n) i z e =
      begins-here p ps k i (block_of s.schema s.values s.defaults s.edits p (item_at s.schema s.grants s.skips p i)) (begins-from p ps k f n (i + 1) (omega arith))
      (sym (path-step s k p ps i _ (omega arith) refl) ∙ e)

  begins : (ps : List Asked) (k i : ℕ) → paths_blocks s k i ps ≡ x ∷ rest → Begins s ps k x rest
  unfolding paths_blocks
  begins [] k i e = let z : ◌≡◌ {A = ℕ} 0 1 = cc in absurd (omega arith)
  begins (p ∷ ps) k i e = begins-from p ps k (begins ps (k + 1) 0) (span s.schema p - i) i refl e

module _ (s : View) (ps : List Asked) where
  goes-past : (at : ReadPlace) (x : PlacedBlock) (rest : List PlacedBlock) → blocks_from s ps at ≡ x ∷ rest → blocks_from s ps x.next ≡ rest
  unfolding blocks_from
  goes-past at x rest e =
      let b = begins s x rest (drop at.path ps) at.path at.index e in
      let q : at.path + (x.next.path - at.path) ≡ x.next.path = omega (arith, b.low) in
      ap (paths_blocks s x.next.path x.next.index) (ap (λ (n : ℕ). drop n ps) (sym q) ∙ sym (drop-drop (x.next.path - at.path) at.path ps)) ∙ b.on

  -- THE LAW; what is above it is all that looks at places and at what stands there
  pub blocks-next : (at : ReadPlace) (t : List PlacedBlock) (x : PlacedBlock) (rest : List PlacedBlock) → blocks_from s ps at ≡ t ++ (x ∷ rest) → blocks_from s ps x.next ≡ rest
  blocks-next at [] x rest e = goes-past at x rest e
  blocks-next at (y ∷ t) x rest e = blocks-next y.next t x rest (goes-past at y (t ++ (x ∷ rest)) e)

  -- so the blocks after the first ones, t, are those from the place that t end at
  pub blocks-after : (at : ReadPlace) (t rest : List PlacedBlock) → blocks_from s ps at ≡ t ++ rest → blocks_from s ps (after at t) ≡ rest
  unfolding after
  blocks-after at [] rest e = e
  blocks-after at (x ∷ t) rest e = blocks-after x.next t rest (blocks-next at [] x (t ++ rest) e)
