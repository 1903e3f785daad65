-- The blocks of a request, place by place.
use Rattle.std.specs.Prelude.{Some, None, Option}
use mathlib.Core.Path.{◌≡◌, refl, sym, ap, ◌∙◌}
use mathlib.Core.Bool.{Bool, true, false, false≢true}
use mathlib.Core.List.{List, [], ◌∷◌, ◌++◌, map, append_assoc}
use Prim.Native.Nat.{ℕ, suc, ◌+◌, ◌-◌, ◌≤◌, ◌<◌}
use native.Mathlib.Omega.{arith}
use lib.ListN.{length, drop, drop_of_length-le}
use Rattle.base_bounds.specs.Bounds.{attribute_limit}
use Rattle.tlv_reader.specs.Octet.{pick}
use Rattle.im_writer.specs.Block.{Block}
use Rattle.node_schema.specs.Rows.{count_of_attributes}
use Rattle.node_access.specs.declared.Grants.{Grants}
use Rattle.server_selection.specs.Asked.{concrete}
use Rattle.server_selection.specs.declared.asked.Asked.{Asked}
use Rattle.server_selection.specs.declared.items.Item.{Item}
use Rattle.server_selection.specs.declared.items.Item.TheVariants as item
use Rattle.server_selection.specs.Items.{span, item_at}
use Rattle.server_selection.proofs.ItemLaws.{item-index}
use Rattle.server_report.specs.Blocks.{View, PlacedBlock, is_nothing, block_of, listed, block_at, placed_at, collect, path_blocks, paths_blocks}

-- what a place has is nothing, or a block
pub no_block : (s : View) (p : Asked) (x : Item) → is_nothing x ≡ true → block_of s.schema s.values s.defaults s.edits p x ≡ None
unfolding block_of
no_block s p (item.Value i) h = cc
no_block s p (item.Status code) h = cc
no_block s p item.Nothing h = refl

pub record There (o : Option Block) : Type 0 where
  pub block : Block
  pub there : o ≡ Some block

pub some_block : (s : View) (p : Asked) (x : Item) → is_nothing x ≡ false → There (block_of s.schema s.values s.defaults s.edits p x)
unfolding block_of
some_block s p (item.Value i) h = record { block = _; there = refl }
some_block s p (item.Status code) h = record { block = _; there = refl }
some_block s p item.Nothing h = absurd (false≢true (sym h))

-- a value that stands at a place is that of one of the schema's attributes
pub value-index : (w : List ℕ) (g : Grants) (skips : List Bool) (p : Asked) (i : ℕ) (x : Item) → i < span w p → x ≡ item_at w g skips p i → (j : ℕ) → x ≡ item.Value j → j < count_of_attributes w
value-index w g skips p i x h e j q = item-index w g skips p i j h (sym e ∙ q)

-- a path has at most as many places as a schema has attributes
pub span-most : (w : List ℕ) (p : Asked) → span w p ≤ attribute_limit
unfolding span
span-most w p = by_form (concrete p)
  where
    by_form : (b : Bool) → pick b 1 (count_of_attributes w) ≤ attribute_limit
    by_form true = omega arith
    by_form false = omega arith

module _ (s : View) (k : ℕ) (p : Asked) where
  -- a path has no block after its places
  pub places-done : (i : ℕ) → span s.schema p ≤ i → path_blocks s k p i ≡ []
  unfolding path_blocks collect
  places-done i h = let q : span s.schema p - i ≡ 0 = omega arith in rw q

  -- at a place there is what stands there, then what follows
  places-step : (i : ℕ) (l : List Block) → i < span s.schema p → block_at s p i ≡ l → path_blocks s k p i ≡ map (placed_at k i) l ++ path_blocks s k p (i + 1)
  unfolding path_blocks collect
  places-step i l h e = let q : span s.schema p - i ≡ suc (span s.schema p - (i + 1)) = omega arith in rw (q, e)

  -- x stands there
  module _ (i : ℕ) (h : i < span s.schema p) (x : Item) (e : x ≡ item_at s.schema s.grants s.skips p i) where
    item-step : (o : Option Block) → block_of s.schema s.values s.defaults s.edits p x ≡ o → path_blocks s k p i ≡ map (placed_at k i) (listed o) ++ path_blocks s k p (i + 1)
    item-step o q = places-step i (listed o) h (ap listed (ap (block_of s.schema s.values s.defaults s.edits p) (sym e) ∙ q))

    pub places-none : is_nothing x ≡ true → path_blocks s k p i ≡ path_blocks s k p (i + 1)
    places-none t = item-step None (no_block s p x t)

    pub places-block : (b : Block) → block_of s.schema s.values s.defaults s.edits p x ≡ Some b → path_blocks s k p i ≡ placed_at k i b ∷ path_blocks s k p (i + 1)
    places-block b q = item-step (Some b) q

  -- and so for the paths of which it is the first
  module _ (ps : List Asked) where
    pub path-past : (i : ℕ) → span s.schema p ≤ i → paths_blocks s k i (p ∷ ps) ≡ paths_blocks s (k + 1) 0 ps
    unfolding paths_blocks
    path-past i h = ap (λ (l : List PlacedBlock). l ++ paths_blocks s (k + 1) 0 ps) (places-done i h)

    pub path-step : (i : ℕ) (l : List Block) → i < span s.schema p → block_at s p i ≡ l → paths_blocks s k i (p ∷ ps) ≡ map (placed_at k i) l ++ paths_blocks s k (i + 1) (p ∷ ps)
    unfolding paths_blocks
    path-step i l h e =
        ap (λ (m : List PlacedBlock). m ++ paths_blocks s (k + 1) 0 ps) (places-step i l h e)
        ∙ append_assoc (map (placed_at k i) l) (path_blocks s k p (i + 1)) (paths_blocks s (k + 1) 0 ps)

-- the blocks from place i of path k on, of the first n paths
abbrev pub ahead : View → List Asked → ℕ → ℕ → List PlacedBlock
ahead s ps k i = paths_blocks s k i (drop k ps)

module _ (s : View) (ps : List Asked) (k i : ℕ) where
  pub ahead-done : length ps ≤ k → ahead s ps k i ≡ []
  unfolding paths_blocks
  ahead-done l = ap (paths_blocks s k i) (drop_of_length-le ps {i = k} l)

  -- path k is p
  pub ahead-path : (p : Asked) → drop k ps ≡ p ∷ drop (k + 1) ps → ahead s ps k i ≡ path_blocks s k p i ++ ahead s ps (k + 1) 0
  unfolding paths_blocks
  ahead-path p here = ap (paths_blocks s k i) here
