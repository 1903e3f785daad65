-- A whole read of a server that keeps the rules: every block has room in a part, so the parts carry all of them.
use Rattle.std.specs.Prelude.{Some, None, Option}
use mathlib.Core.Path.{◌≡◌, refl, sym, ap, subst, ◌∙◌}
use mathlib.Core.Bool.{Bool, true, false}
use mathlib.Core.List.{List, [], ◌∷◌, ◌++◌, map, append_assoc}
use Prim.Native.Nat.{ℕ, zero, suc, ◌+◌, ◌-◌, ◌≤◌, ◌<◌}
use native.Mathlib.Omega.{arith}
use lib.ListN.{length, get_or, drop}
use Rattle.base_bounds.specs.Bounds.{text_bytes_limit}
use Rattle.im_blocks.proofs.BlockLaws.{never}
use Rattle.im_writer.specs.Spelling.{Each}
use Rattle.im_writer.specs.Block.{Block, ShortText}
use Rattle.im_writer.specs.Meaning.{PathFits}
use Rattle.node_kinds.specs.declared.Kind.{Kind}
use Rattle.node_kinds.specs.declared.Kind.TheVariants as Kinds
use Rattle.node_schema.specs.Rows.{attribute_row, count_of_attributes}
use Rattle.node_schema.specs.Rules.{AttributePath, path_at}
use Rattle.node_schema.specs.Check.{well_formed}
use Rattle.node_schema.proofs.RulesLaws.{well-formed-rules, cluster-rules, attribute-rules}
use Rattle.node_plan.specs.Attributes.{kind_of}
use Rattle.server_values.specs.declared.Values.{Values}
use Rattle.server_values.specs.Values.{held_datum, datum_at, shown_of}
use Rattle.server_values.specs.Valid.{values_right}
use Rattle.server_values.proofs.ValueLaws.{textual, text-row}
use Rattle.server_values.proofs.ValidLaws.{right-at, shown-fits}
use Rattle.server_selection.specs.declared.asked.Asked.{Asked}
use Rattle.server_selection.specs.declared.items.Item.{Item}
use Rattle.server_selection.specs.declared.items.Item.TheVariants as item
use Rattle.server_selection.specs.Items.{span, item_at}
use Rattle.server_selection.proofs.AskedLaws.{cluster-of, path-of}
use Rattle.server_selection.proofs.ItemLaws.{item-code}
use Rattle.server_report.specs.declared.ReadPlace.{ReadPlace}
use Rattle.server_report.specs.Blocks.{View, Sound, Named, PlacedBlock, value_block, block_of, listed, block_at, placed_at, collect, path_blocks, paths_blocks, blocks_from}
use Rattle.server_report.specs.Chunk.{block_room, size, Short}
use Rattle.server_report.specs.Part.{parts_from, together}
use Rattle.server_report.proofs.BlockLaws.{value-index}
use Rattle.server_report.proofs.ChunkLaws.{block-small, all-parts, few-parts, same_parts}

-- a value whose text, if it is one, is short
short-held : (k : Kind) (word : ℕ) (is_null : Bool) (shown : List ℕ) → (is_null ≡ false → textual k ≡ true → length shown ≤ text_bytes_limit) → ShortText (held_datum k word is_null shown)
unfolding held_datum ShortText
short-held k word true shown s = tt
short-held Kinds.Boolean word false shown s = tt
short-held (Kinds.Unsigned l u) word false shown s = tt
short-held (Kinds.Signed l u) word false shown s = tt
short-held (Kinds.Float r) word false shown s = tt
short-held Kinds.Text word false shown s = s refl refl

module _ (w defaults edits : List ℕ) (v : Values) (right-values : values_right w defaults edits v ≡ true) (i : ℕ) (l : i < count_of_attributes w) where
  short-datum : ShortText (datum_at w defaults edits v i)
  unfolding datum_at
  short-datum =
      let a = attribute_row w i in
      short-held (kind_of a) (get_or v.words i 0) (get_or v.nulls i false) (shown_of w defaults edits v i)
      (λ n t. (shown-fits w defaults edits v i (text-row a ∙ t) n (right-at w defaults edits v right-values i l)).0)

-- the path of an attribute has its widths
path-fits : (w : List ℕ) → well_formed w ≡ true → (i : ℕ) → i < count_of_attributes w → PathFits (path_at w i).endpoint (path_at w i).cluster (path_at w i).attribute
path-fits w h i l =
    let k = cluster-of w h i l in
    let c = cluster-rules w ((well-formed-rules w).0 h) (attribute_row w i).index_of_cluster k in
    let a = attribute-rules w ((well-formed-rules w).0 h) i l in
    subst (λ (p : AttributePath). PathFits p.endpoint p.cluster p.attribute) (path-of w h i l refl refl refl refl)
    (record { endpoint-fits = c.endpoint; cluster-fits = c.cluster; attribute-fits = a.id })

each-drop : {A : Type 0} (P : A → Type 0) (n : ℕ) (l : List A) → Each P l → Each P (drop n l)
unfolding Each
each-drop P zero l h = h
each-drop P (suc n) [] h = h
each-drop P (suc n) (x ∷ l) h = each-drop P n l h.1

each-small : (l : List PlacedBlock) → Each (λ (x : PlacedBlock). Short x.block) l → Each (λ (x : PlacedBlock). size x ≤ block_room) l
unfolding Each
each-small [] h = tt
each-small (x ∷ l) h = (omega (arith, block-small x.block h.0), each-small l h.1)

module _ (s : View) (sound : Sound s) where
  -- every block is short
  short-item : (p : Asked) (i : ℕ) → i < span s.schema p → Named p → (x : Item) → x ≡ item_at s.schema s.grants s.skips p i → (b : Block) → block_of s.schema s.values s.defaults s.edits p x ≡ Some b → Short b
  unfolding block_of value_block Short
  short-item p i l f (item.Value j) e b q =
      let h = value-index s.schema s.grants s.skips p i (item.Value j) l e j refl in
      let y : value_block s.schema s.values s.defaults s.edits j ≡ b = cc in
      subst Short y (sound.version-fits _, (path-fits s.schema sound.schema-right j h, short-datum s.schema s.defaults s.edits s.values sound.values-right j h))
  short-item p i l f (item.Status code) e b q =
      let y : Block.status p.endpoint p.cluster p.attribute code ≡ b = cc in
      subst Short y (f, item-code s.schema s.grants s.skips code p i (sym e))
  short-item p i l f item.Nothing e b q = never (cc)

  short-place : (k i : ℕ) (o : Option Block) (l : List PlacedBlock) → ((b : Block) → o ≡ Some b → Short b) → Each (λ (x : PlacedBlock). Short x.block) l → Each (λ (x : PlacedBlock). Short x.block) (map (placed_at k i) (listed o) ++ l)
  unfolding Each
  short-place k i None l f h = h
  short-place k i (Some b) l f h = (f b refl, h)

  -- those of a path from place i on, with short ones after them
  short-path : (k : ℕ) (p : Asked) → Named p → (rest : List PlacedBlock) → Each (λ (x : PlacedBlock). Short x.block) rest → (n i : ℕ) → n ≤ span s.schema p - i → Each (λ (x : PlacedBlock). Short x.block) (collect k (block_at s p) n i ++ rest)
  unfolding collect
  short-path k p f rest h zero i l = h
  short-path k p f rest h (suc n) i l =
      subst (Each (λ (x : PlacedBlock). Short x.block)) (sym (append_assoc (map (placed_at k i) (block_at s p i)) (collect k (block_at s p) n (i + 1)) rest))
      (short-place k i (block_of s.schema s.values s.defaults s.edits p (item_at s.schema s.grants s.skips p i)) _ (short-item p i (omega arith) f _ refl) (short-path k p f rest h n (i + 1) (omega arith)))

  short-paths : (ps : List Asked) → Each Named ps → (k i : ℕ) → Each (λ (x : PlacedBlock). Short x.block) (paths_blocks s k i ps)
  unfolding paths_blocks path_blocks Each
  short-paths [] h k i = tt
  short-paths (p ∷ ps) h k i = short-path k p h.0 (paths_blocks s (k + 1) 0 ps) (short-paths ps h.1 (k + 1) 0) (span s.schema p - i) i (omega arith)

  module _ (ps : List Asked) (named : Each Named ps) (at : ReadPlace) where
    pub blocks-short : Each (λ (x : PlacedBlock). Short x.block) (blocks_from s ps at)
    unfolding blocks_from
    blocks-short = short-paths (drop at.path ps) (each-drop Named at.path ps named) at.path at.index

    -- so a part has room for it
    pub blocks-small : Each (λ (x : PlacedBlock). size x ≤ block_room) (blocks_from s ps at)
    blocks-small = each-small (blocks_from s ps at) blocks-short

    -- THE PARTS OF A READ TOGETHER CARRY EXACTLY ITS BLOCKS, if the server does not change meanwhile
    pub whole-read : together (parts_from s ps (length (blocks_from s ps at) + 1) at) ≡ blocks_from s ps at
    whole-read =
        ap together (same_parts s ps (length (blocks_from s ps at) + 1) at)
        ∙ all-parts (length (blocks_from s ps at) + 1) (blocks_from s ps at) (omega arith) blocks-small

    -- with at most one part more than there are blocks
    pub few-of-read : (n : ℕ) → length (parts_from s ps n at) ≤ length (blocks_from s ps at) + 1
    few-of-read n = rw (same_parts s ps n at) (few-parts n (blocks_from s ps at) blocks-small)
