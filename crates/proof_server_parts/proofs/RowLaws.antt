-- A read of everything, row by row: the blocks ahead are the values of those attributes that the cache may read and that its filters do not skip.
use mathlib.Core.Path.{◌≡◌, refl, ap, ◌∙◌}
use mathlib.Core.Bool.{Bool, true, false, not, ◌&&◌}
use mathlib.Core.List.{List, [], ◌∷◌, ◌++◌, map}
use Prim.Native.Nat.{ℕ, suc, ◌+◌, ◌-◌, ◌^◌, ◌≤◌, ◌<◌}
use native.Mathlib.Omega.{arith}
use lib.Dec.{eqb}
use lib.ListN.{get_or}
use Rattle.base_bounds.specs.Bounds.{cluster_limit}
use Rattle.tlv_reader.specs.Octet.{pick}
use Rattle.tlv_reader.specs.Value.{Datum}
use Rattle.im_requests.specs.declared.VersionFilter.{VersionFilter}
use Rattle.im_writer.specs.Block.{Block}
use Rattle.node_schema.specs.Rows.{attribute_row, count_of_clusters, count_of_attributes}
use Rattle.node_schema.specs.Check.{well_formed}
use Rattle.node_schema.proofs.BoolLaws.{by-test}
use Rattle.node_schema.proofs.RowLaws.{filled_at}
use Rattle.node_schema.proofs.RulesLaws.{well-formed-rules}
use Rattle.node_access.specs.declared.Grants.{Grants}
use Rattle.node_access.specs.Access.{is_granted}
use Rattle.server_values.specs.declared.Values.{Values}
use Rattle.server_selection.specs.declared.asked.Asked.{Asked}
use Rattle.server_selection.specs.declared.items.Item.TheVariants as item
use Rattle.server_selection.specs.Status.{unsupported_read, unsupported_access}
use Rattle.server_selection.specs.Asked.{asked_for, asks_for, concrete}
use Rattle.server_selection.specs.Filters.{skips_at, skips_of, filter_words}
use Rattle.server_selection.specs.Items.{silent, wildcard_item, span, item_at}
use Rattle.server_selection.proofs.AskedLaws.{cluster-of}
use Rattle.server_selection.proofs.FilterLaws.{judged-skips}
use Rattle.server_selection.proofs.ItemLaws.{read-tests}
use Rattle.server_report.specs.Blocks.{View, view_of, value_block, block_of, start_of, listed, block_at, PlacedBlock, placed_at, blocks_from, paths_blocks}
use Rattle.server_report.proofs.BlockLaws.{path-past, path-step}
use Rattle.proof_round_trip.specs.Meant.{everything}
use Rattle.proof_protocol.specs.Model.{ConcretePath, Cluster, skips}
use Rattle.proof_refinement.specs.Terms.{place_at, may_read, readable_from, filters_as, ClustersAs}
use Rattle.proof_server_parts.proofs.FilterLaws.{skips-same}

-- the paths of the read: one, which names nothing
abbrev pub paths : List Asked
paths = asked_for everything ∷ []

-- its blocks from row i on
abbrev pub blocks_at : View → ℕ → List PlacedBlock
blocks_at s i = blocks_from s paths (start_of 0 i)

-- and the places of the protocol
abbrev pub places_at : List ℕ → Grants → ℕ → List ConcretePath
places_at w g i = readable_from w g (count_of_attributes w - i) i

-- the value of attribute i, as a block of that path
abbrev pub placed : List ℕ → List ℕ → List ℕ → Values → ℕ → PlacedBlock
placed w defaults edits v i = placed_at 0 i (value_block w v defaults edits i)

-- past the last row there is nothing
pub blocks-past : (s : View) (i : ℕ) → count_of_attributes s.schema ≤ i → blocks_at s i ≡ []
unfolding blocks_from paths_blocks span concrete asked_for
blocks-past s i h = path-past s 0 (asked_for everything) [] i h

pub places-past : (w : List ℕ) (g : Grants) (i : ℕ) → count_of_attributes w ≤ i → places_at w g i ≡ []
unfolding readable_from
places-past w g i h = let q : count_of_attributes w - i ≡ 0 = omega arith in rw q

module _ (w defaults edits : List ℕ) (v : Values) (g : Grants) (fs : List VersionFilter) (clusters : ℕ → Cluster Datum) where
  abbrev view : View
  view = view_of w v defaults edits g (filter_words w fs)

  abbrev skip : ConcretePath → Bool
  skip = skips (filters_as w fs) clusters

  -- WHAT ROW i ADDS to both
  pub data Row (i : ℕ) : Type 0 where
    unread : blocks_at view i ≡ blocks_at view (i + 1) → places_at w g i ≡ places_at w g (i + 1) → Row i
    skipped : skip (place_at w i) ≡ true → blocks_at view i ≡ blocks_at view (i + 1) → places_at w g i ≡ place_at w i ∷ places_at w g (i + 1) → Row i
    shown : skip (place_at w i) ≡ false → blocks_at view i ≡ placed w defaults edits v i ∷ blocks_at view (i + 1) → places_at w g i ≡ place_at w i ∷ places_at w g (i + 1) → Row i

  module _ (formed : well_formed w ≡ true) (fit : (k : ℕ) → get_or v.versions k 0 < 2 ^ 32) (held : ClustersAs w defaults edits v clusters) (i : ℕ) (row : i < count_of_attributes w) where
    abbrev k : ℕ
    k = (attribute_row w i).index_of_cluster

    skips-row : get_or view.skips k false ≡ skip (place_at w i)
    unfolding skips_of
    skips-row =
        let there = cluster-of w formed i row in
        ap (λ (l : List Bool). get_or l k false) (judged-skips w fs v.versions fit)
        ∙ filled_at false (skips_at w fs v.versions) cluster_limit (count_of_clusters w) k false there
        ∙ skips-same w ((well-formed-rules w).0 formed) k there clusters (get_or v.versions k 0) (held.versions k there) fs i

    -- what may be read and is not skipped has a block
    abbrev block_if : Bool → Bool → List Block
    block_if may skips-it = pick may (pick skips-it [] (value_block w v defaults edits i ∷ [])) []

    block_row :
        block_at (view_of w v defaults edits g (filter_words w fs)) (asked_for everything) i
        ≡ pick (may_read w g i) (pick (skips (filters_as w fs) clusters (place_at w i)) [] (value_block w v defaults edits i ∷ [])) []
    unfolding block_of item_at wildcard_item may_read concrete asks_for asked_for
    block_row = rw (← skips-row, read-tests w g view.skips i) (go (eqb (attribute_row w i).read 0) (is_granted g k (attribute_row w i).read) (get_or view.skips k false))
      where
        go : (a b c : Bool) →
            listed (block_of w v defaults edits (asked_for everything) (silent (pick a (item.Status unsupported_read) (pick b (pick c item.Nothing (item.Value i)) (item.Status unsupported_access)))))
            ≡ block_if (not a && b) c
        go true b c = refl
        go false true true = refl
        go false true false = refl
        go false false c = refl

    blocks-row : (l : List Block) → block_if (may_read w g i) (skip (place_at w i)) ≡ l → blocks_at view i ≡ map (placed_at 0 i) l ++ blocks_at view (i + 1)
    unfolding blocks_from span concrete asked_for
    blocks-row l e = path-step view 0 (asked_for everything) [] i l row (block_row ∙ e)

    places_row : places_at w g i ≡ pick (may_read w g i) (place_at w i ∷ places_at w g (i + 1)) (places_at w g (i + 1))
    unfolding readable_from
    places_row = let q : count_of_attributes w - i ≡ suc (count_of_attributes w - (i + 1)) = omega arith in rw q

    pub at_row : Row i
    at_row =
        by-test (may_read w g i)
        (λ m. by-test (skip (place_at w i))
        (λ s. skipped s (blocks-row [] (rw (m, s))) (places_row ∙ rw m))
        (λ s. shown s (blocks-row (_ ∷ []) (rw (m, s))) (places_row ∙ rw m)))
        (λ m. unread (blocks-row [] (rw m)) (places_row ∙ rw m))
