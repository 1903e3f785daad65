-- The blocks that a part takes are what the protocol's part of that many entries reports, and it leaves the same ahead.
use mathlib.Core.Path.{◌≡◌, refl, sym, ap, ◌∙◌}
use mathlib.Core.Bool.{Bool, true, false, not, true≢false}
use mathlib.Core.List.{List, [], ◌∷◌, map}
use Prim.Native.Nat.{ℕ, zero, suc, ◌+◌, ◌-◌, ◌^◌, ◌<◌}
use native.Mathlib.Omega.{arith}
use lib.Dec.{leb}
use lib.ListN.{get_or}
use Rattle.tlv_reader.specs.Tree.{Tree}
use Rattle.tlv_reader.specs.Value.{Datum}
use Rattle.im_requests.specs.declared.VersionFilter.{VersionFilter}
use Rattle.im_writer.specs.Block.{block_tree}
use Rattle.node_schema.specs.Rows.{attribute_row, count_of_attributes}
use Rattle.node_schema.specs.Check.{well_formed}
use Rattle.node_schema.proofs.BoolLaws.{by-test}
use Rattle.node_access.specs.declared.Grants.{Grants}
use Rattle.server_values.specs.declared.Values.{Values}
use Rattle.server_selection.specs.Filters.{filter_words}
use Rattle.server_selection.proofs.AskedLaws.{cluster-of}
use Rattle.server_report.specs.declared.ReadPlace.{ReadPlace}
use Rattle.server_report.specs.Blocks.{PlacedBlock, view_of, start_of, value_block}
use Rattle.server_report.specs.Chunk.{size, taken, after, trees}
use Rattle.server_report.specs.Chunk as chunk
use Rattle.proof_protocol.specs.Model.{ConcretePath, Cluster, any, reported, remaining, entry_at, skips}
use Rattle.proof_refinement.specs.Terms.{place_at, filters_as, ClustersAs}
use Rattle.proof_refinement.specs.Bytes.{block_as}
use Rattle.proof_server_parts.proofs.RowLaws.{blocks_at, places_at, placed, Row, unread, skipped, shown, blocks-past, places-past, at_row}

-- a place among these that is not skipped
abbrev pub any_shown : (ConcretePath → Bool) → List ConcretePath → Bool
any_shown skip l = any (λ (p : ConcretePath). not (skip p)) l

-- a place that is skipped changes nothing, whatever the size
module _ (skip : ConcretePath → Bool) (p : ConcretePath) (l : List ConcretePath) (s : skip p ≡ true) where
  reported-past : (n : ℕ) → reported skip n (p ∷ l) ≡ reported skip n l
  unfolding reported
  reported-past zero = rw s
  reported-past (suc n) = rw s

  remaining-past : (n : ℕ) → remaining skip n (p ∷ l) ≡ remaining skip n l
  unfolding remaining
  remaining-past zero = rw s
  remaining-past (suc n) = rw s

-- where all are skipped, nothing is reported and nothing stays ahead
pub none-reported : (skip : ConcretePath → Bool) (l : List ConcretePath) → any_shown skip l ≡ false → (reported skip 0 l ≡ []) × (remaining skip 0 l ≡ [])
unfolding reported remaining
none-reported skip [] h = (refl, refl)
none-reported skip (p ∷ l) h = by-test (skip p) (λ s. rw s (none-reported skip l (rw s at h))) (λ s. absurd (true≢false (rw s at h)))

-- places as the blocks of the protocol's part
abbrev pub trees_as : List ℕ → (ℕ → Cluster Datum) → List ConcretePath → List Tree
trees_as w clusters l = map block_tree (map (block_as w) (map (entry_at clusters) l))

module _ (w defaults edits : List ℕ) (v : Values) (g : Grants) (fs : List VersionFilter) (clusters : ℕ → Cluster Datum) where
  abbrev blocks : ℕ → List PlacedBlock
  blocks = blocks_at (view_of w v defaults edits g (filter_words w fs))

  abbrev ahead : ℕ → List ConcretePath
  ahead = places_at w g

  abbrev skip : ConcretePath → Bool
  skip = skips (filters_as w fs) clusters

  -- blocks t that are taken, one at least, of those of the places l
  pub record Taking (l : List ConcretePath) (n : ℕ) (t : List PlacedBlock) : Type 0 where
    pub end : ℕ
    pub last : (at : ReadPlace) → after at t ≡ start_of 0 end
    pub same : trees t ≡ trees_as w clusters (reported skip n l)
    pub leaves : remaining skip n l ≡ ahead end

  pub data Takes (l : List ConcretePath) (t : List PlacedBlock) : Type 0 where
    none : t ≡ [] → Takes l t
    some : (n : ℕ) → Taking l n t → Takes l t

  add-skipped : (p : ConcretePath) (l : List ConcretePath) (t : List PlacedBlock) → skip p ≡ true → Takes l t → Takes (p ∷ l) t
  add-skipped p l t s (none e) = none e
  add-skipped p l t s (some n r) =
      some n (record {
        end = r.end;
        last = r.last;
        same = r.same ∙ ap (trees_as w clusters) (sym (reported-past skip p l s n));
        leaves = remaining-past skip p l s n ∙ r.leaves;
      })

  module _ (formed : well_formed w ≡ true) (fit : (k : ℕ) → get_or v.versions k 0 < 2 ^ 32) (held : ClustersAs w defaults edits v clusters) where
    block_same : (i : ℕ) → i < count_of_attributes w → value_block w v defaults edits i ≡ block_as w (entry_at clusters (place_at w i))
    unfolding value_block
    block_same i row = rw (held.versions (attribute_row w i).index_of_cluster (cluster-of w formed i row), held.values i row)

    add-shown : (i : ℕ) → i < count_of_attributes w → (t : List PlacedBlock) → skip (place_at w i) ≡ false → Takes (ahead (i + 1)) t
        → Takes (place_at w i ∷ ahead (i + 1)) (placed w defaults edits v i ∷ t)
    unfolding reported remaining after
    add-shown i row t s (none e) =
        some 0 (record { end = i + 1; last = λ at. rw e; same = rw (s, e, block_same i row); leaves = rw s })
    add-shown i row t s (some n r) =
        some (suc n) (record { end = r.end; last = λ at. r.last _; same = rw (s, block_same i row, r.same); leaves = rw s r.leaves })

    abbrev at : (i : ℕ) → i < count_of_attributes w → Row w defaults edits v g fs clusters i
    at = at_row w defaults edits v g fs clusters formed fit held

    -- the m rows from i on
    pub takes : (m i room : ℕ) → count_of_attributes w - i ≡ m → Takes (ahead i) (taken room (blocks i))
    unfolding taken
    takes zero i room z = none (rw (blocks-past (view_of w v defaults edits g (filter_words w fs)) i (omega arith)))
    takes (suc m) i room z = go (at i (omega arith)) (λ room'. takes m (i + 1) room' (omega arith))
      where
        go : Row w defaults edits v g fs clusters i → ((room' : ℕ) → Takes (ahead (i + 1)) (taken room' (blocks (i + 1)))) → Takes (ahead i) (taken room (blocks i))
        go (unread b a) f = rw (b, a) (f room)
        go (skipped s b a) f = rw (b, a) (add-skipped (place_at w i) (ahead (i + 1)) _ s (f room))
        go (shown s b a) f =
            rw (b, a)
            (by-test (leb (size (placed w defaults edits v i)) room) (λ t. rw t (add-shown i (omega arith) _ s (f _))) (λ t. rw t (none refl)))

    -- some place ahead is not skipped exactly if there is a block
    pub more-ahead : (m i : ℕ) → count_of_attributes w - i ≡ m → any_shown skip (ahead i) ≡ chunk.any (blocks i)
    more-ahead zero i z =
        rw (blocks-past (view_of w v defaults edits g (filter_words w fs)) i (omega arith), places-past w g i (omega arith))
    more-ahead (suc m) i z = go (at i (omega arith)) (more-ahead m (i + 1) (omega arith))
      where
        go : Row w defaults edits v g fs clusters i → any_shown skip (ahead (i + 1)) ≡ chunk.any (blocks (i + 1)) → any_shown skip (ahead i) ≡ chunk.any (blocks i)
        go (unread b a) h = rw (b, a) h
        go (skipped s b a) h = rw (b, a, s) h
        go (shown s b a) h = rw (b, a, s)
