-- What the ends answer, in the terms of the protocol: which cluster is called whole, what may be read of one path, what the cache has for it.
use Rattle.std.specs.Prelude.{Some, None, Option}
use mathlib.Core.Path.{◌≡◌, refl, sym, ap, ◌∙◌}
use mathlib.Core.Bool.{Bool, true, false, not, true≢false}
use mathlib.Core.List.{List, [], ◌∷◌}
use Prim.Native.Nat.{ℕ, ◌<◌}
use native.Mathlib.Omega.{arith}
use borrow.Author.Tests.{lt-ltb}
use lib.Dec.{eqb}
use lib.ListN.{get_or}
use Rattle.node_schema.specs.Rows.{cluster_row, attribute_row, count_of_clusters, count_of_attributes}
use Rattle.node_schema.specs.Rules.{AttributePath, path, path_at, Rules}
use Rattle.node_schema.specs.Find.{find_cluster}
use Rattle.node_schema.proofs.BoolLaws.{by-test, left, right}
use Rattle.node_schema.proofs.RulesLaws.{path-word}
use Rattle.node_schema.proofs.FindLaws.{cluster-found, cluster-none}
use Rattle.node_schema.proofs.PathLaws.{one-path, one-cluster, cluster-there}
use Rattle.server_selection.specs.declared.items.Item.{Item}
use Rattle.server_selection.specs.declared.items.Item.TheVariants as item
use Rattle.server_selection.specs.declared.locate.Located.{Located}
use Rattle.server_selection.specs.declared.locate.Located.TheVariants.{Here, Refused}
use Rattle.server_selection.specs.Status.{unsupported_read, unsupported_access}
use Rattle.server_selection.specs.Locate.{located}
use Rattle.server_selection.specs.Items.{read_item, concrete_item}
use Rattle.server_selection.proofs.LocateLaws.{located_here, located-refused}
use Rattle.server_selection.proofs.ItemLaws.{read-tests, concrete-here, concrete-refused}
use Rattle.server_values.specs.Values.{datum_at, version_at}
use Rattle.server_report.specs.Blocks.{value_block, block_of}
use Rattle.cache_entries.specs.Limits.{no_version}
use Rattle.cache_entries.specs.Entries.{CacheEntry, cluster_word, lookup}
use Rattle.cache_state.specs.declared.CacheState.{CacheState}
use Rattle.proof_cache_laws.specs.Valid.{ValidCache}
use Rattle.proof_cache_laws.proofs.BegunLaws.{valid-right}
use Rattle.cache_ask.specs.Ask.{Said, said, coherent_of, version_said, says_whole, versioned, entry_said, says_entry}
use Rattle.proof_refinement.specs.Terms.{may_read}
use Rattle.proof_promises.specs.World.{Plan, World, granted}
use Rattle.proof_promises.specs.Claims.{on_row, version_of, changes_of, asked, shown, entry_for}

-- A CLUSTER IS CALLED WHOLE exactly if it is coherent
version-said : (o : Option ℕ) (v : ℕ) → version_said o ≡ said 0 (v ∷ []) → o ≡ Some v
version-said None v h = let z : ◌≡◌ {A = ℕ} 1 0 = ap (λ (x : Said). x.number) h in absurd (omega (arith, z))
version-said (Some x) v h = ap Some (ap (λ (y : Said). get_or y.values 0 0) h)

-- what has a version is shown
versioned-all : (o : Option CacheEntry) → ((x : CacheEntry) → o ≡ Some x → x.version < no_version) → versioned o ≡ o
versioned-all None h = refl
versioned-all (Some x) h = rw (lt-ltb x.version no_version (h x refl)) refl

module _ (page : List ℕ) (s : CacheState) (valid : ValidCache page s) where
  says-version : (e c : ℕ) → says_whole page s e c ≡ version_said (coherent_of s.held (cluster_word e c))
  says-version e c = rw (valid-right page s valid) refl

  pub whole-coherent : (e c v : ℕ) → says_whole page s e c ≡ said 0 (v ∷ []) → coherent_of s.held (cluster_word e c) ≡ Some v
  whole-coherent e c v h = version-said (coherent_of s.held (cluster_word e c)) v (sym (says-version e c) ∙ h)

  pub coherent-whole : (e c v : ℕ) → coherent_of s.held (cluster_word e c) ≡ Some v → says_whole page s e c ≡ said 0 (v ∷ [])
  coherent-whole e c v h = says-version e c ∙ ap version_said h

  pub says-held : (e c a : ℕ) → ((x : CacheEntry) → lookup s.held page e c a ≡ Some x → x.version < no_version) → says_entry page s e c a ≡ entry_said (lookup s.held page e c a)
  says-held e c a h = rw (valid-right page s valid) (ap entry_said (versioned-all (lookup s.held page e c a) h))

module _ (p : Plan) (rules : Rules p.words) where
  abbrev w : List ℕ
  w = p.words

  -- THE ROW of a cluster
  pub row-found : (k : ℕ) → k < count_of_clusters w → (e c : ℕ) → (cluster_row w k).endpoint ≡ e → (cluster_row w k).cluster ≡ c → find_cluster w e c ≡ Some k
  row-found k l e c qe qc = go (find_cluster w e c) refl
    where
      go : (f : (Option ℕ)) → find_cluster w e c ≡ f → find_cluster w e c ≡ Some k
      go (Some j) h = let r = cluster-found w e c j h in h ∙ ap Some (one-cluster w rules j k r.0 l (r.1 ∙ sym qe) (r.2 ∙ sym qc))
      go None h = absurd (cluster-none w e c h k l qe qc)

  module _ (k e c : ℕ) (h : find_cluster w e c ≡ Some k) where
    pub version-at : (u : World) → version_of p u e c ≡ Some (get_or u.server.values.versions k 0)
    version-at u = ap (on_row None (λ (j : ℕ). Some (get_or u.server.values.versions j 0))) h

    pub changes-at : (u : World) → changes_of p u e c ≡ u.changes k
    changes-at u = ap (on_row 0 u.changes) h

    -- an attribute of that path is of that row
    pub of-cluster : (i a : ℕ) → i < count_of_attributes w → path_at w i ≡ path e c a → (attribute_row w i).index_of_cluster ≡ k
    of-cluster i a l q =
        let j = (attribute_row w i).index_of_cluster in
        let there : j < count_of_clusters w = cluster-there w rules i l in
        let r = cluster-found w e c k h in
        let is : path (cluster_row w j).endpoint (cluster_row w j).cluster (attribute_row w i).id ≡ path e c a = sym (path-word w i there) ∙ q in
        one-cluster w rules j k there r.0 (ap (λ (x : AttributePath). x.endpoint) is ∙ sym r.1) (ap (λ (x : AttributePath). x.cluster) is ∙ sym r.2)

  -- WHAT MAY BE READ of one path
  pub data Sees (u : World) (e c a : ℕ) : Type 0 where
    value : (i : ℕ) → i < count_of_attributes w → path_at w i ≡ path e c a → may_read w (granted p) i ≡ true
        → entry_for (shown p u e c a) ≡ Some (record { version = version_at w u.server.values i; value = datum_at w p.defaults u.server.edits u.server.values i }) → Sees u e c a
    none : entry_for (shown p u e c a) ≡ None → ((i : ℕ) → i < count_of_attributes w → path_at w i ≡ path e c a → may_read w (granted p) i ≡ true → ⊥) → Sees u e c a

  -- attribute i, by whether it may be read
  item-read : (i : ℕ) → may_read w (granted p) i ≡ true → read_item w (granted p) [] i ≡ item.Value i
  unfolding may_read
  item-read i t =
      let open_is : eqb (attribute_row w i).read 0 ≡ false = is_false (eqb (attribute_row w i).read 0) (left _ _ t) in
      read-tests w (granted p) [] i ∙ rw (open_is, right (not (eqb (attribute_row w i).read 0)) _ t) refl
    where
      is_false : (b : Bool) → not b ≡ true → b ≡ false
      is_false true h = sym h
      is_false false h = refl

  item_refused : (i : ℕ) → may_read w (granted p) i ≡ false → (code : ℕ) × (read_item w (granted p) [] i ≡ item.Status code)
  unfolding may_read
  item_refused i f =
      let e = read-tests w (granted p) [] i in
      by-test (eqb (attribute_row w i).read 0) (λ t. (unsupported_read, e ∙ rw t refl)) (λ n. (unsupported_access, e ∙ rw (n, rw n at f) refl))

  module _ (u : World) (e c a : ℕ) where
    by-item : (x : Item) → concrete_item w (granted p) [] (asked e c a) ≡ x → entry_for (shown p u e c a) ≡ entry_for (block_of w u.server.values p.defaults u.server.edits (asked e c a) x)
    by-item x q = ap (λ (y : Item). entry_for (block_of w u.server.values p.defaults u.server.edits (asked e c a) y)) q

    pub sees : Sees u e c a
    unfolding block_of value_block
    sees = go (located w e c a) refl
      where
        one : (i : ℕ) → located w e c a ≡ Here i → may_read w (granted p) i ≡ false → (j : ℕ) → j < count_of_attributes w → path_at w j ≡ path e c a → may_read w (granted p) j ≡ true → ⊥
        one i h f j l q t =
            let r = located_here w e c a i h in
            true≢false (sym t ∙ ap (may_read w (granted p)) (one-path w rules j i l r.0 (q ∙ sym r.1)) ∙ f)

        go : (o : Located) → located w e c a ≡ o → Sees u e c a
        go (Here i) h =
            let r = located_here w e c a i h in
            let read = concrete-here w (granted p) [] (asked e c a) i h in
            by-test (may_read w (granted p) i) (λ t. value i r.0 r.1 t (by-item (item.Value i) (read ∙ item-read i t)))
            (λ f. let k = item_refused i f in none (by-item (item.Status k.0) (read ∙ k.1)) (one i h f))
        go (Refused code) h = none (by-item (item.Status code) (concrete-refused w (granted p) [] (asked e c a) code h)) (λ i l q _. located-refused w rules e c a code h i l q)
