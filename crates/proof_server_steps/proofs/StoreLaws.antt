-- ONE VALUE STORED is one change of the protocol where it differs from what was held, else nothing.
use mathlib.Core.Path.{◌≡◌, refl, sym, ap, ◌∙◌}
use mathlib.Core.Logic.{◌⊎◌, inl, inr}
use mathlib.Core.Bool.{true}
use mathlib.Core.List.{List, [], ◌∷◌}
use Prim.Native.Nat.{ℕ, suc, ◌+◌, ◌^◌, ◌<◌}
use native.Mathlib.Omega.{arith}
use borrow.Author.Tests.{eqb-true, eqb-false, eq-eqb, ne_eqb}
use lib.Dec.{eqb}
use lib.ListN.{get_or}
use Rattle.tlv_reader.specs.Value.{Datum}
use Rattle.node_kinds.specs.Stored as kinds
use Rattle.node_kinds.proofs.StoredLaws.{version-moves}
use Rattle.node_schema.specs.Rows.{attribute_row, count_of_clusters, count_of_attributes}
use Rattle.node_schema.proofs.BoolLaws.{by-test}
use Rattle.node_schema.proofs.PathLaws.{cluster-there}
use Rattle.server_values.specs.declared.Values.{Values}
use Rattle.server_values.specs.Values.{datum_at}
use Rattle.server_values.specs.Change.{changes, stored_values, stored_edits}
use Rattle.server_values.specs.Storing.{Storing}
use Rattle.server_values.proofs.MoveLaws.{version-stays, version-raised, stored-datum, other-datum}
use Rattle.proof_protocol.specs.Model as Model
use Rattle.proof_protocol.specs.Model.{System, Store, stored_in, store_all, change}
use Rattle.proof_protocol.specs.Claims.{moved}
use Rattle.proof_refinement.specs.Terms.{ClustersAs}

-- the protocol has made these changes, in one step
abbrev pub Stored : System Datum → System Datum → Type 0
Stored s t = (stores : List (Store Datum)) × (t ≡ store_all s stores)

-- what is held afterwards stands for what the protocol then has, and a cluster's version moved by as many as it counts changes
pub record Holds (w defaults : List ℕ) (old : Values) (s t : System Datum) (new : Values) (edits : List ℕ) : Type 0 where
  pub stored : Stored s t
  pub versions-fit : (k : ℕ) → get_or new.versions k 0 < 2 ^ 32
  pub held : ClustersAs w defaults edits new t.clusters
  pub counted : (k : ℕ) → k < count_of_clusters w → (t.clusters k).changes ≡ (s.clusters k).changes + moved (get_or old.versions k 0) (get_or new.versions k 0)

moved-not : (a b : ℕ) → b ≡ a → (n : ℕ) → n ≡ n + moved a b
moved-not a b e n = omega arith

moved-once : (a b : ℕ) → b ≡ kinds.next_version a → a < 2 ^ 32 → (n : ℕ) → suc n ≡ n + moved a b
unfolding kinds.next_version
moved-once a b e l n = omega arith

module _ (w defaults edits : List ℕ) (v : Values) (s : System Datum) (fit : (k : ℕ) → get_or v.versions k 0 < 2 ^ 32) (held : ClustersAs w defaults edits v s.clusters) where
  -- nothing was stored
  pub unmoved : Holds w defaults v s s v edits
  unfolding store_all stored_in
  unmoved = record { stored = ([], refl); versions-fit = fit; held = held; counted = λ k l. moved-not (get_or v.versions k 0) (get_or v.versions k 0) refl (s.clusters k).changes }

  module _ (i : ℕ) (d : Datum) (st : Storing w defaults edits v i d) where
    abbrev new : Values
    new = stored_values w defaults edits v i d

    abbrev page : List ℕ
    page = stored_edits w defaults edits v i d

    abbrev place : ℕ
    place = (attribute_row w i).index_of_cluster

    abbrev next : System Datum
    next = change s place i d

    there : place < count_of_clusters w
    there = cluster-there w st.rules i st.there

    module _ (c : changes w defaults edits v i d ≡ true) where
      raised : get_or new.versions place 0 ≡ kinds.next_version (get_or v.versions place 0)
      raised = version-raised w defaults edits v i d st c

      raised-fits : (k : ℕ) → get_or new.versions k 0 < 2 ^ 32
      unfolding kinds.next_version
      raised-fits k =
          by-test (eqb k place) (λ t. rw (eqb-true k place t) (omega (arith, raised)))
          (λ t. rw (version-stays w defaults edits v i d k (eqb-false k place t)) (fit k))

      raised-version : (k : ℕ) → k < count_of_clusters w → (next.clusters k).version ≡ get_or new.versions k 0
      unfolding store_all stored_in kinds.next_version
      raised-version k l =
          by-test (eqb k place)
          (λ t. rw (t, eqb-true k place t) (sym (raised ∙ ap Model.next_version (sym (held.versions place there)))))
          (λ t. rw (t, version-stays w defaults edits v i d k (eqb-false k place t)) (held.versions k l))

      raised-value : (j : ℕ) → j < count_of_attributes w → (next.clusters (attribute_row w j).index_of_cluster).values j ≡ datum_at w defaults page new j
      unfolding store_all stored_in
      raised-value j l =
          by-test (eqb j i)
          (λ t. let e = eqb-true j i t in rw (e, eq-eqb place place refl, eq-eqb i i refl) (sym (stored-datum w defaults edits v i d st)))
          (λ t. let n = eqb-false j i t in
          by-test (eqb (attribute_row w j).index_of_cluster place)
          (λ u. rw (u, t, other-datum w defaults edits v i d st j n l, ← (eqb-true (attribute_row w j).index_of_cluster place u)) (held.values j l))
          (λ u. rw (u, other-datum w defaults edits v i d st j n l) (held.values j l)))

      raised-counted : (k : ℕ) → k < count_of_clusters w → (next.clusters k).changes ≡ (s.clusters k).changes + moved (get_or v.versions k 0) (get_or new.versions k 0)
      unfolding store_all stored_in
      raised-counted k l =
          by-test (eqb k place)
          (λ t. rw (t, eqb-true k place t) (moved-once _ _ raised (fit place) (s.clusters place).changes))
          (λ t. rw t (moved-not _ _ (version-stays w defaults edits v i d k (eqb-false k place t)) (s.clusters k).changes))

      -- a change
      changed-once : Holds w defaults v s next new page
      changed-once =
          record {
            stored = (record { cluster = place; attribute = i; value = d } ∷ [], refl);
            versions-fit = raised-fits;
            held = record { versions = raised-version; values = raised-value };
            counted = raised-counted;
          }

    -- A VALUE that is allowed, stored
    pub stored-as : (t : System Datum) × Holds w defaults v s t new page
    unfolding stored_values stored_edits
    stored-as =
        by-test (changes w defaults edits v i d) (λ c. (next, changed-once c)) (λ c. (s, rw c unmoved))
