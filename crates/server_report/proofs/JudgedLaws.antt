-- FILTERS ARE JUDGED AT EACH PART: with the versions of the view that the part is made of, whatever the server held when the request was taken.
use mathlib.Core.Path.{◌≡◌, refl, ap, ◌∙◌}
use mathlib.Core.Bool.{Bool, true, false, not, ◌&&◌, ◌||◌}
use mathlib.Core.List.{List, [], ◌∷◌}
use Prim.Native.Nat.{ℕ, zero, suc, ◌<◌, ◌^◌}
use native.Mathlib.Omega.{arith}
use borrow.Author.Tests.{ne_eqb}
use lib.Dec.{eqb}
use lib.ListN.{length, get_or}
use Rattle.base_bounds.specs.Bounds.{cluster_limit}
use Rattle.tlv_reader.specs.Octet.{pick}
use Rattle.im_requests.specs.declared.VersionFilter.{VersionFilter}
use Rattle.node_schema.specs.Rows.{cluster_row, count_of_clusters, attribute_row, count_of_attributes}
use Rattle.node_schema.specs.Check.{well_formed}
use Rattle.node_schema.proofs.RowLaws.{filled_at}
use Rattle.node_access.specs.declared.Grants.{Grants}
use Rattle.node_access.specs.Access.{is_granted}
use Rattle.server_values.specs.declared.Values.{Values}
use Rattle.server_selection.specs.declared.items.Item.TheVariants.{Value, Nothing}
use Rattle.server_selection.specs.Filters.{on, some, agree, skips_by, skips_at, skips_of, filter_words}
use Rattle.server_selection.specs.Items.{read_item}
use Rattle.server_selection.proofs.AskedLaws.{cluster-of}
use Rattle.server_selection.proofs.FilterLaws.{judged-skips}
use Rattle.server_selection.proofs.ItemLaws.{read-tests}
use Rattle.server_report.specs.Blocks.{view_of}

and-false : (b : Bool) → (b && false) ≡ false
and-false true = refl
and-false false = refl

-- a filter for the cluster that carries another version
disagrees : (e c version : ℕ) (d : VersionFilter) (fs : List VersionFilter) (n : ℕ) → n < length fs → on e c (get_or fs n d) ≡ true → ((get_or fs n d).version ≡ version → ⊥) → agree e c version fs ≡ false
unfolding agree
disagrees e c version d [] n l h k = absurd (omega arith)
disagrees e c version d (f ∷ fs) zero l h k = rw (h, ne_eqb f.version version k)
disagrees e c version d (f ∷ fs) (suc n) l h k =
    rw (disagrees e c version d fs n (omega arith) h k) (and-false (not (on e c f) || eqb f.version version))

-- attribute i of a schema, in a view of the server as it stands when a part is made
module _ (w : List ℕ) (right : well_formed w ≡ true) (v : Values) (fits : (k : ℕ) → get_or v.versions k 0 < 2 ^ 32) (defaults edits : List ℕ) (g : Grants) (fs : List VersionFilter) (i : ℕ) (l : i < count_of_attributes w) where
  -- its cluster, and the version that this has now
  abbrev place : ℕ
  place = (attribute_row w i).index_of_cluster

  abbrev endpoint : ℕ
  endpoint = (cluster_row w place).endpoint

  abbrev cluster : ℕ
  cluster = (cluster_row w place).cluster

  abbrev version : ℕ
  version = get_or v.versions place 0

  skips-now : get_or (view_of w v defaults edits g (filter_words w fs)).skips place false ≡ skips_by fs endpoint cluster version
  unfolding skips_of
  skips-now =
      ap (λ (s : List Bool). get_or s place false) (judged-skips w fs v.versions fits)
      ∙ filled_at false (skips_at w fs v.versions) cluster_limit (count_of_clusters w) place false (cluster-of w right i l)

  -- one that may be read
  module _ (readable : eqb (attribute_row w i).read 0 ≡ false) (granted : is_granted g (attribute_row w i).index_of_cluster (attribute_row w i).read ≡ true) where
    judged-now : read_item w g (view_of w v defaults edits g (filter_words w fs)).skips i ≡ pick (skips_by fs endpoint cluster version) Nothing (Value i)
    judged-now = read-tests w g (view_of w v defaults edits g (filter_words w fs)).skips i ∙ rw (readable, granted, skips-now)

    -- THE VERSION MOVED AWAY from what a filter carries: the attribute is reported, even if that filter agreed when the request was taken
    pub reported-now : (d : VersionFilter) (n : ℕ) → n < length fs → on (cluster_row w (attribute_row w i).index_of_cluster).endpoint (cluster_row w (attribute_row w i).index_of_cluster).cluster (get_or fs n d) ≡ true → ((get_or fs n d).version ≡ get_or v.versions (attribute_row w i).index_of_cluster 0 → ⊥) → read_item w g (view_of w v defaults edits g (filter_words w fs)).skips i ≡ Value i
    unfolding skips_by
    reported-now d n h o k =
        judged-now ∙ rw (disagrees endpoint cluster version d fs n h o k, and-false (some endpoint cluster fs))

    -- THE VERSION MOVED to what all its filters carry: the attribute is skipped, even if none agreed when the request was taken
    pub skipped-now : some (cluster_row w (attribute_row w i).index_of_cluster).endpoint (cluster_row w (attribute_row w i).index_of_cluster).cluster fs ≡ true → agree (cluster_row w (attribute_row w i).index_of_cluster).endpoint (cluster_row w (attribute_row w i).index_of_cluster).cluster (get_or v.versions (attribute_row w i).index_of_cluster 0) fs ≡ true → read_item w g (view_of w v defaults edits g (filter_words w fs)).skips i ≡ Nothing
    unfolding skips_by
    skipped-now s a = judged-now ∙ rw (s, a)
