-- Cluster paths and data version filters (chapter 10, 10.5.7 and 10.5.3).
use Rattle.std.specs.Prelude.{ℕ, ◌-◌, List, [], ◌∷◌, Bool, true, false, get_or, ltb, eqb, Some, None, Option}
use Rattle.tlv_reader.specs.Octet.{pick, structure, list}
use Rattle.tlv_reader.specs.Tree.{Tree}
use Rattle.tlv_reader.specs.Walk.{Got, bind_g}
use Rattle.tlv_reader.specs.Decode.{bind_o, place}
use Rattle.tlv_reader.specs.declared.Element.{Element}
use Rattle.im_members.specs.Pass.{frame_on}
use Rattle.im_members.specs.Fields.{Slot, inside_at, inside_t}
use Rattle.im_members.specs.Fields.Slot.{absent}
use Rattle.im_members.specs.Scalar.{ABSENT, WRONG, number_in, wide_in, number_t, wide_t}
use Rattle.im_members.specs.Array.{required_in, required_t}
use Rattle.im_blocks.specs.declared.ClusterPath.{ClusterPath}
use Rattle.im_blocks.specs.declared.Filter.{Filter}
use Rattle.im_blocks.specs.Path.{checked}

-- endpoint and cluster are required in a filter's path
unfoldable pub sound_cluster : ClusterPath → Bool
sound_cluster p = pick (eqb p.node WRONG) false (pick (ltb p.endpoint ABSENT) (ltb p.cluster ABSENT) false)

abbrev pub cluster_tags : List Bool
cluster_tags = true ∷ true ∷ true ∷ false ∷ false ∷ false ∷ false ∷ false ∷ false ∷ false ∷ []

abbrev pub cluster_with : {A : Type 0} → (A → ℕ) → (ℕ → Bool → A → ℕ) → (ℕ → A) → ClusterPath
cluster_with wide number at = record {
  node = wide (at 0);
  endpoint = number 65535 false (at 1);
  cluster = number 4294967295 false (at 2);
}

unfoldable pub cluster_from : List ℕ → List ℕ → Option ClusterPath
cluster_from s seen = checked sound_cluster (cluster_with (wide_in s) (λ m b p. number_in m b s p) (λ i. get_or seen i 0))

unfoldable pub cluster_at : ℕ → List ℕ → ℕ → Got ClusterPath
cluster_at d s at = bind_g (inside_at list d s cluster_tags at) (λ seen n. place (cluster_from s seen) n)

unfoldable pub cluster_on : ℕ → List ℕ → Element → Got ClusterPath
cluster_on d s e = frame_on list d s cluster_tags (cluster_from s) e

unfoldable pub cluster_of : List Slot → Option ClusterPath
cluster_of xs = checked sound_cluster (cluster_with wide_t number_t (λ i. get_or xs i absent))

unfoldable pub cluster_t : Tree → Option ClusterPath
cluster_t t = bind_o (inside_t list cluster_tags t) cluster_of

-- a structure with tags 0 and 1
abbrev pub pair_tags : List Bool
pair_tags = true ∷ true ∷ false ∷ false ∷ false ∷ false ∷ false ∷ false ∷ false ∷ false ∷ []

abbrev pub filter_of : ClusterPath → ℕ → Option Filter
filter_of p v = pick (ltb v ABSENT) (Some (record { path = p; version = v })) None

-- path and version are required
abbrev pub filter_with : {A : Type 0} → (A → Option ClusterPath) → (ℕ → Bool → A → ℕ) → (ℕ → A) → Option Filter
filter_with path number at = bind_o (path (at 0)) (λ p. filter_of p (number 4294967295 false (at 1)))

unfoldable pub filter_from : ℕ → List ℕ → List ℕ → Option Filter
filter_from d s seen = filter_with (required_in (cluster_at d s)) (λ m b p. number_in m b s p) (λ i. get_or seen i 0)

unfoldable pub filter_at : ℕ → List ℕ → ℕ → Got Filter
filter_at d s at = bind_g (inside_at structure d s pair_tags at) (λ seen n. place (filter_from (d - 1) s seen) n)

unfoldable pub filter_on : ℕ → List ℕ → Element → Got Filter
filter_on d s e = frame_on structure d s pair_tags (filter_from (d - 1) s) e

unfoldable pub filter_slots : List Slot → Option Filter
filter_slots xs = filter_with (required_t cluster_t) number_t (λ i. get_or xs i absent)

unfoldable pub filter_t : Tree → Option Filter
filter_t t = bind_o (inside_t structure pair_tags t) filter_slots
