-- The structural rules of a plan (RULES 2.1 to 2.7, 2.11), over the decoded rows. (Limits, first values and factory texts are judged above this crate.)
use Rattle.std.specs.Prelude.{◌≡◌, ℕ, suc, ◌+◌, ◌^◌, ◌<◌, ◌≤◌, Bool, true, false, cond, ◌||◌, ◌⊎◌, List, [], ◌∷◌, map, length, get_or, ◌==◌, slice_index_or}
use Rattle.base_bounds.specs.Bounds.{endpoint_limit, cluster_limit, attribute_limit, version_limit}
use Rattle.node_schema.specs.Layout.{text_limit, cluster_count_word, attribute_count_word, spare_column, spare_count, text_kind, administer}
use Rattle.node_schema.specs.Rows.{word, ClusterRow, AttributeRow, attribute_row, clusters, attributes, is_text}
use Rattle.node_schema.specs.Check.{one, count_of_texts}

-- P holds of each element
abbrev pub Each : {A : Type 0} → (A → Type 0) → List A → Type 0
Each P [] = Unit
Each P (x ∷ l) = P x × Each P l

-- R holds between each element and every later one
abbrev pub Rising : {A : Type 0} → (A → A → Type 0) → List A → Type 0
Rising R [] = Unit
Rising R (x ∷ l) = Each (R x) l × Rising R l

unfoldable pub member : ℕ → List ℕ → Bool
member x [] = false
member x (y ∷ l) = x == y || member x l

-- how many different numbers a list has: one counts where no later one is the same
unfoldable pub different : List ℕ → ℕ
different [] = 0
different (x ∷ l) = cond (member x l) (different l) (suc (different l))

-- the path of an attribute
pub record AttributePath : Type 0 where
  pub endpoint : ℕ
  pub cluster : ℕ
  pub attribute : ℕ

abbrev pub path : ℕ → ℕ → ℕ → AttributePath
path e c a = record { endpoint = e; cluster = c; attribute = a }

-- the row of a cluster that is not there
abbrev pub no_cluster : ClusterRow
no_cluster = record { endpoint = 0; cluster = 0; version = 0 }

abbrev pub cluster_of : List ClusterRow → AttributeRow → ClusterRow
cluster_of cs a = slice_index_or cs a.index_of_cluster no_cluster

abbrev pub path_of : List ClusterRow → AttributeRow → AttributePath
path_of cs a = path (cluster_of cs a).endpoint (cluster_of cs a).cluster a.id

-- the path of attribute i
abbrev pub path_at : List ℕ → ℕ → AttributePath
path_at w i = path_of (clusters w) (attribute_row w i)

-- the schema's attributes by their paths
abbrev pub paths : List ℕ → List AttributePath
paths w = map (path_of (clusters w)) (attributes w)

-- the order of RULES 2.2: by endpoint, then cluster
abbrev pub ClusterBefore : ClusterRow → ClusterRow → Type 0
ClusterBefore r s = (r.endpoint < s.endpoint) ⊎ ((r.endpoint ≡ s.endpoint) × (r.cluster < s.cluster))

-- by endpoint, then cluster, then attribute
abbrev pub PathBefore : AttributePath → AttributePath → Type 0
PathBefore p q =
    (p.endpoint < q.endpoint)
    ⊎ ((p.endpoint ≡ q.endpoint) × ((p.cluster < q.cluster) ⊎ ((p.cluster ≡ q.cluster) × (p.attribute < q.attribute))))

pub record ClusterRules (r : ClusterRow) : Type 0 where
  -- RULES 2.4
  pub endpoint : r.endpoint < 2 ^ 16
  pub cluster : r.cluster < 2 ^ 32
  -- RULES 2.5
  pub version : r.version < version_limit

-- n is the number of clusters
pub record AttributeRules (n : ℕ) (a : AttributeRow) : Type 0 where
  -- its cluster is one of the schema's
  pub cluster : a.index_of_cluster < n
  -- RULES 2.4
  pub id : a.id < 2 ^ 32
  -- RULES 2.6
  pub kind : a.kind ≤ text_kind
  -- RULES 2.7
  pub nullable : a.nullable ≤ 1
  -- RULES 2.11 and 2.12: the privilege that each use needs, 0 where it is not allowed
  pub read : a.read ≤ administer
  pub write : a.write ≤ administer

-- the first word of each text is its rank, how many texts stand before it (k of them before the list): its place in the edited page goes by that
abbrev pub Ranked : ℕ → List AttributeRow → Type 0
Ranked k [] = Unit
Ranked k (a ∷ l) = (is_text a ≡ true → a.first ≡ k) × Ranked (k + one (is_text a)) l

pub record Rules (w : List ℕ) : Type 0 where
  -- RULES 2.1
  pub endpoint_number : different (map (λ r. r.endpoint) (clusters w)) ≤ endpoint_limit
  pub cluster_number : get_or w cluster_count_word 0 ≤ cluster_limit
  pub attribute_number : get_or w attribute_count_word 0 ≤ attribute_limit
  -- RULES 2.2 and 2.3
  pub cluster_order : Rising ClusterBefore (clusters w)
  pub path_order : Rising PathBefore (paths w)
  pub cluster_rules : Each ClusterRules (clusters w)
  pub attribute_rules : Each (AttributeRules (length (clusters w))) (attributes w)
  pub ranks : Ranked 0 (attributes w)
  pub text_number : count_of_texts w ≤ text_limit
  -- the words for later use
  pub spare : (i : ℕ) → i < spare_count → word w spare_column i ≡ 0
