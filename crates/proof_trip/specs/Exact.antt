-- The filters of a read (RULES 7.3), said of the list of filters: each is for a whole cluster, they rise, none is missing.
use Rattle.std.specs.Prelude.{◌≡◌, List, [], ◌∷◌, ℕ, ◌+◌, ◌≤◌, ◌<◌, get_or, Some}
use Rattle.im_requests.specs.declared.VersionFilter.{VersionFilter}
use Rattle.cache_entries.specs.declared.Cached.{Cached}
use Rattle.cache_entries.specs.Entries.{cluster_word}
use Rattle.cache_entries.specs.Coherent.{coherent_at}
use Rattle.cache_messages.specs.Filters.{version_filter_as}

-- a filter for a cluster that the cache has entries of, at the version at which it is coherent
pub record FilterOf (c : Cached) (f : VersionFilter) : Type 0 where
  pub place : ℕ
  pub version : ℕ
  pub there : place < c.cluster_count
  pub coherent : coherent_at c place ≡ Some version
  pub same : f ≡ version_filter_as (get_or c.clusters place 0) version

-- a filter's cluster on its endpoint, as one number
abbrev pub word_of : VersionFilter → ℕ
word_of f = cluster_word f.endpoint f.cluster

-- each above the one before it, and none below the bound
unfoldable pub Rising : ℕ → List VersionFilter → Type 0
Rising bound [] = Unit {0}
Rising bound (f ∷ l) = (bound ≤ word_of f) × Rising (word_of f + 1) l

-- no cluster twice
abbrev pub Distinct : Cached → Type 0
Distinct c = (j k : ℕ) → j < c.cluster_count → k < c.cluster_count → get_or c.clusters j 0 ≡ get_or c.clusters k 0 → j ≡ k
