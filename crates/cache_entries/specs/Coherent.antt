-- When a cluster is whole (RULES 7.11). Whole is called coherent here, filled primed.
use Rattle.std.specs.Prelude.{◌≡◌, Bool, true, ◌&&◌, List, [], ◌∷◌, ℕ, zero, suc, ◌+◌, ◌/◌, ◌≤◌, ◌<◌, eqb, ltb, get_or, Some, None, Option}
use Rattle.tlv_reader.specs.Octet.{pick}
use Rattle.cache_entries.specs.declared.Cached.{Cached}
use Rattle.cache_entries.specs.Limits.{half, no_version}

-- the versions of the entries of the cluster that stands at k, of the n entries from i on
unfoldable pub versions_from : List ℕ → List ℕ → ℕ → ℕ → ℕ → List ℕ
versions_from keys versions k zero i = []
versions_from keys versions k (suc n) i =
    pick (eqb (get_or keys i 0 / half) k) (get_or versions i 0 ∷ versions_from keys versions k n (i + 1)) (versions_from keys versions k n (i + 1))

abbrev pub versions_of : Cached → ℕ → List ℕ
versions_of c k = versions_from c.keys c.versions k c.count 0

-- each of them is v
unfoldable pub all_are : ℕ → List ℕ → Bool
all_are v [] = true
all_are v (x ∷ l) = eqb x v && all_are v l

-- one version, which all share; an entry may have none
abbrev pub shared : List ℕ → Option ℕ
shared [] = None
shared (v ∷ l) = pick (ltb v no_version && all_are v l) (Some v) None

-- the version at which the cluster that stands at k is coherent, if it is
unfoldable pub coherent_at : Cached → ℕ → Option ℕ
coherent_at c k = pick c.primed (shared (versions_of c k)) None

-- ---- THE SAME IN WORDS, of the n entries from i on

-- entry i is one of the cluster that stands at k
abbrev pub Of : Cached → ℕ → ℕ → Type 0
Of c k i = get_or c.keys i 0 / half ≡ k

-- one of them at least is
abbrev pub Any : Cached → ℕ → ℕ → ℕ → Type 0
Any c k n i = (j : ℕ) × (i ≤ j) × (j < n + i) × Of c k j

-- all of them that are have version v
abbrev pub All : Cached → ℕ → ℕ → ℕ → ℕ → Type 0
All c k v n i = (j : ℕ) → i ≤ j → j < n + i → Of c k j → get_or c.versions j 0 ≡ v

-- ---- AS THE CODE HAS IT: what the versions of a cluster come to, in one word

-- of no version seen, and of versions that differ, or of one that is none
abbrev pub unseen : ℕ
unseen = no_version + 1

-- one version more
unfoldable pub joined : ℕ → ℕ → ℕ
joined so v = pick (eqb so unseen) v (pick (eqb so v) so no_version)

unfoldable pub joined_all : ℕ → List ℕ → ℕ
joined_all so [] = so
joined_all so (v ∷ l) = joined_all (joined so v) l

-- the version that a word says
abbrev pub shared_in : ℕ → Option ℕ
shared_in so = pick (ltb so no_version) (Some so) None
