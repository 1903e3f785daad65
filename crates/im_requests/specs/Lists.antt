-- The kinds of member that a request has a list of: each is read by its place as by its head, and a list of them is read member by member.
use mathlib.Core.Path.{◌≡◌, refl}
use mathlib.Core.List.{List, []}
use Prim.Native.Nat.{ℕ}
use lib.ListN.{length}
use Rattle.tlv_reader.specs.Octet.{array}
use Rattle.tlv_reader.specs.Walk.{fold_at}
use Rattle.im_members.specs.Array.{each_step}
use Rattle.im_members.proofs.PassLaws.{Reads, then-reads}
use Rattle.im_blocks.proofs.OnLaws.{path-reads, filter-reads, data_reads}
use Rattle.im_requests.specs.Message.{snoc}
use Rattle.im_requests.specs.Read.{asked_of, asked_at, asked_on, paths_from, paths_at, version_filter_if, version_filter_at, version_filter_on, version_filters_from, version_filters_at}
use Rattle.im_requests.specs.Write.{entry_if, entry_at, entry_on, entries_from, entries_at}

module _ (d : ℕ) (s : List ℕ) where
  pub asked-reads : Reads d s (asked_at d s) (asked_on d s)
  unfolding asked_at asked_on
  asked-reads = then-reads d s asked_of (path-reads d s)

  pub version-filter-reads : Reads d s (version_filter_at d s) (version_filter_on d s)
  unfolding version_filter_at version_filter_on
  version-filter-reads = then-reads d s version_filter_if (filter-reads d s)

  pub entry-reads : Reads d s (entry_at d s) (entry_on d s)
  unfolding entry_at entry_on
  entry-reads = then-reads d s entry_if (data_reads d s)

  pub paths-listed : (at : ℕ) → paths_at d s at ≡ fold_at (each_step snoc (asked_at d s)) (length s) s array [] at
  unfolding paths_at paths_from
  paths-listed at = refl

  pub version-filters-listed : (at : ℕ) → version_filters_at d s at ≡ fold_at (each_step snoc (version_filter_at d s)) (length s) s array [] at
  unfolding version_filters_at version_filters_from
  version-filters-listed at = refl

  pub entries-listed : (at : ℕ) → entries_at d s at ≡ fold_at (each_step snoc (entry_at d s)) (length s) s array [] at
  unfolding entries_at entries_from
  entries-listed at = refl
