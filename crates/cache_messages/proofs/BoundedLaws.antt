-- A cache that keeps the rules has what a read asks of it.
use mathlib.Core.Path.{◌≡◌}
use mathlib.Core.Bool.{true}
use mathlib.Core.List.{List}
use Prim.Native.Nat.{ℕ}
use Rattle.cache_entries.specs.declared.Cached.{Cached}
use Rattle.cache_entries.specs.Valid.{held_right}
use Rattle.cache_entries.proofs.ValidLaws.{held-right, key_below_lem, version-right}
use Rattle.cache_messages.specs.Filters.{Bounded}

pub right-bounded : (page : List ℕ) (c : Cached) → held_right page c ≡ true → Bounded c.clusters c.keys c.versions c.order c.cluster_count c.count
right-bounded page c h =
    let r = held-right page c h in
    record {
      few-entries = r.few-entries;
      few-clusters = r.few-clusters;
      cluster-order = r.cluster-order;
      keys_below = λ i l. key_below_lem c r.entries i l;
      versions-right = λ i l. version-right c r.entries i l;
    }
