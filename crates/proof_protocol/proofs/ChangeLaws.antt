-- Changes keep the invariant, and whatever is said of what was held before.
use mathlib.Core.Path.{◌≡◌, refl, ◌∙◌}
use mathlib.Core.List.{List, [], ◌∷◌, Memᴰ}
use Prim.Native.Nat.{ℕ, ◌≤◌}
use native.Mathlib.Omega.{arith}
use Rattle.proof_protocol.specs.Model.{Node, Cluster, Message, Part, ServedExchange, Cache, System, Store, update, changed, stored_in, store_all}
use Rattle.proof_protocol.proofs.VersionLaws.{counts-on}
use Rattle.proof_protocol.proofs.SmallLaws.{update_all}
use Rattle.proof_protocol.proofs.Invariant.{version_after, Counted, PartOk, RowOk, Reading, CacheOk, Inv, fresh, behind}

abbrev pub More {ℓ} : {A : Type ℓ} → List A → List A → Type ℓ
More {A} xs ys = (x : A) → Memᴰ x xs → Memᴰ x ys

module _ {Value : Type 0} where
  -- a cluster's changes only rise, and with as many it is the same
  pub record Grown (old new : ℕ → Cluster Value) : Type 0 where
    pub rise : (c : ℕ) → (old c).changes ≤ (new c).changes
    pub same : (c : ℕ) → (old c).changes ≡ (new c).changes → old c ≡ new c

  pub still : (clusters : ℕ → Cluster Value) → Grown clusters clusters
  still clusters = record { rise = λ c. omega arith; same = λ c e. refl }

  pub grown-on : (x y z : ℕ → Cluster Value) → Grown x y → Grown y z → Grown x z
  grown-on x y z g h =
      record {
        rise = λ c. omega (arith, g.rise c, h.rise c);
        same = λ c e. g.same c (omega (arith, g.rise c, h.rise c)) ∙ h.same c (omega (arith, g.rise c, h.rise c));
      }

  pub changed-grows : (clusters : ℕ → Cluster Value) (c a : ℕ) (w : Value) → Grown clusters (update clusters c (changed (clusters c) a w))
  changed-grows clusters c a w =
      record {
        rise = update_all (λ (d : ℕ) (u : Cluster Value). (clusters d).changes ≤ u.changes) clusters c new (omega arith) (λ d. omega arith);
        same = update_all (λ (d : ℕ) (u : Cluster Value). (clusters d).changes ≡ u.changes → clusters d ≡ u) clusters c new (λ e. absurd (omega arith)) (λ d e. refl);
      }
    where
      new : Cluster Value
      new = changed (clusters c) a w

  pub stored_grows : (clusters : ℕ → Cluster Value) (stores : List (Store Value)) → Grown clusters (stored_in clusters stores)
  unfolding stored_in
  stored_grows clusters [] = still clusters
  stored_grows clusters (k ∷ stores) = grown-on clusters _ _ (changed-grows clusters k.cluster k.attribute k.value) (stored_grows (update clusters k.cluster (changed (clusters k.cluster) k.attribute k.value)) stores)

  stored-counts : (node : Node Value) (clusters : ℕ → Cluster Value) (stores : List (Store Value)) → Counted node clusters → Counted node (stored_in clusters stores)
  unfolding stored_in
  stored-counts node clusters [] h = h
  stored-counts node clusters (k ∷ stores) h =
      stored-counts node (update clusters k.cluster (changed (clusters k.cluster) k.attribute k.value)) stores
      (update_all (λ (d : ℕ) (u : Cluster Value). u.version ≡ version_after node d u.changes) clusters k.cluster (changed (clusters k.cluster) k.attribute k.value)
      (rw (h k.cluster) (counts-on (node.first_version k.cluster) (clusters k.cluster).changes)) h)

  module _ (node : Node Value) {clusters clusters' : ℕ → Cluster Value} (g : Grown clusters clusters') where
    pub part-grows : {us us' : List Message} → More us us' → (m : Part Value) → PartOk node clusters us m → PartOk node clusters' us' m
    part-grows u m h =
        record {
          on = h.on;
          versions = h.versions;
          cover = h.cover;
          last = h.last;
          rise = h.rise;
          now = λ c. omega (arith, h.now c, g.rise c);
          first = h.first;
          asked = u _ h.asked;
          short = h.short;
          turn = h.turn;
          few = h.few;
        }

    pub row-grows : {us us' : List Message} {ps ps' : List (Part Value)} → More us us' → More ps ps' → (s : ServedExchange Value) → RowOk node clusters us ps s → RowOk node clusters' us' ps' s
    row-grows u p s h =
        record {
          ahead = h.ahead;
          asked = λ e. u _ (h.asked e);
          size = h.size;
          turn = h.turn;
          some = h.some;
          rise = λ c. omega (arith, h.rise c, g.rise c);
          kept = λ m i. p m (h.kept m i);
        }

    at-grows : {ps ps' : List (Part Value)} → More ps ps' → (c : Cache Value) → Reading node ps c → Reading node ps' c
    at-grows p c (fresh z e) = fresh z e
    at-grows p c (behind m k x n l v w) = behind m (p m k) x n l v w

    pub cache-grows : {us : List Message} {ps ps' : List (Part Value)} → More ps ps' → (c : Cache Value) → CacheOk node clusters us ps c → CacheOk node clusters' us ps' c
    cache-grows p c h =
        record { on = h.on; full = h.full; bare = h.bare; ids = h.ids; own = h.own; at = λ e. at-grows p c (h.at e) }

  pub stores-keep : (node : Node Value) (s : System Value) (stores : List (Store Value)) → Inv node s → Inv node (store_all s stores)
  unfolding store_all
  stores-keep node s stores h =
      record {
        clusters = stored-counts node s.clusters stores h.clusters;
        parts = λ m k. part-grows node g (λ u i. i) m (h.parts m k);
        sent = h.sent;
        chain = h.chain;
        row = row-grows node g (λ u i. i) (λ m i. i) s.row h.row;
        cache = cache-grows node g (λ m i. i) s.cache h.cache;
      }
    where
      g : Grown s.clusters (stored_in s.clusters stores)
      g = stored_grows s.clusters stores
