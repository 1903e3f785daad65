-- A read can always begin: the filters computed from the cache are exactly those for its coherent clusters.
use mathlib.Core.Path.{◌≡◌, refl, sym, ◌∙◌, subst}
use mathlib.Core.Bool.{Bool, true, false, cond, not, ◌||◌}
use mathlib.Core.List.Memᴰ
use mathlib.Core.List.{List, [], ◌∷◌, Memᴰ}
use Prim.Native.Nat.{ℕ}
use lib.Dec.{T, eqb, eqb→eq, eqb_refl}
use Rattle.proof_protocol.specs.Model.{Entry, Filter, Cache, every, CoherentIn, FiltersFor}
use Rattle.proof_protocol.proofs.SmallLaws.{by_cond, T_true, all_cons, or-not, every-mem}

every_of {ℓ} : {A : Type ℓ} (f : A → Bool) (l : List A) → ((x : A) → Memᴰ x l → T (f x)) → T (every f l)
every_of f [] h = tt
every_of f (x ∷ l) h = rw (T_true (f x) (h x (Memᴰ.head refl))) (every_of f l (λ y i. h y (Memᴰ.tail i)))

or-of : (a b : Bool) → (T a → T b) → T (not a || b)
or-of true b h = h tt
or-of false b h = tt

module _ {Value : Type 0} where
  -- the entries of the cluster all have this version
  abbrev pub alike : List (Entry Value) → ℕ → ℕ → Bool
  alike l c v = every (λ (d : Entry Value). not (eqb d.place.cluster c) || eqb d.version v) l

  -- a filter for each entry whose cluster is at one version
  unfoldable pub coherents : List (Entry Value) → List (Entry Value) → List Filter
  coherents l [] = []
  coherents l (e ∷ es) = cond (alike l e.place.cluster e.version) (record { cluster = e.place.cluster; version = e.version } ∷ coherents l es) (coherents l es)

  -- the filters that the cache may send
  unfoldable pub filters_of : Cache Value → List Filter
  filters_of c = cond c.primed (coherents c.entries c.entries) []

  one_of : (l : List (Entry Value)) (c v : ℕ) → ((e : Entry Value) → Memᴰ e l → e.place.cluster ≡ c → e.version ≡ v) → T (alike l c v)
  one_of l c v h = every_of (λ (d : Entry Value). not (eqb d.place.cluster c) || eqb d.version v) l (λ d i. or-of (eqb d.place.cluster c) (eqb d.version v) (λ t. rw (h d i (eqb→eq d.place.cluster c t)) (eqb_refl v)))

  coherents-only : (l es : List (Entry Value)) → ((e : Entry Value) → Memᴰ e es → Memᴰ e l) → (f : Filter) → Memᴰ f (coherents l es)
      → T (alike l f.cluster f.version) × ((e : Entry Value) × Memᴰ e l × (e.place.cluster ≡ f.cluster))
  unfolding coherents
  coherents-only l [] g = λ f i. absurd (Memᴰ.not-nil i)
  coherents-only l (e ∷ es) g =
      let below = coherents-only l es (λ d i. g d (Memᴰ.tail i)) in
      by_cond (λ (filters : List Filter). (f : Filter) → Memᴰ f filters → T (alike l f.cluster f.version) × ((e : Entry Value) × Memᴰ e l × (e.place.cluster ≡ f.cluster)))
      (alike l e.place.cluster e.version)
      (λ t. all_cons (λ (f : Filter). T (alike l f.cluster f.version) × ((e : Entry Value) × Memᴰ e l × (e.place.cluster ≡ f.cluster))) (t, (e, g e (Memᴰ.head refl), refl)) below)
      (λ t. below)

  coherents-all : (l es : List (Entry Value)) (e : Entry Value) → Memᴰ e es → T (alike l e.place.cluster e.version) → Memᴰ (record { cluster = e.place.cluster; version = e.version }) (coherents l es)
  unfolding coherents
  coherents-all l [] e i t = absurd (Memᴰ.not-nil i)
  coherents-all l (d ∷ es) e (Memᴰ.head q) t = subst (λ (d : Entry Value). Memᴰ (record { cluster = e.place.cluster; version = e.version }) (coherents l (d ∷ es))) q (rw (T_true (alike l e.place.cluster e.version) t) (Memᴰ.head refl))
  coherents-all l (d ∷ es) e (Memᴰ.tail i) t =
      by_cond (λ (filters : List Filter). Memᴰ (record { cluster = e.place.cluster; version = e.version }) filters) (alike l d.place.cluster d.version) (λ u. Memᴰ.tail (coherents-all l es e i t)) (λ u. coherents-all l es e i t)

  pub filters-are : (c : Cache Value) → FiltersFor c (filters_of c)
  unfolding filters_of
  filters-are c = record { only = only; all = all }
    where
      only : (f : Filter) → Memᴰ f (filters_of c) → CoherentIn c f.cluster f.version
      only f i = go c.primed refl i
        where
          go : (b : Bool) → c.primed ≡ b → Memᴰ f (cond b (coherents c.entries c.entries) []) → CoherentIn c f.cluster f.version
          go false e j = absurd (Memᴰ.not-nil j)
          go true e j =
              let w = coherents-only c.entries c.entries (λ e i. i) f j in
              record { primed-is = e; same = λ d k q. eqb→eq d.version f.version (or-not (eqb d.place.cluster f.cluster) (eqb d.version f.version) (every-mem _ c.entries w.0 d k) (rw q (eqb_refl f.cluster))); some = w.1 }

      all : (a v : ℕ) → CoherentIn c a v → Memᴰ (record { cluster = a; version = v }) (filters_of c)
      all a v w =
          rw w.primed-is
          (subst (λ (f : Filter). Memᴰ f (coherents c.entries c.entries)) (λ i. record { cluster = ec i; version = ev i })
          (coherents-all c.entries c.entries d w.some.1 (one_of c.entries d.place.cluster d.version (λ e i q. w.same e i (q ∙ ec) ∙ sym ev))))
        where
          d : Entry Value
          d = w.some.0

          ec : d.place.cluster ≡ a
          ec = w.some.2

          ev : d.version ≡ v
          ev = w.same d w.some.1 ec
