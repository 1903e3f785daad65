-- THE FIRST HALF: what the cache calls whole is what the server held.
use Rattle.std.specs.Prelude.{Some, None, Option}
use mathlib.Core.Path.{◌≡◌, refl, sym, ap, ◌∙◌}
use mathlib.Core.List.{List, Memᴰ}
use Prim.Native.Nat.{ℕ, ◌^◌, ◌<◌}
use native.Mathlib.Omega.{arith}
use lib.ListN.{get_or}
use Rattle.tlv_reader.specs.Value.{Datum}
use Rattle.node_schema.specs.Rows.{cluster_row, attribute_row, count_of_clusters}
use Rattle.node_schema.specs.Rules.{AttributePath, path, path_at}
use Rattle.node_schema.specs.Find.{find_cluster}
use Rattle.server_values.specs.Values.{datum_at, version_at}
use Rattle.cache_entries.specs.Entries as cached
use Rattle.cache_entries.specs.Entries.{cluster_word, lookup}
use Rattle.cache_ask.specs.Ask.{coherent_of, entry_said, says_entry}
use Rattle.proof_protocol.specs.Model as model
use Rattle.proof_protocol.specs.Model.{ConcretePath, System, CoherentIn}
use Rattle.proof_protocol.specs.Steps as steps
use Rattle.proof_protocol.specs.Claims.{Exact}
use Rattle.proof_protocol.proofs.Main as protocol
use Rattle.proof_protocol.proofs.Inductive.{reach-inv}
use Rattle.proof_refinement.specs.Terms.{place_at}
use Rattle.proof_refinement.specs.Cache.{Found}
use Rattle.proof_promises.specs.World.{Plan, World, Start, granted}
use Rattle.proof_promises.specs.Runs.{Reach, Visits}
use Rattle.proof_promises.specs.Claims.{FirstHalf, version_of, shown, entry_for}
use Rattle.proof_cache_steps.proofs.CoherentLaws.{coherent-as, coherent-row}
use Rattle.proof_promises.proofs.ReadableLaws.{readable-is, readable-has}
use Rattle.proof_promises.specs.Follows.{Stands, node, Follows}
use Rattle.proof_promises.proofs.StepLaws.{rules, stands-fresh}
use Rattle.proof_promises.proofs.RunLaws.{follow}
use Rattle.proof_promises.proofs.AskLaws.{whole-coherent, says-held, row-found, version-at, changes-at, of-cluster, Sees, value, none, sees}

pub just-same : {A : Type 0} (x y : A) → Some x ≡ Some y → x ≡ y
just-same x y h = cc

pub nothing-just : {A : Type 0} (x : A) → None ≡ Some x → ⊥
nothing-just x h = let z : ◌≡◌ {A = ℕ} 0 1 = cc in omega (arith, z)

nothing-or : {A : Type 0} (o : Option A) → ((x : A) → o ≡ Some x → ⊥) → o ≡ None
nothing-or None f = refl
nothing-or (Some x) f = absurd (f x refl)

module _ (p : Plan) (b : Start p) where
  abbrev w : List ℕ
  w = p.words

  -- a run of the ends from fresh, and the run of the protocol that it follows
  pub from-fresh : {u : World} (run : Reach p b u) → Follows p b run (model.start (node p b))
  from-fresh run = follow p b run (model.start (node p b)) (stands-fresh p b) steps.none

  -- the cache and the server agree on one path
  module _ (u : World) (s : System Datum) (hu : Stands p u s) (reach : steps.Reach (node p b) s) (x : World) (t : System Datum) (hx : Stands p x t) (k e c v : ℕ) (row : find_cluster w e c ≡ Some k) (fe : e < 2 ^ 16) (fc : c < 2 ^ 32)
      (version : version_of p x e c ≡ Some v) (exact : Exact (node p b) k v (t.clusters k).values s.cache.entries) where
    held-version : get_or x.server.values.versions k 0 ≡ v
    held-version = just-same _ _ (sym (version-at p (rules p b) k e c row x) ∙ version)

    agree : (a : ℕ) → a < 2 ^ 32 → lookup u.cache.held u.page e c a ≡ entry_for (shown p x e c a)
    agree a fa = go (sees p (rules p b) x e c a)
      where
        go : Sees p (rules p b) x e c a → lookup u.cache.held u.page e c a ≡ entry_for (shown p x e c a)
        go (value i l q may is) = there ∙ same ∙ sym is
          where
            cluster : (attribute_row w i).index_of_cluster ≡ k
            cluster = of-cluster p (rules p b) k e c row i a l q

            had : (d : model.Entry Datum) × Memᴰ d s.cache.entries × (d.place ≡ place_at w i)
            had = exact.all (place_at w i) (readable-has w (granted p) i l may) cluster

            d : model.Entry Datum
            d = had.0

            row_is : d.place.attribute ≡ i
            row_is = ap (λ (z : ConcretePath). z.attribute) had.2

            only : (Memᴰ d.place (node p b).readable) × (d.version ≡ v) × (d.value ≡ (t.clusters k).values d.place.attribute)
            only = exact.only d had.1 (ap (λ (z : ConcretePath). z.cluster) had.2 ∙ cluster)

            there : lookup u.cache.held u.page e c a ≡ Some (record { version = d.version; value = d.value })
            there =
                let z : path_at w d.place.attribute ≡ path e c a = ap (path_at w) row_is ∙ q in
                (λ j. lookup u.cache.held u.page (sym (ap (λ (y : AttributePath). y.endpoint) z) j) (sym (ap (λ (y : AttributePath). y.cluster) z) j) (sym (ap (λ (y : AttributePath). y.attribute) z) j)) ∙ hu.cache.held.has d had.1

            holds : d.value ≡ datum_at w p.defaults x.server.edits x.server.values i
            holds = only.2 ∙ ap (λ (n : ℕ). (t.clusters k).values n) row_is ∙ ap (λ (n : ℕ). (t.clusters n).values i) (sym cluster) ∙ hx.server.held.values i l

            dated : d.version ≡ version_at w x.server.values i
            dated = only.1 ∙ sym held-version ∙ ap (λ (n : ℕ). get_or x.server.values.versions n 0) (sym cluster)

            same : ◌≡◌ {A = Option cached.CacheEntry} (Some (record { version = d.version; value = d.value })) (Some (record { version = version_at w x.server.values i; value = datum_at w p.defaults x.server.edits x.server.values i }))
            same j = Some (record { version = dated j; value = holds j })
        go (none is never) = nothing-or (lookup u.cache.held u.page e c a) no ∙ sym is
          where
            no : (y : cached.CacheEntry) → lookup u.cache.held u.page e c a ≡ Some y → ⊥
            no y h =
                let f : Found w s.cache.entries e c a y = hu.cache.held.only e c a fe fc fa y h in
                let d = f.entry in
                let listed = readable-is w (granted p) d.place ((reach-inv (node p b) reach).cache.on d f.there) in
                never d.place.attribute (hu.cache.held.right d f.there).row f.same listed.allowed

pub first-half : FirstHalf
first-half p b u run e c v fe fc few whole = (held, exactly)
  where
    f : Follows p b run (model.start (node p b))
    f = from-fresh p b run

    s : System Datum
    s = f.end

    coherent : coherent_of u.cache.held (cluster_word e c) ≡ Some v
    coherent = whole-coherent u.page u.cache f.stands.cache.valid e c v whole

    at : (k : ℕ) × (k < count_of_clusters p.words) × ((cluster_row p.words k).endpoint ≡ e) × ((cluster_row p.words k).cluster ≡ c)
    at = coherent-row p.words (rules p b) u.requests u.page u.cache s.cache f.stands.cache e c v fe fc coherent

    k : ℕ
    k = at.0

    row : find_cluster p.words e c ≡ Some k
    row = row-found p (rules p b) k at.1 e c at.2 at.3

    is : CoherentIn s.cache k v
    is = (coherent-as p.words (rules p b) u.requests u.page u.cache s.cache f.stands.cache k at.1 v).0 ((λ j. coherent_of u.cache.held (cluster_word (at.2 j) (at.3 j))) ∙ coherent)

    changed : (s.clusters k).changes < 2 ^ 32
    changed = omega (arith, few, changes-at p (rules p b) k e c row u, f.stands.counted k at.1)

    law : ((t : System Datum) × steps.Visits f.follows t × ((t.clusters k).version ≡ v))
        × ((t : System Datum) → steps.Visits f.follows t → (t.clusters k).version ≡ v → Exact (node p b) k v (t.clusters k).values s.cache.entries)
    law = protocol.first-half Datum (node p b) s f.follows k v changed is

    held : (x : World) × Visits run x × (version_of p x e c ≡ Some v)
    held =
        let t = law.0 in
        let x = f.origin t.0 t.1 in
        (x.0, x.1, version-at p (rules p b) k e c row x.0 ∙ ap Some (sym (x.2.server.held.versions k at.1) ∙ t.2))

    -- what is held is of the server, and so has a version
    has-version : (a : ℕ) → a < 2 ^ 32 → (y : cached.CacheEntry) → lookup u.cache.held u.page e c a ≡ Some y → y.version < 2 ^ 32
    has-version a fa y h =
        let i = f.stands.cache.held.only e c a fe fc fa y h in
        omega (arith, i.version, (f.stands.cache.held.right i.entry i.there).version)

    exactly : (x : World) → Visits run x → version_of p x e c ≡ Some v → (a : ℕ) → a < 2 ^ 32 → says_entry u.page u.cache e c a ≡ entry_said (entry_for (shown p x e c a))
    exactly x i version a fa =
        let t = f.visited x i in
        let same : (t.0.clusters k).version ≡ v = t.2.server.held.versions k at.1 ∙ just-same _ _ (sym (version-at p (rules p b) k e c row x) ∙ version) in
        says-held u.page u.cache f.stands.cache.valid e c a (has-version a fa)
        ∙ ap entry_said (agree p b u s f.stands f.follows x t.0 t.2 k e c v row fe fc version (law.1 t.0 t.1 same) a fa)
