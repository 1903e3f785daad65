-- DEMAND 3, proved: the statements stand in specs/Claims.antt.
use mathlib.Core.Path.{◌≡◌, refl, sym, ◌∙◌, ap, subst}
use mathlib.Core.Logic.{inl}
use mathlib.Core.Bool.{false}
use mathlib.Core.List.{Memᴰ}
use Prim.Native.Nat.{ℕ, ◌^◌, ◌<◌}
use native.Mathlib.Omega.{arith}
use lib.Dec.{T, eqb→eq}
use Rattle.proof_protocol.specs.Model.{ConcretePath, Entry, Node, Cluster, Part, Cache, System, start, awaited, receive, CoherentIn}
use Rattle.proof_protocol.specs.Steps.{Run, then, Reach, join, Visits, Passes, NoneBegun}
use Rattle.proof_protocol.specs.Claims.{Exact, FirstHalf, Taking, Making, Ending, Once, ReadsEnd, Stays, Settles, Settled, SecondHalf}
use Rattle.proof_protocol.proofs.VersionLaws.{wrap-inj}
use Rattle.proof_protocol.proofs.SmallLaws.{T_true}
use Rattle.proof_protocol.proofs.Invariant.{version_after}
use Rattle.proof_protocol.proofs.CacheLaws.{coherent-then, awaited-is, last_taken}
use Rattle.proof_protocol.proofs.Inductive.{reach-inv}
use Rattle.proof_protocol.proofs.RunLaws.{visits-grow, visits-same, visits-reach, passes-visits, Source, Birth, trail}
use Rattle.proof_protocol.proofs.ProgressLaws.{none-begun-keeps, read-ends}
use Rattle.proof_protocol.proofs.ArriveLaws.{completes}
use Rattle.proof_protocol.proofs.OnceLaws.{taking-once, making-once, ending-once, taking-first, join-on, passes_on, Cut, cut}

module _ {Value : Type 0} (node : Node Value) {s : System Value} (run : Reach node s) where
  counted : (u : System Value) → Visits run u → (c : ℕ) → (u.clusters c).version ≡ version_after node c (u.clusters c).changes
  counted u v c = (reach-inv node (visits-reach node run u v)).clusters c

  -- the state that an entry comes from had its version
  source-version : (e : Entry Value) (k : Source node run e) (c version : ℕ) → e.place.cluster ≡ c → e.version ≡ version → (k.at.clusters c).version ≡ version
  source-version e k c version ec ev = ap (λ (c : ℕ). (k.at.clusters c).version) (sym ec) ∙ sym (ap (λ (d : Entry Value). d.version) k.is) ∙ ev

  -- and, with fewer than 2^32 changes, its value is what any state with that version had
  source-value : (e : Entry Value) (k : Source node run e) (c : ℕ) → (s.clusters c).changes < 2 ^ 32 → e.place.cluster ≡ c
      → (u : System Value) → Visits run u → (u.clusters c).version ≡ e.version → e.value ≡ (u.clusters c).values e.place.attribute
  source-value e k c few ec u v z =
      ap (λ (d : Entry Value). d.value) k.is ∙ ap (λ (c : ℕ). (k.at.clusters c).values e.place.attribute) ec
      ∙ ap (λ (d : Cluster Value). d.values e.place.attribute) (visits-same node run k.at u k.visits v c same)
    where
      same : (k.at.clusters c).changes ≡ (u.clusters c).changes
      same =
          wrap-inj (node.first_version c) (k.at.clusters c).changes (u.clusters c).changes
          (omega (arith, (visits-grow node run k.at k.visits).rise c)) (omega (arith, (visits-grow node run u v).rise c))
          (sym (counted k.at k.visits c) ∙ source-version e k c e.version ec refl ∙ sym z ∙ counted u v c)

pub first-half : FirstHalf
first-half Value node s run cluster version few w = (held w.some, λ u v z. exact u v z)
  where
    held : (e : Entry Value) × Memᴰ e s.cache.entries × (e.place.cluster ≡ cluster) → (u : System Value) × Visits run u × ((u.clusters cluster).version ≡ version)
    held t =
        let k : Source node run t.0 = (trail node run).entries t.0 t.1 in
        (k.at, k.visits, source-version node run t.0 k cluster version t.2 (w.same t.0 t.1 t.2))

    exact : (u : System Value) → Visits run u → (u.clusters cluster).version ≡ version → Exact node cluster version (u.clusters cluster).values s.cache.entries
    exact u v z =
        record {
          only = λ e i ec. ((reach-inv node run).cache.on e i, w.same e i ec, source-value node run e ((trail node run).entries e i) cluster few ec u v (z ∙ sym (w.same e i ec)));
          all = λ p i pc. (reach-inv node run).cache.full w.primed-is p i;
        }

pub progress : ReadsEnd
progress =
    record {
      ends = λ Value node s t reach reading run none-begun arrived. read-ends node reach reading run none-begun arrived;
      bound = λ Value node s reach m i. ((reach-inv node reach).parts m i).few;
      possible = λ Value node s reach filters f. completes node reach filters f;
    }

module _ {Value : Type 0} (node : Node Value) (s : System Value) (run : Reach node s) (m : Part Value) (i : Memᴰ m s.parts) (t : T (awaited s.cache m)) (e : m.more ≡ false) where
  settles : (p : ConcretePath) → Memᴰ p node.readable → m.since p.cluster ≡ m.made p.cluster
      → CoherentIn (receive s m).cache p.cluster (version_after node p.cluster (m.since p.cluster))
  unfolding receive
  settles p j q =
      rw (T_true (awaited s.cache m) t)
      (coherent-then node s m (reach-inv node run) i (awaited-is s.cache m t).0 (awaited-is s.cache m t).1 (awaited-is s.cache m t).2 e p j q)

-- a cluster that did not change between the taking and the making, by the part's own counts; and its version
module _ {Value : Type 0} (node : Node Value) {s : System Value} (run : Reach node s) (m : Part Value) (b : Birth node run m) (c : ℕ) (q : (b.taking.at.clusters c).changes ≡ (b.making.at.clusters c).changes) where
  birth-made : m.made c ≡ (b.making.at.clusters c).changes
  birth-made = ap (λ (f : ℕ → ℕ). f c) b.made

  birth-still : m.since c ≡ m.made c
  birth-still = ap (λ (f : ℕ → ℕ). f c) b.since ∙ q ∙ sym birth-made

  birth-version : version_after node c (m.since c) ≡ (b.making.at.clusters c).version
  birth-version =
      ap (λ (n : ℕ). version_after node c n) (birth-still ∙ birth-made)
      ∙ sym ((reach-inv node (visits-reach node run b.making.at (passes-visits node run b.making.at b.making.next b.making.passes))).clusters c)

pub settled : Settled
settled Value node s run m i t e = (b.taking, b.making, λ p j q u on none-begun. go p j q u on none-begun)
  where
    b : Birth node run m
    b = (trail node run).parts m i

    go : (p : ConcretePath) → Memᴰ p node.readable → (b.taking.at.clusters p.cluster).changes ≡ (b.making.at.clusters p.cluster).changes
        → Stays node (receive s m) p.cluster (b.making.at.clusters p.cluster).version
    go p j q u on none-begun =
        subst (λ (c : Cache Value). CoherentIn c p.cluster (b.making.at.clusters p.cluster).version) (sym (none-begun-keeps node on none-begun (last_taken s m t e).0))
        (subst (λ (n : ℕ). CoherentIn (receive s m).cache p.cluster n) (birth-version node run m b p.cluster q)
        (settles node s run m i t e p j (birth-still node run m b p.cluster q)))

-- the read ends, and what its last part settles; the steps of the run up to there are steps of it
pub second-half : SecondHalf
second-half Value node s t reach reading run none-begun arrived = (k, (taking, making, λ p j q. subst (λ (x : System Value). Stays node x p.cluster (z.1.at.clusters p.cluster).version) (sym k.taken) (z.2 p j q)))
  where
    k : Ending run
    k = read-ends node reach reading run none-begun arrived

    c : Cut node run k.at k.next
    c = cut node run k.at k.next k.passes

    z : Settles node (join reach c.before) k.part (receive k.at k.part)
    z = settled Value node k.at (join reach c.before) k.part k.sent k.wanted k.last

    early : (u w : System Value) → Passes (join reach c.before) u w → Passes (join reach run) u w
    early u w x =
        subst (λ (r : Run node s t). Passes (join reach r) u w) (sym c.whole)
        (subst (λ (r : Run node (start node) t). Passes r u w) (sym (join-on node reach (then c.before c.step) c.rest)) (passes_on node (then (join reach c.before) c.step) c.rest u w (inl x)))

    taking : Taking (join reach run) k.part.exchange
    taking = record { at = z.0.at; next = z.0.next; passes = early z.0.at z.0.next z.0.passes; before = z.0.before; after = z.0.after }

    making : Making (join reach run) k.part
    making = record { at = z.1.at; next = z.1.next; passes = early z.1.at z.1.next z.1.passes; before = z.1.before; after = z.1.after }

pub once : Once
once =
    record {
      taking = λ Value node s t run x k l. taking-once node run x k l;
      making = λ Value node s t run m k l. making-once node run m k l;
      ending = λ Value node s t run k l. ending-once node run k l;
      order = λ Value node s run m k l. taking-first node run m k l;
    }
