-- The cache's steps keep the invariant; what is coherent when a last part is taken.
use mathlib.Core.Path.{◌≡◌, refl, sym, ◌∙◌, ap, subst}
use mathlib.Core.Logic.{◌⊎◌, inl, inr}
use mathlib.Core.Bool.{Bool, true, false, cond, not, ◌||◌, true≢false}
use mathlib.Core.List.Memᴰ
use mathlib.Core.List.{List, [], ◌∷◌, Memᴰ}
use Prim.Native.Nat.{ℕ, suc, ◌≤◌}
use native.Mathlib.Omega.{arith}
use lib.Dec.{T, eqb→eq}
use Rattle.proof_protocol.specs.Model.{ConcretePath, Entry, Filter, Node, Message, read, write, success, failure, Part, Cache, System, exchange_of, set_entries, begin_read, begin_write, accept, awaited, receive, CoherentIn, FiltersFor}
use Rattle.proof_protocol.proofs.SmallLaws.{by_cond, and_l, and_r, T_true, all_cons, Has, Origin, origin, set_keeps, set-has, set_all, given, stood}
use Rattle.proof_protocol.proofs.Invariant.{Mine, version_after, Skipped, Gone, PartOk, Follows, Holding, Vouched, Reading, Inv, told, waits, passed, fresh, behind}
use Rattle.proof_protocol.proofs.ChangeLaws.{More, still, part-grows, row-grows}

-- a message of a new exchange
abbrev fresh-own : (ex : ℕ) (filters : List Filter) (u : Message) → exchange_of u ≤ ex → Mine (suc ex) filters u
fresh-own ex filters (read x gs) l = λ e. absurd (omega arith)
fresh-own ex filters (write x) l = tt
fresh-own ex filters (success x k) l = tt
fresh-own ex filters (failure x k) l = tt

or-false : (a : Bool) → a || false ≡ true → a ≡ true
or-false true e = refl
or-false false e = e

module _ {Value : Type 0} where
  pub read_keeps : (node : Node Value) (s : System Value) (filters : List Filter) → FiltersFor s.cache filters → Inv node s → Inv node (begin_read s filters)
  unfolding begin_read
  read_keeps node s filters w h =
      record {
        clusters = h.clusters;
        parts = λ m i. part-grows node (still s.clusters) (λ u j. Memᴰ.tail j) m (h.parts m i);
        sent = h.sent;
        chain = h.chain;
        row = row-grows node (still s.clusters) (λ u j. Memᴰ.tail j) (λ m i. i) s.row h.row;
        cache =
            record {
              on = h.cache.on;
              full = h.cache.full;
              bare = λ f i. (w.only f i).primed-is;
              ids = all_cons (λ (u : Message). exchange_of u ≤ suc s.cache.exchange) (omega arith) (λ u i. omega (arith, h.cache.ids u i));
              own = all_cons (Mine (suc s.cache.exchange) filters) (λ e. refl) (λ u i. fresh-own s.cache.exchange filters u (h.cache.ids u i));
              at = λ e. fresh refl record { only = w.only; all = w.all };
            };
      }

  pub write_keeps : (node : Node Value) (s : System Value) → Inv node s → Inv node (begin_write s)
  unfolding begin_write
  write_keeps node s h =
      record {
        clusters = h.clusters;
        parts = λ m i. part-grows node (still s.clusters) (λ u j. Memᴰ.tail j) m (h.parts m i);
        sent = h.sent;
        chain = h.chain;
        row = row-grows node (still s.clusters) (λ u j. Memᴰ.tail j) (λ m i. i) s.row h.row;
        cache =
            record {
              on = h.cache.on;
              full = h.cache.full;
              bare = λ f i. absurd (Memᴰ.not-nil i);
              ids = all_cons (λ (u : Message). exchange_of u ≤ suc s.cache.exchange) (omega arith) (λ u i. omega (arith, h.cache.ids u i));
              own = all_cons (Mine (suc s.cache.exchange) []) tt (λ u i. fresh-own s.cache.exchange [] u (h.cache.ids u i));
              at = λ e. absurd (true≢false (sym e));
            };
      }

  -- what the cache has when the part m is the one it awaits
  record Pre (node : Node Value) (c : Cache Value) (m : Part Value) : Type 0 where
    cover : (w : ConcretePath) → Memᴰ w node.readable → Memᴰ w m.before ⊎ Holding node m c.entries w
    vouch : Vouched node m c.filters c.entries

  module _ (node : Node Value) (s : System Value) (m : Part Value) (h : Inv node s) (i : Memᴰ m s.parts) (ex : m.exchange ≡ s.cache.exchange) (ek : m.turn ≡ s.cache.next) (er : s.cache.reading ≡ true) where
    pre : Pre node s.cache m
    pre = go (h.cache.at er)
      where
        go : Reading node s.parts s.cache → Pre node s.cache m
        go (fresh z v) = record { cover = λ w j. inl (rw ((h.parts m i).first (ek ∙ z)) j); vouch = λ f j q e k d. inl ((v.only f j).same e k d) }
        go (behind m₀ j x n g cov v) =
            record {
              cover = λ w k. carry w (cov w k);
              vouch = λ f k q e l d. also f (v f k (stood f.cluster q) e l d);
            }
          where
            F : Follows m₀ m
            F = h.chain m₀ j m i (x ∙ sym ex) (ek ∙ n)

            same : (c : ℕ) → m.since c ≡ m₀.since c
            same c = ap (λ (f : ℕ → ℕ). f c) F.since

            stood : (c : ℕ) → m.since c ≡ m.made c → m₀.since c ≡ m₀.made c
            stood c q = omega (arith, same c, F.rise c, (h.parts m₀ j).rise c)

            carry : (w : ConcretePath) → Memᴰ w m₀.after ⊎ Holding node m₀ s.cache.entries w → Memᴰ w m.before ⊎ Holding node m s.cache.entries w
            carry w (inl a) = inl (rw F.on a)
            carry w (inr b) = inr (record { has = b.has; version = λ q e k p. b.version (stood w.cluster q) e k p ∙ ap (version_after node w.cluster) (sym (same w.cluster)) })

            also : (f : Filter) {e : ℕ} → (e ≡ f.version) ⊎ (e ≡ version_after node f.cluster (m₀.since f.cluster)) → (e ≡ f.version) ⊎ (e ≡ version_after node f.cluster (m.since f.cluster))
            also f (inl a) = inl a
            also f (inr a) = inr (a ∙ ap (version_after node f.cluster) (sym (same f.cluster)))

    p : PartOk node s.clusters s.messages m
    p = h.parts m i

    entries' : List (Entry Value)
    entries' = set_entries m.entries s.cache.entries

    filters-same : m.filters ≡ s.cache.filters
    filters-same = h.cache.own (read m.exchange m.filters) (h.parts m i).asked ex

    new-ver : (c : ℕ) → m.since c ≡ m.made c → (e : Entry Value) → Memᴰ e m.entries → e.place.cluster ≡ c → e.version ≡ version_after node c (m.since c)
    new-ver c q e j d = subst (λ (c : ℕ). e.version ≡ version_after node c (m.made c)) d ((h.parts m i).versions e j) ∙ ap (version_after node c) (sym q)

    keep : (w : ConcretePath) → Holding node m s.cache.entries w → Holding node m entries' w
    unfolding entries'
    keep w g =
        record {
          has = set_keeps m.entries s.cache.entries w g.has;
          version = λ q e j d. go q e d (origin m.entries s.cache.entries e j);
        }
      where
        go : m.since w.cluster ≡ m.made w.cluster → (e : Entry Value) → e.place ≡ w → Origin m.entries s.cache.entries e → e.version ≡ version_after node w.cluster (m.since w.cluster)
        go q e d (given j) = new-ver w.cluster q e j (ap (λ (v : ConcretePath). v.cluster) d)
        go q e d (stood j n) = g.version q e j d

    tell : (w : ConcretePath) → Has w m.entries → Holding node m entries' w
    unfolding entries'
    tell w g =
        record {
          has = set-has m.entries s.cache.entries w g;
          version = λ q e j d. go q e d (origin m.entries s.cache.entries e j);
        }
      where
        go : m.since w.cluster ≡ m.made w.cluster → (e : Entry Value) → e.place ≡ w → Origin m.entries s.cache.entries e → e.version ≡ version_after node w.cluster (m.since w.cluster)
        go q e d (given j) = new-ver w.cluster q e j (ap (λ (v : ConcretePath). v.cluster) d)
        go q e d (stood j n) = absurd (n (g.0, g.1, g.2 ∙ sym d))

    pass : (w : ConcretePath) → Memᴰ w node.readable → Skipped node m.filters m.made w → Holding node m entries' w
    unfolding entries'
    pass w k g =
        record {
          has = set_keeps m.entries s.cache.entries w (h.cache.full (h.cache.bare f mem) w k);
          version = λ q e j d. go q e d (origin m.entries s.cache.entries e j);
        }
      where
        f : Filter
        f = g.some.0

        mem : Memᴰ f s.cache.filters
        mem = rw filters-same at g.some.1

        fc : f.cluster ≡ w.cluster
        fc = g.some.2

        one : m.since w.cluster ≡ m.made w.cluster → (v : ℕ) → (v ≡ f.version) ⊎ (v ≡ version_after node f.cluster (m.since f.cluster)) → v ≡ version_after node w.cluster (m.since w.cluster)
        one q v (inl a) = a ∙ g.all f g.some.1 fc ∙ ap (version_after node w.cluster) (sym q)
        one q v (inr a) = a ∙ ap (λ (c : ℕ). version_after node c (m.since c)) fc

        go : m.since w.cluster ≡ m.made w.cluster → (e : Entry Value) → e.place ≡ w → Origin m.entries s.cache.entries e → e.version ≡ version_after node w.cluster (m.since w.cluster)
        go q e d (given j) = new-ver w.cluster q e j (ap (λ (v : ConcretePath). v.cluster) d)
        go q e d (stood j n) = one q e.version (pre.vouch f mem (rw fc q) e j (ap (λ (v : ConcretePath). v.cluster) d ∙ sym fc))

    covered : (w : ConcretePath) → Memᴰ w node.readable → Memᴰ w m.after ⊎ Holding node m entries' w
    covered w k = go (pre.cover w k)
      where
        gone : Gone node m w → Memᴰ w m.after ⊎ Holding node m entries' w
        gone (told g) = inr (tell w g)
        gone (waits j) = inl j
        gone (passed g) = inr (pass w k g)

        go : Memᴰ w m.before ⊎ Holding node m s.cache.entries w → Memᴰ w m.after ⊎ Holding node m entries' w
        go (inl j) = gone ((h.parts m i).cover w j)
        go (inr g) = inr (keep w g)

    all-got : m.more ≡ false → (w : ConcretePath) → Memᴰ w node.readable → Holding node m entries' w
    all-got e w k = go (covered w k)
      where
        go : Memᴰ w m.after ⊎ Holding node m entries' w → Holding node m entries' w
        go (inl j) = pass w k ((h.parts m i).last e w j)
        go (inr g) = g

    vouched : Vouched node m s.cache.filters entries'
    unfolding entries'
    vouched f j q e k d = go (origin m.entries s.cache.entries e k)
      where
        go : Origin m.entries s.cache.entries e → (e.version ≡ f.version) ⊎ (e.version ≡ version_after node f.cluster (m.since f.cluster))
        go (given l) = inr (new-ver f.cluster q e l d)
        go (stood l n) = pre.vouch f j q e l d

    on' : (e : Entry Value) → Memᴰ e entries' → Memᴰ e.place node.readable
    unfolding entries'
    on' = set_all (λ (e : Entry Value). Memᴰ e.place node.readable) m.entries s.cache.entries (h.parts m i).on h.cache.on

    full' : (b : Bool) → m.more ≡ b → s.cache.primed || not b ≡ true → (w : ConcretePath) → Memᴰ w node.readable → Has w entries'
    unfolding entries'
    full' true e q w k = set_keeps m.entries s.cache.entries w (h.cache.full (or-false s.cache.primed q) w k)
    full' false e q w k = (all-got e w k).has

    abbrev us : List Message
    us = (accept s m).messages

    more-us : More s.messages us
    unfolding accept
    more-us u j = by_cond (λ (us : List Message). Memᴰ u us) m.more (λ t. Memᴰ.tail j) (λ t. j)

    pub accept-keeps : Inv node (accept s m)
    unfolding accept entries'
    accept-keeps =
        record {
          clusters = h.clusters;
          parts = λ m i. part-grows node (still s.clusters) more-us m (h.parts m i);
          sent = h.sent;
          chain = h.chain;
          row = row-grows node (still s.clusters) more-us (λ m i. i) s.row h.row;
          cache =
              record {
                on = on';
                full = full' m.more refl;
                bare = λ f j. rw (h.cache.bare f j);
                ids = by_cond (λ (us : List Message). (u : Message) → Memᴰ u us → exchange_of u ≤ s.cache.exchange) m.more (λ t. all_cons (λ (u : Message). exchange_of u ≤ s.cache.exchange) (omega arith) h.cache.ids) (λ t. h.cache.ids);
                own = by_cond (λ (us : List Message). (u : Message) → Memᴰ u us → Mine s.cache.exchange s.cache.filters u) m.more (λ t. all_cons (Mine s.cache.exchange s.cache.filters) tt h.cache.own) (λ t. h.cache.own);
                at = λ e. behind m i ex refl e covered vouched;
              };
        }

    -- what is coherent when a last part is taken
    pub coherent-then : m.more ≡ false → (w : ConcretePath) → Memᴰ w node.readable → m.since w.cluster ≡ m.made w.cluster → CoherentIn (accept s m).cache w.cluster (version_after node w.cluster (m.since w.cluster))
    unfolding accept entries'
    coherent-then e w k q =
        record {
          primed-is = rw e (or-true s.cache.primed);
          same = λ d j c. subst (λ (c : ℕ). d.version ≡ version_after node c (m.since c)) c ((all-got e d.place (on' d j)).version (rw c q) d j refl);
          some = let g = (all-got e w k).has in (g.0, g.1, ap (λ (v : ConcretePath). v.cluster) g.2);
        }
      where
        or-true : (a : Bool) → a || true ≡ true
        or-true true = refl
        or-true false = refl

  pub receive-keeps : (node : Node Value) (s : System Value) (m : Part Value) → Memᴰ m s.parts → Inv node s → Inv node (receive s m)
  unfolding receive
  receive-keeps node s m i h = by_cond (Inv node) (awaited s.cache m) (λ t. accept-keeps node s m h i (search (and_l, and_r, eqb→eq)) (search (and_l, and_r, eqb→eq)) (search (and_r, T_true))) (λ t. h)

  -- THE PART AWAITED
  pub awaited-is : (c : Cache Value) (m : Part Value) → T (awaited c m) → (m.exchange ≡ c.exchange) × (m.turn ≡ c.next) × (c.reading ≡ true)
  awaited-is c m t = (search (and_l, and_r, eqb→eq), search (and_l, and_r, eqb→eq), search (and_r, T_true))

  -- after the last one the read is over
  pub last_taken : (s : System Value) (m : Part Value) → T (awaited s.cache m) → m.more ≡ false → ((receive s m).cache.reading ≡ false) × ((receive s m).cache.exchange ≡ m.exchange)
  unfolding receive accept
  last_taken s m t e = rw (T_true (awaited s.cache m) t) (e, sym (awaited-is s.cache m t).0)
