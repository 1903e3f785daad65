-- What a run passes through: what was held, where each part was made, and where each entry comes from.
use mathlib.Core.Path.{◌≡◌, refl, sym, ◌∙◌, ap, subst}
use mathlib.Core.Logic.{◌⊎◌, inl, inr}
use mathlib.Core.Bool.{true, true≢false}
use mathlib.Core.List.Memᴰ
use mathlib.Core.List.{List, Memᴰ}
use Prim.Native.Nat.{ℕ, suc}
use native.Mathlib.Omega.{arith}
use Rattle.proof_protocol.specs.Model.{ConcretePath, Entry, Filter, Node, Cluster, Part, ServedExchange, System, reported, entry_at, changes_of, skips, part_of, send, send_again, close, store_all, written, begin_read, begin_write, accept, awaited, receive}
use Rattle.proof_protocol.specs.Steps.{Step, alters, begins_read, begins_write, serves, receives, Run, none, then, Reach, Visits, Passes}
use Rattle.proof_protocol.specs.Claims.{Taking, Making}
use Rattle.proof_protocol.proofs.SmallLaws.{by_cond, all_cons, all_append, all_map, set_all}
use Rattle.proof_protocol.proofs.ChangeLaws.{More, Grown, still, grown-on, stored_grows}
use Rattle.proof_protocol.proofs.ServeLaws.{Fits, new-fits, next_fits}
use Rattle.proof_protocol.proofs.Inductive.{reach-inv}
use Rattle.proof_protocol.proofs.OpenLaws.{Served, served, begin, next, again, storing, shuts, silent}

module _ {Value : Type 0} where
  served-grows : (node : Node Value) {s t : System Value} → Served node s t → Grown s.clusters t.clusters
  unfolding send send_again written store_all close
  served-grows node {s} (begin x filters n l i) = still s.clusters
  served-grows node {s} (next x n e i g) = still s.clusters
  served-grows node {s} again = still s.clusters
  served-grows node {s} (storing x stores l i) = stored_grows s.clusters stores
  served-grows node {s} (shuts x t i) = still s.clusters
  served-grows node {s} silent = still s.clusters

  step-grows : (node : Node Value) {s t : System Value} → Step node s t → Grown s.clusters t.clusters
  unfolding store_all begin_read begin_write receive accept
  step-grows node {s} (alters stores) = stored_grows s.clusters stores
  step-grows node {s} (begins_read filters f) = still s.clusters
  step-grows node {s} begins_write = still s.clusters
  step-grows node {s} (serves m n stores i) = served-grows node (served node s m n stores i)
  step-grows node {s} (receives m i) =
      by_cond (λ (t : System Value). Grown s.clusters t.clusters) (awaited s.cache m) (λ t. still s.clusters) (λ t. still s.clusters)

  pub visits-grow : (node : Node Value) {s t : System Value} (run : Run node s t) (u : System Value) → Visits run u → Grown u.clusters t.clusters
  visits-grow node {s} none u e = subst (λ (x : System Value). Grown x.clusters s.clusters) (sym e) (still s.clusters)
  visits-grow node {s} {t} (then {t = t'} run p) u v = go (visits-grow node run u) v
    where
      go : (Visits run u → Grown u.clusters t'.clusters) → Visits run u ⊎ (u ≡ t) → Grown u.clusters t.clusters
      go r (inl a) = grown-on u.clusters t'.clusters t.clusters (r a) (step-grows node p)
      go r (inr e) = subst (λ (x : System Value). Grown x.clusters t.clusters) (sym e) (still t.clusters)

  -- in two states of a run a cluster with as many changes is the same
  pub visits-same : (node : Node Value) {s t : System Value} (run : Run node s t) (u w : System Value) → Visits run u → Visits run w
      → (c : ℕ) → (u.clusters c).changes ≡ (w.clusters c).changes → u.clusters c ≡ w.clusters c
  visits-same node {s} none u w e f c q = ap (λ (x : System Value). x.clusters c) (e ∙ sym f)
  visits-same node {s} {t} (then run p) u w v v' c q = go (λ a b. visits-same node run u w a b c q) v v'
    where
      end : (x y : System Value) → Grown x.clusters t.clusters → y ≡ t → (x.clusters c).changes ≡ (y.clusters c).changes → x.clusters c ≡ y.clusters c
      end x y g e d = g.same c (d ∙ ap (λ (z : System Value). (z.clusters c).changes) e) ∙ ap (λ (z : System Value). z.clusters c) (sym e)

      go : (Visits run u → Visits run w → u.clusters c ≡ w.clusters c) → Visits run u ⊎ (u ≡ t) → Visits run w ⊎ (w ≡ t) → u.clusters c ≡ w.clusters c
      go r (inl a) (inl b) = r a b
      go r (inl a) (inr f) = end u w (visits-grow node (then run p) u (inl a)) f q
      go r (inr e) b = sym (end w u (visits-grow node (then run p) w b) e (sym q))

  pub visits-reach : (node : Node Value) {s : System Value} (run : Reach node s) (u : System Value) → Visits run u → Reach node u
  visits-reach node none u e = subst (λ (x : System Value). Reach node x) (sym e) none
  visits-reach node {s} (then run p) u v = go (λ a. visits-reach node run u a) v
    where
      go : (Visits run u → Reach node u) → Visits run u ⊎ (u ≡ s) → Reach node u
      go r (inl a) = r a
      go r (inr e) = subst (λ (x : System Value). Reach node x) (sym e) (then run p)

  visits-end : (node : Node Value) {s t : System Value} (run : Run node s t) → Visits run t
  visits-end node none = refl
  visits-end node (then run p) = inr refl

  pub visits-start : (node : Node Value) {s t : System Value} (run : Run node s t) → Visits run s
  visits-start node none = refl
  visits-start node (then run p) = inl (visits-start node run)

  pub passes-visits : (node : Node Value) {s t : System Value} (run : Run node s t) (u w : System Value) → Passes run u w → Visits run u
  passes-visits node none u w x = absurd x
  passes-visits node {s} {t} (then {t = t'} run p) u w x = go (passes-visits node run u w) x
    where
      go : (Passes run u w → Visits run u) → Passes run u w ⊎ ((u ≡ t') × (w ≡ t)) → Visits run u ⊎ (u ≡ t)
      go r (inl a) = inl (r a)
      go r (inr a) = inl (subst (λ (x : System Value). Visits run x) (sym a.0) (visits-end node run))

  -- the entry is what a state of the run held
  pub record Source (node : Node Value) {s : System Value} (run : Reach node s) (e : Entry Value) : Type 0 where
    pub at : System Value
    pub visits : Visits run at
    pub is : e ≡ entry_at at.clusters e.place

  -- where the part was made, and its request taken
  pub record Birth (node : Node Value) {s : System Value} (run : Reach node s) (m : Part Value) : Type 0 where
    pub taking : Taking run m.exchange
    pub making : Making run m
    pub since : m.since ≡ changes_of taking.at.clusters
    pub made : m.made ≡ changes_of making.at.clusters
    pub shows : (e : Entry Value) → Memᴰ e m.entries → e ≡ entry_at making.at.clusters e.place

  pub record Trail (node : Node Value) {s : System Value} (run : Reach node s) : Type 0 where
    pub parts : (m : Part Value) → Memᴰ m s.parts → Birth node run m
    pub row : s.row.more ≡ true → (k : Taking run s.row.exchange) × (s.row.since ≡ changes_of k.at.clusters)
    pub entries : (e : Entry Value) → Memᴰ e s.cache.entries → Source node run e

  -- what one more step leaves as it was
  module _ (node : Node Value) {s t : System Value} (run : Reach node s) (p : Step node s t) where
    abbrev later-taking : (x : ℕ) → Taking run x → Taking (then run p) x
    later-taking x k = record { at = k.at; next = k.next; passes = inl k.passes; before = k.before; after = k.after }

    later-birth : (m : Part Value) → Birth node run m → Birth node (then run p) m
    later-birth m k =
        record {
          taking = later-taking m.exchange k.taking;
          making = record { at = k.making.at; next = k.making.next; passes = inl k.making.passes; before = k.making.before; after = k.making.after };
          since = k.since;
          made = k.made;
          shows = k.shows;
        }

    later-source : (e : Entry Value) → Source node run e → Source node (then run p) e
    later-source e k = record { at = k.at; visits = inl k.visits; is = k.is }

    -- a step that makes no part and takes no request
    idle : More t.parts s.parts → t.row ≡ s.row → ((e : Entry Value) → Memᴰ e t.cache.entries → Source node (then run p) e) → Trail node run → Trail node (then run p)
    idle g e f h =
        record {
          parts = λ m i. later-birth m (h.parts m (g m i));
          row = subst (λ (z : ServedExchange Value). z.more ≡ true → (k : Taking (then run p) z.exchange) × (z.since ≡ changes_of k.at.clusters)) (sym e)
              (λ q. (later-taking s.row.exchange (h.row q).0, (h.row q).1));
          entries = f;
        }

  makes : (node : Node Value) {s : System Value} (run : Reach node s) (m : Part Value) (p : Step node s (send s m)) (k : Taking (then run p) m.exchange)
      → m.since ≡ changes_of k.at.clusters → m.made ≡ changes_of s.clusters → ((e : Entry Value) → Memᴰ e m.entries → e ≡ entry_at s.clusters e.place)
      → (Memᴰ m s.parts → ⊥) → Trail node run → Trail node (then run p)
  unfolding send
  makes node {s} run m p k a b w unsent h =
      record {
        parts =
            all_cons (Birth node (then run p))
            record { taking = k; making = record { at = s; next = send s m; passes = inr (refl, refl); before = unsent; after = Memᴰ.head refl }; since = a; made = b; shows = w }
            (λ m' i. later-birth node run p m' (h.parts m' i));
        row = λ q. (k, a);
        entries = λ e i. later-source node run p e (h.entries e i);
      }

  -- a part shows what is held when it is made
  part-shows : (clusters : ℕ → Cluster Value) (x k : ℕ) (l : List ConcretePath) (filters : List Filter) (since : ℕ → ℕ) (n : ℕ) (e : Entry Value)
      → Memᴰ e (part_of clusters x k l filters since n).entries → e ≡ entry_at clusters e.place
  unfolding part_of
  part-shows clusters x k l filters since n = all_map (λ (e : Entry Value). e ≡ entry_at clusters e.place) (entry_at clusters) (reported (skips filters clusters) n l) (λ w. refl)

  -- a part that fits was not sent before
  fits-new : (node : Node Value) (s : System Value) (m : Part Value) → Fits node s m → Memᴰ m s.parts → ⊥
  fits-new node s m f i = absurd (omega (arith, f.before m i refl))

  trail-served : (node : Node Value) {s t : System Value} (run : Reach node s) (p : Step node s t) → Served node s t → Trail node run → Trail node (then run p)
  unfolding send send_again written store_all close part_of
  trail-served node {s} run p (begin x filters n l i) h =
      makes node run _ p record { at = s; next = _; passes = inr (refl, refl); before = l; after = refl } refl refl
      (part-shows s.clusters x 1 node.readable filters (changes_of s.clusters) n)
      (fits-new node s _ (new-fits node s x filters n (reach-inv node run) i l)) h
  trail-served node {s} run p (next x n e i g) h =
      let k : (t : Taking run x) × (s.row.since ≡ changes_of t.at.clusters) = rw e (h.row g) in
      makes node run _ p (later-taking node run p x k.0) k.1 refl
      (part-shows s.clusters x (suc s.row.turn) s.row.ahead s.row.filters s.row.since n)
      (fits-new node s _ (next_fits node s x n (reach-inv node run) e g)) h
  trail-served node {s} run p again h =
      idle node run p (all_append (λ (m : Part Value). Memᴰ m s.parts) s.row.kept (reach-inv node run).row.kept (λ m i. i)) refl
      (λ e i. later-source node run p e (h.entries e i)) h
  trail-served node {s} run p (storing x stores l i) h =
      record {
        parts = λ m j. later-birth node run p m (h.parts m j);
        row = λ q. absurd (true≢false (sym q));
        entries = λ e j. later-source node run p e (h.entries e j);
      }
  trail-served node {s} run p (shuts x t i) h =
      record {
        parts = λ m j. later-birth node run p m (h.parts m j);
        row = λ q. (later-taking node run p s.row.exchange (h.row q).0, (h.row q).1);
        entries = λ e j. later-source node run p e (h.entries e j);
      }
  trail-served node {s} run p silent h = idle node run p (λ m i. i) refl (λ e i. later-source node run p e (h.entries e i)) h

  trail-receive : (node : Node Value) {s : System Value} (run : Reach node s) (m : Part Value) → Memᴰ m s.parts → (p : Step node s (receive s m)) → Trail node run → Trail node (then run p)
  unfolding receive accept
  trail-receive node {s} run m i p h =
      idle node run p (by_cond (λ (t : System Value). More t.parts s.parts) (awaited s.cache m) (λ t q j. j) (λ t q j. j))
      (by_cond (λ (t : System Value). t.row ≡ s.row) (awaited s.cache m) (λ t. refl) (λ t. refl))
      (by_cond (λ (t : System Value). (e : Entry Value) → Memᴰ e t.cache.entries → Source node (then run p) e) (awaited s.cache m)
      (λ t. set_all (Source node (then run p)) m.entries s.cache.entries
      (λ e j. record { at = b.making.at; visits = inl (passes-visits node run b.making.at b.making.next b.making.passes); is = b.shows e j })
      old)
      (λ t. old))
      h
    where
      b : Birth node run m
      b = h.parts m i

      old : (e : Entry Value) → Memᴰ e s.cache.entries → Source node (then run p) e
      old e j = later-source node run p e (h.entries e j)

  trail-step : (node : Node Value) {s t : System Value} (run : Reach node s) (p : Step node s t) → Trail node run → Trail node (then run p)
  unfolding store_all begin_read begin_write
  trail-step node run (alters stores) h = idle node run (alters stores) (λ m i. i) refl (λ e i. later-source node run (alters stores) e (h.entries e i)) h
  trail-step node run (begins_read filters f) h = idle node run (begins_read filters f) (λ m i. i) refl (λ e i. later-source node run (begins_read filters f) e (h.entries e i)) h
  trail-step node run begins_write h = idle node run begins_write (λ m i. i) refl (λ e i. later-source node run begins_write e (h.entries e i)) h
  trail-step node {s} run (serves m n stores i) h = trail-served node run (serves m n stores i) (served node s m n stores i) h
  trail-step node run (receives m i) h = trail-receive node run m i (receives m i) h

  pub trail : (node : Node Value) {s : System Value} (run : Reach node s) → Trail node run
  trail node none = record { parts = λ m i. absurd (Memᴰ.not-nil i); row = λ q. absurd (true≢false (sym q)); entries = λ e i. absurd (Memᴰ.not-nil i) }
  trail node (then run p) = trail-step node run p (trail node run)
