-- The server's answer to a message keeps the invariant.
use mathlib.Core.Path.{◌≡◌, refl, sym, ◌∙◌, ap}
use mathlib.Core.Bool.{Bool, true, not, ◌&&◌, ◌||◌, true≢false}
use mathlib.Core.List.Memᴰ
use mathlib.Core.List.{List, [], ◌∷◌, ◌++◌, map, Memᴰ}
use Prim.Native.Nat.{ℕ, suc, ◌+◌, ◌≤◌, ◌<◌}
use native.Mathlib.Omega.{arith}
use lib.Dec.{T, eqb, ltb, eqb→eq, eqb_refl, ltb→lt}
use lib.ListN.{length}
use Rattle.proof_protocol.specs.Model.{ConcretePath, Entry, Filter, Node, Cluster, Message, read, write, success, failure, Part, System, Store, every, any, reported, remaining, entry_at, changes_of, skips, part_of, row_after, send, send_again, close, store_all, written, starts, missed, repeated, serve}
use Rattle.proof_protocol.specs.Claims.{most_parts}
use Rattle.proof_protocol.proofs.SmallLaws.{by_cond, and_l, and_r, T_true, all_cons, all_append, all_map, T_of, not-of, or-not, every-mem, any-mem, not-not, none-mem, reported-in, remaining-in, remaining-short, Judgement, judgement, went, stays, skipped}
use Rattle.proof_protocol.proofs.Invariant.{version_after, Counted, Skipped, Gone, PartOk, Sent, Follows, Joined, Inv, told, waits, passed}
use Rattle.proof_protocol.proofs.ChangeLaws.{More, still, row-grows, cache-grows, stores-keep}

map-mem {ℓ} : {A B : Type ℓ} (f : A → B) (l : List A) (x : A) → Memᴰ x l → Memᴰ (f x) (map f l)
map-mem f [] x i = absurd (Memᴰ.not-nil i)
map-mem f (y ∷ l) x (Memᴰ.head e) = Memᴰ.head (ap f e)
map-mem f (y ∷ l) x (Memᴰ.tail i) = Memᴰ.tail (map-mem f l x i)

pub map-from {ℓ κ} : {A B : Type ℓ} (P : B → Type κ) (f : A → B) (l : List A) → ((x : A) → Memᴰ x l → P (f x)) → (y : B) → Memᴰ y (map f l) → P y
map-from P f [] h y i = absurd (Memᴰ.not-nil i)
map-from P f (x ∷ l) h y i = all_cons P (h x (Memᴰ.head refl)) (map-from P f l (λ z j. h z (Memᴰ.tail j))) y i

mem-length {ℓ} : {A : Type ℓ} (l : List A) (x : A) → Memᴰ x l → 1 ≤ length l
mem-length [] x i = absurd (Memᴰ.not-nil i)
mem-length (y ∷ l) x i = omega arith

remaining-size : (skip : ConcretePath → Bool) (n : ℕ) (l : List ConcretePath) (w : ConcretePath) → Memᴰ w (remaining skip n l) → suc (length (remaining skip n l)) ≤ length l
remaining-size skip n [] w i = absurd (Memᴰ.not-nil (remaining-in skip n [] w i))
remaining-size skip n (v ∷ l) w i = omega (arith, remaining-short skip n v l)

pub most-one : (l : List ConcretePath) → 1 ≤ most_parts l
most-one [] = omega arith
most-one (p ∷ l) = omega arith

pub most-all : (l : List ConcretePath) → length l ≤ most_parts l
most-all [] = omega arith
most-all (p ∷ l) = omega arith

module _ {Value : Type 0} where
  skips-means : (node : Node Value) (clusters : ℕ → Cluster Value) (filters : List Filter) (w : ConcretePath) → Counted node clusters → T (skips filters clusters w) → Skipped node filters (changes_of clusters) w
  unfolding skips
  skips-means node clusters filters w h t =
      record {
        some = let q = any-mem has filters (and_l (any has filters) (every fits filters) t) in (q.0, q.1, eqb→eq q.0.cluster w.cluster q.2);
        all = λ f i e. eqb→eq f.version (clusters w.cluster).version (or-not (eqb f.cluster w.cluster) (eqb f.version (clusters w.cluster).version) (every-mem fits filters (and_r (any has filters) (every fits filters) t) f i) (rw e (eqb_refl w.cluster))) ∙ h w.cluster;
      }
    where
      has : Filter → Bool
      has f = eqb f.cluster w.cluster

      fits : Filter → Bool
      fits f = not (eqb f.cluster w.cluster) || eqb f.version (clusters w.cluster).version

  pub record Fit (node : Node Value) (clusters : ℕ → Cluster Value) (messages : List Message) (x k : ℕ) (l : List ConcretePath) (filters : List Filter) (since : ℕ → ℕ) : Type 0 where
    pub on : (w : ConcretePath) → Memᴰ w l → Memᴰ w node.readable
    pub rise : (c : ℕ) → since c ≤ (clusters c).changes
    pub first : k ≡ 1 → l ≡ node.readable
    pub asked : Memᴰ (read x filters) messages
    pub size : k + length l ≤ suc (length node.readable)
    pub turn : 1 ≤ k
    pub few : k ≤ most_parts node.readable

  module _ (node : Node Value) (clusters : ℕ → Cluster Value) (messages : List Message) (x k : ℕ) (l : List ConcretePath) (filters : List Filter) (since : ℕ → ℕ) (n : ℕ) (h : Counted node clusters) (f : Fit node clusters messages x k l filters since) where
    part-size : (part_of clusters x k l filters since n).more ≡ true → (k + length (remaining (skips filters clusters) n l) ≤ length node.readable) × (1 ≤ length (remaining (skips filters clusters) n l))
    unfolding part_of
    part-size e =
        let q = any-mem (λ w. not (skips filters clusters w)) (remaining (skips filters clusters) n l) (T_of _ e) in
        let z : suc (length (remaining (skips filters clusters) n l)) ≤ length l = remaining-size (skips filters clusters) n l q.0 q.1 in
        (omega (arith, f.size), mem-length _ q.0 q.1)

    part-ok : PartOk node clusters messages (part_of clusters x k l filters since n)
    unfolding part_of
    part-ok =
        record {
          on = map-from (λ (e : Entry Value). Memᴰ e.place node.readable) (entry_at clusters) (reported skip n l) (λ w i. f.on w (reported-in skip n l w i));
          versions = all_map (λ (e : Entry Value). e.version ≡ version_after node e.place.cluster (clusters e.place.cluster).changes) (entry_at clusters) (reported skip n l) (λ w. h w.cluster);
          cover = λ w i. go w (judgement skip n l w i);
          last = λ e w i. skips-means node clusters filters w h (not-not (skip w) (none-mem (λ v. not (skip v)) (remaining skip n l) (not-of _ e) w i));
          rise = f.rise;
          now = λ c. omega arith;
          first = f.first;
          asked = f.asked;
          short = λ e. omega (arith, (part-size e).0, (part-size e).1);
          turn = f.turn;
          few = f.few;
        }
      where
        skip : ConcretePath → Bool
        skip = skips filters clusters

        go : (w : ConcretePath) → Judgement skip n l w → Gone node (part_of clusters x k l filters since n) w
        go w (went i) = told (entry_at clusters w, map-mem (entry_at clusters) (reported skip n l) w i, refl)
        go w (stays i) = waits i
        go w (skipped t) = passed (skips-means node clusters filters w h t)

  -- the part m goes on from what was sent
  pub record Fits (node : Node Value) (s : System Value) (m : Part Value) : Type 0 where
    pub ok : PartOk node s.clusters s.messages m
    pub newer : s.row.exchange ≤ m.exchange
    pub before : (m' : Part Value) → Memᴰ m' s.parts → m'.exchange ≡ m.exchange → m'.turn < m.turn
    pub follows : (m' : Part Value) → Memᴰ m' s.parts → m'.exchange ≡ m.exchange → suc m'.turn ≡ m.turn → Follows m' m
    pub since : (m' : Part Value) → Memᴰ m' s.parts → m'.exchange ≡ m.exchange → m'.since ≡ m.since
    pub ahead : (w : ConcretePath) → Memᴰ w m.after → Memᴰ w node.readable
    pub size : m.more ≡ true → m.turn + length m.after ≤ length node.readable
    pub turn : 1 ≤ m.turn
    pub some : m.more ≡ true → 1 ≤ length m.after
    pub rise : (c : ℕ) → m.since c ≤ (s.clusters c).changes

  send-keeps : (node : Node Value) (s : System Value) (m : Part Value) → Inv node s → Fits node s m → Inv node (send s m)
  unfolding send
  send-keeps node s new h f =
      record {
        clusters = h.clusters;
        parts = all_cons (PartOk node s.clusters s.messages) f.ok h.parts;
        sent = all_cons (Sent (row_after new))
            record { begun = omega arith; before = λ e. omega arith; since = λ e. refl; joins = λ e j. refl; goes = λ e j. refl }
            (λ m i. record {
              begun = omega (arith, (h.sent m i).begun, f.newer);
              before = λ e. omega (arith, f.before m i e);
              since = λ e. f.since m i e;
              joins = λ e j. absurd (omega (arith, f.before m i e));
              goes = λ e j. absurd (omega (arith, f.before m i e));
            });
        chain = all_cons (λ (m : Part Value). (m' : Part Value) → Memᴰ m' (new ∷ s.parts) → Joined m m')
            (all_cons (Joined new) (λ e j. absurd (omega arith)) (λ m' i e j. absurd (omega (arith, f.before m' i (sym e)))))
            (λ m i. all_cons (Joined m) (λ e j. f.follows m i e (sym j)) (h.chain m i));
        row =
            record {
              ahead = f.ahead;
              asked = λ e. f.ok.asked;
              size = f.size;
              turn = λ e. f.turn;
              some = f.some;
              rise = f.rise;
              kept = all_cons (λ (m : Part Value). Memᴰ m (new ∷ s.parts)) (Memᴰ.head refl) (λ m i. absurd (Memᴰ.not-nil i));
            };
        cache = cache-grows node (still s.clusters) (λ m i. Memᴰ.tail i) s.cache h.cache;
      }

  again-keeps : (node : Node Value) (s : System Value) → Inv node s → Inv node (send_again s)
  unfolding send_again
  again-keeps node s h =
      record {
        clusters = h.clusters;
        parts = λ m i. h.parts m (old m i);
        sent = λ m i. h.sent m (old m i);
        chain = λ m i m' i'. h.chain m (old m i) m' (old m' i');
        row = row-grows node (still s.clusters) (λ u i. i) more s.row h.row;
        cache = cache-grows node (still s.clusters) more s.cache h.cache;
      }
    where
      more : More s.parts (s.row.kept ++ s.parts)
      more m i = Memᴰ.append_right s.row.kept i

      old : (m : Part Value) → Memᴰ m (s.row.kept ++ s.parts) → Memᴰ m s.parts
      old = all_append (λ (m : Part Value). Memᴰ m s.parts) s.row.kept h.row.kept (λ m i. i)

  close-keeps : (node : Node Value) (s : System Value) → Inv node s → Inv node (close s)
  unfolding close
  close-keeps node s h =
      record {
        clusters = h.clusters;
        parts = h.parts;
        sent = λ m i. record { begun = (h.sent m i).begun; before = (h.sent m i).before; since = (h.sent m i).since; joins = (h.sent m i).joins; goes = (h.sent m i).goes };
        chain = h.chain;
        row = record { ahead = h.row.ahead; asked = h.row.asked; size = h.row.size; turn = h.row.turn; some = h.row.some; rise = h.row.rise; kept = h.row.kept };
        cache = h.cache;
      }

  written_keeps : (node : Node Value) (s : System Value) (x : ℕ) → s.row.exchange < x → Inv node s → Inv node (written s x)
  unfolding written
  written_keeps node s x l h =
      record {
        clusters = h.clusters;
        parts = h.parts;
        sent = λ m i. record {
          begun = omega (arith, (h.sent m i).begun);
          before = λ e. absurd (omega (arith, (h.sent m i).begun));
          since = λ e. absurd (omega (arith, (h.sent m i).begun));
          joins = λ e j. absurd (omega (arith, (h.sent m i).begun));
          goes = λ e j. absurd (omega (arith, (h.sent m i).begun));
        };
        chain = h.chain;
        row =
            record {
              ahead = λ w i. absurd (Memᴰ.not-nil i);
              asked = λ e. absurd (true≢false (sym e));
              size = λ e. absurd (true≢false (sym e));
              turn = λ e. absurd (true≢false (sym e));
              some = λ e. absurd (true≢false (sym e));
              rise = λ c. omega arith;
              kept = λ m i. absurd (Memᴰ.not-nil i);
            };
        cache = h.cache;
      }

  repeated-keeps : (node : Node Value) (s : System Value) (x : ℕ) → Inv node s → Inv node (repeated s x)
  repeated-keeps node s x h = by_cond (Inv node) (eqb x s.row.exchange && eqb s.row.turn 1 && not s.row.closed) (λ t. again-keeps node s h) (λ t. h)

  pub new-fits : (node : Node Value) (s : System Value) (x : ℕ) (filters : List Filter) (n : ℕ) → Inv node s → Memᴰ (read x filters) s.messages → s.row.exchange < x → Fits node s (part_of s.clusters x 1 node.readable filters (changes_of s.clusters) n)
  unfolding part_of
  new-fits node s x filters n h i l =
      record {
        ok = part-ok node s.clusters s.messages x 1 node.readable filters (changes_of s.clusters) n h.clusters fit;
        newer = omega arith;
        before = λ m i e. absurd (omega (arith, (h.sent m i).begun));
        follows = λ m i e. absurd (omega (arith, (h.sent m i).begun));
        since = λ m i e. absurd (omega (arith, (h.sent m i).begun));
        ahead = remaining-in (skips filters s.clusters) n node.readable;
        size = λ e. (part-size node s.clusters s.messages x 1 node.readable filters (changes_of s.clusters) n h.clusters fit e).0;
        turn = omega arith;
        some = λ e. (part-size node s.clusters s.messages x 1 node.readable filters (changes_of s.clusters) n h.clusters fit e).1;
        rise = λ c. omega arith;
      }
    where
      fit : Fit node s.clusters s.messages x 1 node.readable filters (changes_of s.clusters)
      fit = record { on = λ w i. i; rise = λ c. omega arith; first = λ e. refl; asked = i; size = omega arith; turn = omega arith; few = most-one node.readable }

  pub next_fits : (node : Node Value) (s : System Value) (x n : ℕ) → Inv node s → x ≡ s.row.exchange → s.row.more ≡ true
      → Fits node s (part_of s.clusters x (suc s.row.turn) s.row.ahead s.row.filters s.row.since n)
  unfolding part_of
  next_fits node s x n h e g =
      record {
        ok = part-ok node s.clusters s.messages x (suc s.row.turn) s.row.ahead s.row.filters s.row.since n h.clusters fit;
        newer = omega arith;
        before = λ m i d. omega (arith, (h.sent m i).before (d ∙ e));
        follows = λ m i d j. record { on = sym ((h.sent m i).joins (d ∙ e) (omega arith)); since = sym ((h.sent m i).since (d ∙ e)); rise = (h.parts m i).now };
        since = λ m i d. (h.sent m i).since (d ∙ e);
        ahead = λ w i. h.row.ahead w (remaining-in (skips s.row.filters s.clusters) n s.row.ahead w i);
        size = λ q. (part-size node s.clusters s.messages x (suc s.row.turn) s.row.ahead s.row.filters s.row.since n h.clusters fit q).0;
        turn = omega arith;
        some = λ q. (part-size node s.clusters s.messages x (suc s.row.turn) s.row.ahead s.row.filters s.row.since n h.clusters fit q).1;
        rise = h.row.rise;
      }
    where
      fit : Fit node s.clusters s.messages x (suc s.row.turn) s.row.ahead s.row.filters s.row.since
      fit = record { on = h.row.ahead; rise = h.row.rise; first = λ d. absurd (omega (arith, h.row.turn g)); asked = rw e (h.row.asked g); size = omega (arith, h.row.size g); turn = omega arith; few = omega (arith, h.row.size g, h.row.some g, most-all node.readable) }

  pub serve-keeps : (node : Node Value) (s : System Value) (m : Message) (n : ℕ) (stores : List (Store Value)) → Memᴰ m s.messages → Inv node s → Inv node (serve node s m n stores)
  unfolding serve store_all
  serve-keeps node s (read x filters) n stores i h =
      by_cond (Inv node) (starts s.row x) (λ t. send-keeps node s _ h (new-fits node s x filters n h i (ltb→lt s.row.exchange x t))) (λ t. repeated-keeps node s x h)
  serve-keeps node s (write x) n stores i h =
      by_cond (Inv node) (starts s.row x) (λ t. written_keeps node (store_all s stores) x (ltb→lt s.row.exchange x t) (stores-keep node s stores h)) (λ t. repeated-keeps node s x h)
  serve-keeps node s (success x t) n stores i h =
      by_cond (Inv node) (eqb x s.row.exchange && not s.row.closed)
      (λ a. by_cond (Inv node) (missed s.row t) (λ b. again-keeps node s h)
      (λ b. by_cond (Inv node) (eqb t s.row.turn && s.row.more)
      (λ c. send-keeps node s _ h (next_fits node s x n h (eqb→eq x s.row.exchange (and_l (eqb x s.row.exchange) (not s.row.closed) a)) (more (and_r (eqb t s.row.turn) s.row.more c))))
      (λ c. h)))
      (λ a. h)
    where
      more : T s.row.more → s.row.more ≡ true
      more = T_true s.row.more
  serve-keeps node s (failure x t) n stores i h = by_cond (Inv node) (eqb x s.row.exchange && eqb t s.row.turn && s.row.more) (λ a. close-keeps node s h) (λ a. h)
