-- A second invariant, for progress: the two ends do not lose each other.
use mathlib.Core.Path.{◌≡◌, refl, sym, ◌∙◌}
use mathlib.Core.Bool.{true, false, not, ◌&&◌, true≢false}
use mathlib.Core.List.Memᴰ
use mathlib.Core.List.{List, [], ◌∷◌, Memᴰ}
use Prim.Native.Nat.{ℕ, suc, ◌≤◌, ◌<◌}
use native.Mathlib.Omega.{arith}
use lib.Dec.{eqb, ltb, eqb→eq, ltb→lt}
use Rattle.proof_protocol.specs.Model.{Filter, Node, Message, read, write, success, failure, Part, ServedExchange, Cache, System, Store, exchange_of, changes_of, part_of, send, send_again, close, store_all, written, starts, missed, serve, begin_read, begin_write, accept, awaited, receive}
use Rattle.proof_protocol.specs.Steps.{Step, alters, begins_read, begins_write, serves, receives, none, then, Reach}
use Rattle.proof_protocol.proofs.SmallLaws.{by_cond, and_l, and_r, T_true, all_cons}
use Rattle.proof_protocol.proofs.Invariant.{Inv}
use Rattle.proof_protocol.proofs.ChangeLaws.{More}
use Rattle.proof_protocol.proofs.Inductive.{reach-inv}

module _ {Value : Type 0} where
  -- what the server does with a message
  pub data Served (node : Node Value) (s : System Value) : System Value → Type 0 where
    begin : (x : ℕ) (filters : List Filter) (n : ℕ) → s.row.exchange < x → Memᴰ (read x filters) s.messages → Served node s (send s (part_of s.clusters x 1 node.readable filters (changes_of s.clusters) n))
    next : (x n : ℕ) → x ≡ s.row.exchange → Memᴰ (success x s.row.turn) s.messages → s.row.more ≡ true → Served node s (send s (part_of s.clusters x (suc s.row.turn) s.row.ahead s.row.filters s.row.since n))
    again : Served node s (send_again s)
    storing : (x : ℕ) (stores : List (Store Value)) → s.row.exchange < x → Memᴰ (write x) s.messages → Served node s (written (store_all s stores) x)
    shuts : (x t : ℕ) → Memᴰ (failure x t) s.messages → Served node s (close s)
    silent : Served node s s

  pub served : (node : Node Value) (s : System Value) (m : Message) (n : ℕ) (stores : List (Store Value)) → Memᴰ m s.messages → Served node s (serve node s m n stores)
  unfolding serve
  served node s (read x filters) n stores i =
      by_cond (Served node s) (starts s.row x) (λ t. begin x filters n (ltb→lt s.row.exchange x t) i)
      (λ t. by_cond (Served node s) (eqb x s.row.exchange && eqb s.row.turn 1 && not s.row.closed) (λ u. again) (λ u. silent))
  served node s (write x) n stores i =
      by_cond (Served node s) (starts s.row x) (λ t. storing x stores (ltb→lt s.row.exchange x t) i)
      (λ t. by_cond (Served node s) (eqb x s.row.exchange && eqb s.row.turn 1 && not s.row.closed) (λ u. again) (λ u. silent))
  served node s (success x t) n stores i =
      by_cond (Served node s) (eqb x s.row.exchange && not s.row.closed)
      (λ a. by_cond (Served node s) (missed s.row t) (λ b. again)
      (λ b. by_cond (Served node s) (eqb t s.row.turn && s.row.more) (λ c. next x n (eqb→eq x s.row.exchange (and_l (eqb x s.row.exchange) (not s.row.closed) a)) (rw (eqb→eq t s.row.turn (and_l (eqb t s.row.turn) s.row.more c)) at i) (T_true s.row.more (and_r (eqb t s.row.turn) s.row.more c))) (λ c. silent)))
      (λ a. silent)
  served node s (failure x t) n stores i = by_cond (Served node s) (eqb x s.row.exchange && eqb t s.row.turn && s.row.more) (λ a. shuts x t i) (λ a. silent)

  abbrev pub Fine : Cache Value → Message → Type 0
  Fine c (read x filters) = Unit {0}
  Fine c (write x) = c.reading ≡ true → x < c.exchange
  Fine c (success x t) = (x ≡ c.exchange → t < c.next) × (1 ≤ t)
  Fine c (failure x t) = ⊥

  -- what the server keeps
  pub data Holds (messages : List Message) (s : ServedExchange Value) : Type 0 where
    unused : s.exchange ≡ 0 → Holds messages s
    report : (p : Part Value) → s.kept ≡ p ∷ [] → p.exchange ≡ s.exchange → p.turn ≡ s.turn → 1 ≤ s.turn → Holds messages s
    stored : Memᴰ (write s.exchange) messages → Holds messages s

  -- the cache's newest message
  pub data Head (c : Cache Value) (messages : List Message) : Type 0 where
    first : (us : List Message) → c.next ≡ 1 → messages ≡ read c.exchange c.filters ∷ us → Head c messages
    later : (us : List Message) (t : ℕ) → c.next ≡ suc t → 1 ≤ t → messages ≡ success c.exchange t ∷ us → Head c messages

  pub record Open (s : System Value) : Type 0 where
    pub last : s.row.exchange ≤ s.cache.exchange
    pub opened : s.row.closed ≡ false
    pub one : 1 ≤ s.cache.next
    pub exchange : s.cache.reading ≡ true → 1 ≤ s.cache.exchange
    pub messages : (u : Message) → Memᴰ u s.messages → Fine s.cache u
    pub turn : s.row.exchange ≡ s.cache.exchange → s.row.turn ≤ s.cache.next
    pub keeps : Holds s.messages s.row
    pub newest : s.cache.reading ≡ true → Head s.cache s.messages

  holds-grow : {us us' : List Message} → More us us' → (s : ServedExchange Value) → Holds us s → Holds us' s
  holds-grow g s (unused e) = unused e
  holds-grow g s (report p a b c d) = report p a b c d
  holds-grow g s (stored i) = stored (g _ i)

  pub open-served : (node : Node Value) {s t : System Value} → Inv node s → Served node s t → Open s → Open t
  unfolding send part_of send_again written store_all close
  open-served node {s} h (begin x filters n l i) v =
      record {
        last = h.cache.ids (read x filters) i;
        opened = refl;
        one = v.one;
        exchange = v.exchange;
        messages = v.messages;
        turn = λ e. v.one;
        keeps = report _ refl refl refl (omega arith);
        newest = v.newest;
      }
  open-served node {s} h (next x n e i g) v =
      record {
        last = omega (arith, v.last);
        opened = refl;
        one = v.one;
        exchange = v.exchange;
        messages = v.messages;
        turn = λ d. omega (arith, (v.messages (success x s.row.turn) i).0 d);
        keeps = report _ refl refl refl (omega arith);
        newest = v.newest;
      }
  open-served node {s} h again v = record { last = v.last; opened = v.opened; one = v.one; exchange = v.exchange; messages = v.messages; turn = v.turn; keeps = v.keeps; newest = v.newest }
  open-served node {s} h (storing x stores l i) v =
      record {
        last = h.cache.ids (write x) i;
        opened = refl;
        one = v.one;
        exchange = v.exchange;
        messages = v.messages;
        turn = λ e. v.one;
        keeps = stored i;
        newest = v.newest;
      }
  open-served node {s} h (shuts x t i) v = absurd (v.messages (failure x t) i)
  open-served node {s} h silent v = v

  begun-fine : (c c' : Cache Value) → c'.exchange ≡ suc c.exchange → (u : Message) → exchange_of u ≤ c.exchange → Fine c u → Fine c' u
  begun-fine c d e (read x filters) l f = tt
  begun-fine c d e (write x) l f = λ r. omega arith
  begun-fine c d e (success x t) l f = (λ q. absurd (omega arith), f.1)
  begun-fine c d e (failure x t) l f = f

  accept-fine : (c c' : Cache Value) → c'.exchange ≡ c.exchange → c.next ≤ c'.next → c.reading ≡ true → (u : Message) → Fine c u → Fine c' u
  accept-fine c d e l r (read x filters) f = tt
  accept-fine c d e l r (write x) f = λ q. omega (arith, f r)
  accept-fine c d e l r (success x t) f = (λ q. omega (arith, f.0 (q ∙ e)), f.1)
  accept-fine c d e l r (failure x t) f = f

  open-read : (node : Node Value) (s : System Value) (filters : List Filter) → Inv node s → Open s → Open (begin_read s filters)
  unfolding begin_read
  open-read node s filters h v =
      record {
        last = omega (arith, v.last);
        opened = v.opened;
        one = omega arith;
        exchange = λ e. omega arith;
        messages = all_cons (Fine (begin_read s filters).cache) tt (λ u i. begun-fine s.cache (begin_read s filters).cache refl u (h.cache.ids u i) (v.messages u i));
        turn = λ e. absurd (omega (arith, v.last));
        keeps = holds-grow (λ u i. Memᴰ.tail i) s.row v.keeps;
        newest = λ e. first s.messages refl refl;
      }

  open-write : (node : Node Value) (s : System Value) → Inv node s → Open s → Open (begin_write s)
  unfolding begin_write
  open-write node s h v =
      record {
        last = omega (arith, v.last);
        opened = v.opened;
        one = omega arith;
        exchange = λ e. omega arith;
        messages = all_cons (Fine (begin_write s).cache) (λ e. absurd {0} (true≢false (sym e))) (λ u i. begun-fine s.cache (begin_write s).cache refl u (h.cache.ids u i) (v.messages u i));
        turn = λ e. absurd (omega (arith, v.last));
        keeps = holds-grow (λ u i. Memᴰ.tail i) s.row v.keeps;
        newest = λ e. absurd (true≢false (sym e));
      }

  pub open-accept : (node : Node Value) (s : System Value) (m : Part Value) → m.exchange ≡ s.cache.exchange → m.turn ≡ s.cache.next → s.cache.reading ≡ true → Open s → Open (accept s m)
  unfolding accept
  open-accept node s m ex ek er v =
      record {
        last = v.last;
        opened = v.opened;
        one = omega arith;
        exchange = λ e. v.exchange er;
        messages = by_cond (λ (us : List Message). (u : Message) → Memᴰ u us → Fine c' u) m.more (λ t. all_cons (Fine c') (λ e. omega arith, omega (arith, v.one)) old) (λ t. old);
        turn = λ e. omega (arith, v.turn e);
        keeps = by_cond (λ (us : List Message). Holds us s.row) m.more (λ t. holds-grow (λ u i. Memᴰ.tail i) s.row v.keeps) (λ t. v.keeps);
        newest = λ e. later s.messages m.turn refl (omega (arith, v.one)) (rw (e, ex));
      }
    where
      c' : Cache Value
      c' = (accept s m).cache

      old : (u : Message) → Memᴰ u s.messages → Fine c' u
      old u i = accept-fine s.cache c' refl (omega arith) er u (v.messages u i)

  open_step : (node : Node Value) {s t : System Value} → Inv node s → Step node s t → Open s → Open t
  unfolding store_all receive
  open_step node {s} h (alters stores) v = record { last = v.last; opened = v.opened; one = v.one; exchange = v.exchange; messages = v.messages; turn = v.turn; keeps = v.keeps; newest = v.newest }
  open_step node {s} h (begins_read filters w) v = open-read node s filters h v
  open_step node {s} h begins_write v = open-write node s h v
  open_step node {s} h (serves m n stores i) v = open-served node h (served node s m n stores i) v
  open_step node {s} h (receives m i) v = by_cond Open (awaited s.cache m) (λ t. open-accept node s m (search (and_l, and_r, eqb→eq)) (search (and_l, and_r, eqb→eq)) (search (and_r, T_true)) v) (λ t. v)

  pub reach-open : (node : Node Value) {s : System Value} → Reach node s → Open s
  reach-open node none =
      record {
        last = omega arith;
        opened = refl;
        one = omega arith;
        exchange = λ e. absurd (true≢false (sym e));
        messages = λ u i. absurd (Memᴰ.not-nil i);
        turn = λ e. omega arith;
        keeps = unused refl;
        newest = λ e. absurd (true≢false (sym e));
      }
  reach-open node (then r p) = open_step node (reach-inv node r) p (reach-open node r)
