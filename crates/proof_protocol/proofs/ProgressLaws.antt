-- If each message and each reply of an open read arrives, its last part is taken.
use mathlib.Core.Path.{◌≡◌, refl, sym, ◌∙◌, ap, subst}
use mathlib.Core.Logic.{◌⊎◌, inl, inr}
use mathlib.Core.Bool.{Bool, true, false, cond, not, ◌&&◌, true≢false}
use mathlib.Core.List.{List, ◌∷◌, Memᴰ}
use Prim.Native.Nat.{ℕ, suc, ◌≤◌, ◌<◌}
use native.Mathlib.Omega.{arith}
use lib.Dec.{T, T_not, eqb, ltb, eqb→eq, eqb_refl, lt→ltb, nltb→le}
use Rattle.proof_protocol.specs.Model.{Filter, Node, Message, read, write, success, failure, Part, Cache, System, Store, exchange_of, part_of, send, send_again, close, store_all, written, starts, missed, repeated, serve, accept, awaited, receive}
use Rattle.proof_protocol.specs.Steps.{Step, alters, begins_read, begins_write, serves, receives, Run, none, then, Reach, join, Visits, BeginsNone, NoneBegun, Hears, Heard, Gets, Got}
use Rattle.proof_protocol.specs.Claims.{Arrived, Ending}
use Rattle.proof_protocol.proofs.SmallLaws.{by_cond, and_l, and_r, T_true, T_of, stays}
use Rattle.proof_protocol.proofs.Invariant.{Reading, Inv, fresh, behind}
use Rattle.proof_protocol.proofs.ChangeLaws.{More}
use Rattle.proof_protocol.proofs.CacheLaws.{awaited-is}
use Rattle.proof_protocol.proofs.Inductive.{reach-inv}
use Rattle.proof_protocol.proofs.OpenLaws.{Served, served, Holds, Head, Open, reach-open, begin, next, again, storing, shuts, silent, unused, report, stored, first, later}

pub T_and : (a b : Bool) → T a → T b → T (a && b)
T_and true b s t = t
T_and false b s t = absurd s

pub eqb_of : (a b : ℕ) → a ≡ b → T (eqb a b)
eqb_of a b e = rw e (eqb_refl b)

-- by the branch that a test takes
by-yes {ℓ κ} : {A : Type ℓ} (P : A → Type κ) (b : Bool) (x y : A) → T b → P x → P (cond b x y)
by-yes P true x y t p = p
by-yes P false x y t p = absurd t

not-closed : (b : Bool) → b ≡ false → T (not b)
not-closed b e = rw e tt

module _ {Value : Type 0} where
  -- a last part is taken
  record Takes (s t : System Value) : Type 0 where
    part : Part Value
    sent : Memᴰ part s.parts
    wanted : T (awaited s.cache part)
    last : part.more ≡ false
    is : t ≡ receive s part

  -- how a read goes on in a step in which the cache begins nothing
  record Goes (s t : System Value) : Type 0 where
    exchange : t.cache.exchange ≡ s.cache.exchange
    back : t.cache.reading ≡ true → (s.cache.reading ≡ true) × (s.cache.next ≤ t.cache.next)
    parts : More s.parts t.parts
    messages : More s.messages t.messages
    keep : s.cache.reading ≡ false → t.cache ≡ s.cache
    ended : s.cache.reading ≡ true → t.cache.reading ≡ false → Takes s t

  -- the cache as it was
  goes_same : (s t : System Value) → t.cache ≡ s.cache → More s.parts t.parts → More s.messages t.messages → Goes s t
  goes_same s t e p u =
      record {
        exchange = ap (λ (c : Cache Value). c.exchange) e;
        back = λ r. (sym (ap (λ (c : Cache Value). c.reading) e) ∙ r, omega (arith, ap (λ (c : Cache Value). c.next) e));
        parts = p;
        messages = u;
        keep = λ r. e;
        ended = λ a b. absurd (true≢false (sym a ∙ sym (ap (λ (c : Cache Value). c.reading) e) ∙ b));
      }

  goes-served : (node : Node Value) {s t : System Value} → Served node s t → Goes s t
  unfolding send send_again written store_all close
  goes-served node {s} (begin x filters n l i) = goes_same s _ refl (λ m i. mathlib.Core.List.Memᴰ.tail i) (λ u i. i)
  goes-served node {s} (next x n e i g) = goes_same s _ refl (λ m i. mathlib.Core.List.Memᴰ.tail i) (λ u i. i)
  goes-served node {s} again = goes_same s _ refl (λ m i. mathlib.Core.List.Memᴰ.append_right s.row.kept i) (λ u i. i)
  goes-served node {s} (storing x stores l i) = goes_same s _ refl (λ m i. i) (λ u i. i)
  goes-served node {s} (shuts x t i) = goes_same s _ refl (λ m i. i) (λ u i. i)
  goes-served node {s} silent = goes_same s s refl (λ m i. i) (λ u i. i)

  goes-accept : (s : System Value) (m : Part Value) → Memᴰ m s.parts → T (awaited s.cache m) → m.turn ≡ s.cache.next → s.cache.reading ≡ true → Goes s (accept s m)
  unfolding accept receive
  goes-accept s m i t ek er =
      record {
        exchange = refl;
        back = λ e. (er, omega arith);
        parts = λ q j. j;
        messages = λ u j. by_cond (λ (us : List Message). Memᴰ u us) m.more (λ q. mathlib.Core.List.Memᴰ.tail j) (λ q. j);
        keep = λ e. absurd (true≢false (sym er ∙ e));
        ended = λ a b. record { part = m; sent = i; wanted = t; last = b; is = rw (T_true (awaited s.cache m) t) };
      }

  goes-receive : (s : System Value) (m : Part Value) → Memᴰ m s.parts → Goes s (receive s m)
  unfolding receive
  goes-receive s m i =
      by_cond (Goes s) (awaited s.cache m) (λ t. goes-accept s m i t (search (and_l, and_r, eqb→eq)) (search (and_r, T_true))) (λ t. goes_same s s refl (λ q j. j) (λ u j. j))

  goes_step : (node : Node Value) {s t : System Value} (p : Step node s t) → BeginsNone p → Goes s t
  unfolding store_all
  goes_step node {s} (alters stores) q = goes_same s _ refl (λ m i. i) (λ u i. i)
  goes_step node {s} (begins_read filters f) q = absurd q
  goes_step node {s} begins_write q = absurd q
  goes_step node {s} (serves m n stores i) q = goes-served node (served node s m n stores i)
  goes_step node {s} (receives m i) q = goes-receive s m i

  -- and in a run of such steps
  record On (node : Node Value) {s t : System Value} (run : Run node s t) : Type 0 where
    exchange : t.cache.exchange ≡ s.cache.exchange
    ended : s.cache.reading ≡ true → t.cache.reading ≡ false → Ending run

  on_then : (node : Node Value) {s t u : System Value} (run : Run node s t) (p : Step node t u) → On node run → Goes t u → On node (then run p)
  on_then node {s} {t} {u} run p o g = record { exchange = g.exchange ∙ o.exchange; ended = λ r e. go t.cache.reading refl r e }
    where
      go : (b : Bool) → t.cache.reading ≡ b → s.cache.reading ≡ true → u.cache.reading ≡ false → Ending (then run p)
      go true q r e = now (g.ended q e)
        where
          now : Takes t u → Ending (then run p)
          now k =
              record {
                at = t;
                next = u;
                passes = inr (refl, refl);
                part = k.part;
                sent = k.sent;
                wanted = k.wanted;
                last = k.last;
                own = (awaited-is t.cache k.part k.wanted).0 ∙ o.exchange;
                taken = k.is;
              }
      go false q r e = before (o.ended r q)
        where
          before : Ending run → Ending (then run p)
          before k =
              record {
                at = k.at;
                next = k.next;
                passes = inl k.passes;
                part = k.part;
                sent = k.sent;
                wanted = k.wanted;
                last = k.last;
                own = k.own;
                taken = k.taken;
              }

  on-run : (node : Node Value) {s t : System Value} (run : Run node s t) → NoneBegun run → On node run
  on-run node none c = record { exchange = refl; ended = λ a b. absurd (true≢false (sym a ∙ b)) }
  on-run node (then run p) c = on_then node run p (on-run node run c.0) (goes_step node p c.1)

  -- a cache that reads nothing and begins nothing stays as it is
  pub none-begun-keeps : (node : Node Value) {s t : System Value} (run : Run node s t) → NoneBegun run → s.cache.reading ≡ false → t.cache ≡ s.cache
  none-begun-keeps node none c e = refl
  none-begun-keeps node {s} {t} (then {t = t'} run p) c e = go (none-begun-keeps node run c.0 e)
    where
      go : t'.cache ≡ s.cache → t.cache ≡ s.cache
      go k = (goes_step node p c.1).keep (ap (λ (d : Cache Value). d.reading) k ∙ e) ∙ k

  -- each state of a run can be reached, and what it has sent stays sent
  pub run-reach : (node : Node Value) {s t : System Value} → Reach node s → (run : Run node s t) (u : System Value) → Visits run u → Reach node u
  run-reach node r none u e = subst (λ (x : System Value). Reach node x) (sym e) r
  run-reach node {s} {t} r (then run p) u v = go (run-reach node r run u) v
    where
      go : (Visits run u → Reach node u) → Visits run u ⊎ (u ≡ t) → Reach node u
      go known (inl a) = known a
      go known (inr e) = subst (λ (x : System Value). Reach node x) (sym e) (then (join r run) p)

  pub none-begun-parts : (node : Node Value) {s t : System Value} (run : Run node s t) → NoneBegun run → (u : System Value) → Visits run u → More u.parts t.parts
  none-begun-parts node {s} none c u e = subst (λ (x : System Value). More x.parts s.parts) (sym e) (λ m i. i)
  none-begun-parts node {s} {t} (then {t = t'} run p) c u v = go (none-begun-parts node run c.0 u) v
    where
      go : (Visits run u → More u.parts t'.parts) → Visits run u ⊎ (u ≡ t) → More u.parts t.parts
      go known (inl a) = λ m i. (goes_step node p c.1).parts m (known a m i)
      go known (inr e) = subst (λ (x : System Value). More x.parts t.parts) (sym e) (λ m i. i)

  -- what the server says to the newest message of a read
  pub record Answer (s t : System Value) : Type 0 where
    pub part : Part Value
    pub says : t.parts ≡ part ∷ s.parts
    pub exchange : part.exchange ≡ s.cache.exchange
    pub turn : part.turn ≡ s.cache.next

  module _ (node : Node Value) (s : System Value) (h : Inv node s) (v : Open s) (er : s.cache.reading ≡ true) (n : ℕ) (stores : List (Store Value)) where
    -- the server is in the cache's exchange: the kept reply is a report
    again-says : s.row.exchange ≡ s.cache.exchange → s.row.turn ≡ s.cache.next → Answer s (send_again s)
    unfolding send_again
    again-says e k = go v.keeps
      where
        go : Holds s.messages s.row → Answer s (send_again s)
        go (unused z) = absurd (omega (arith, v.exchange er))
        go (report p a b c d) = record { part = p; says = rw a; exchange = b ∙ e; turn = c ∙ k }
        go (stored i) = absurd (omega (arith, v.messages _ i er))

    first_says : (filters : List Filter) → s.cache.next ≡ 1 → Answer s (serve node s (read s.cache.exchange filters) n stores)
    unfolding serve send part_of
    first_says filters z =
        by_cond (Answer s) (starts s.row s.cache.exchange) (λ t. record { part = _; says = refl; exchange = refl; turn = sym z }) (λ t. old (nltb→le s.row.exchange s.cache.exchange t))
      where
        old : s.cache.exchange ≤ s.row.exchange → Answer s (repeated s s.cache.exchange)
        old l =
            by-yes (Answer s) (a && b && c) (send_again s) s (T_and (a && b) c (T_and a b (eqb_of s.cache.exchange s.row.exchange (sym e)) (eqb_of s.row.turn 1 k)) (not-closed s.row.closed v.opened)) (again-says e (k ∙ sym z))
          where
            e : s.row.exchange ≡ s.cache.exchange
            e = omega (arith, v.last)

            a : Bool
            a = eqb s.cache.exchange s.row.exchange

            b : Bool
            b = eqb s.row.turn 1

            c : Bool
            c = not s.row.closed

            k : s.row.turn ≡ 1
            k = go v.keeps
              where
                go : Holds s.messages s.row → s.row.turn ≡ 1
                go (unused z) = absurd (omega (arith, v.exchange er))
                go (report p a b c d) = omega (arith, v.turn e)
                go (stored i) = absurd (omega (arith, v.messages _ i er))

    later-says : (t : ℕ) → s.cache.next ≡ suc t → 1 ≤ t → Answer s (serve node s (success s.cache.exchange t) n stores)
    unfolding serve send part_of
    later-says t z l = go (h.cache.at er)
      where
        go : Reading node s.parts s.cache → Answer s (serve node s (success s.cache.exchange t) n stores)
        go (fresh y f) = absurd (omega arith)
        go (behind m i x y g cov vou) =
            by-yes (Answer s) (eqb s.cache.exchange s.row.exchange && not s.row.closed) _ _ (T_and (eqb s.cache.exchange s.row.exchange) (not s.row.closed) (eqb_of s.cache.exchange s.row.exchange (sym e)) (not-closed s.row.closed v.opened))
            (by_cond (Answer s) (missed s.row t)
            (λ a. again-says e (sym (eqb→eq (suc t) s.row.turn (and_l (eqb (suc t) s.row.turn) (ltb 0 t) a)) ∙ sym z))
            (λ a. by-yes (Answer s) (eqb t s.row.turn && s.row.more) _ _ (T_and (eqb t s.row.turn) s.row.more (eqb_of t s.row.turn (sym (same a))) (more a)) record { part = _; says = refl; exchange = refl; turn = omega (arith, same a) }))
          where
            e : s.row.exchange ≡ s.cache.exchange
            e = omega (arith, v.last, (h.sent m i).begun)

            same : T (not (eqb (suc t) s.row.turn && ltb 0 t)) → s.row.turn ≡ t
            same a = near (λ q. T_not (eqb (suc t) s.row.turn && ltb 0 t) a (T_and (eqb (suc t) s.row.turn) (ltb 0 t) (eqb_of (suc t) s.row.turn q) (lt→ltb 0 t l)))
              where
                near : (suc t ≡ s.row.turn → ⊥) → s.row.turn ≡ t
                near far = omega (arith, v.turn e, (h.sent m i).before (x ∙ sym e), far)

            more : T (not (eqb (suc t) s.row.turn && ltb 0 t)) → T s.row.more
            more a = T_of s.row.more (sym ((h.sent m i).goes (x ∙ sym e) (omega (arith, same a))) ∙ g)

  -- a part that arrives moves a read on
  receive-moves : (s : System Value) (p : Part Value) → p.exchange ≡ s.cache.exchange → p.turn ≤ s.cache.next → s.cache.reading ≡ true → p.turn < (receive s p).cache.next
  unfolding receive accept
  receive-moves s p x l q =
      by_cond (λ (u : System Value). p.turn < u.cache.next) (awaited s.cache p) (λ t. omega arith)
      (λ t. away (λ k. T_not (awaited s.cache p) t (T_and (eqb p.exchange s.cache.exchange && eqb p.turn s.cache.next) s.cache.reading (T_and (eqb p.exchange s.cache.exchange) (eqb p.turn s.cache.next) (eqb_of p.exchange s.cache.exchange x) (eqb_of p.turn s.cache.next k)) (T_of s.cache.reading q))))
    where
      away : (p.turn ≡ s.cache.next → ⊥) → p.turn < s.cache.next
      away far = omega (arith, far)

  -- the message asks for the part that the cache awaits
  abbrev pub VersionFilters : Cache Value → Message → Type 0
  VersionFilters c (read x filters) = (x ≡ c.exchange) × (c.next ≡ 1)
  VersionFilters c (write x) = ⊥
  VersionFilters c (success x k) = (x ≡ c.exchange) × (c.next ≡ suc k)
  VersionFilters c (failure x k) = ⊥

  version-filters-same : (c d : Cache Value) → c.exchange ≡ d.exchange → c.next ≡ d.next → (m : Message) → VersionFilters c m → VersionFilters d m
  version-filters-same c d e f (read x filters) w = (w.0 ∙ e, sym f ∙ w.1)
  version-filters-same c d e f (write x) w = w
  version-filters-same c d e f (success x k) w = (w.0 ∙ e, sym f ∙ w.1)
  version-filters-same c d e f (failure x k) w = w

  -- the part that the cache c awaits is sent
  abbrev Answered : Cache Value → System Value → Type 0
  Answered c t = (q : Part Value) × Memᴰ q t.parts × (q.exchange ≡ c.exchange) × (q.turn ≡ c.next)

  hears-sent : (node : Node Value) {s t : System Value} (p : Step node s t) (m : Message) → Hears m p → Memᴰ m s.messages
  hears-sent node (alters stores) m h = absurd h
  hears-sent node (begins_read filters f) m h = absurd h
  hears-sent node begins_write m h = absurd h
  hears-sent node {s} (serves m' n stores i) m h = subst (λ (m : Message). Memᴰ m s.messages) h i
  hears-sent node (receives q i) m h = absurd h

  heard-sent : (node : Node Value) {s t : System Value} (run : Run node s t) → NoneBegun run → (m : Message) → Heard m run → Memᴰ m t.messages
  heard-sent node none c m h = absurd h
  heard-sent node {s} {t} (then {t = t'} run p) c m h = (goes_step node p c.1).messages m (go (heard-sent node run c.0 m) h)
    where
      go : (Heard m run → Memᴰ m t'.messages) → Heard m run ⊎ Hears m p → Memᴰ m t'.messages
      go r (inl a) = r a
      go r (inr b) = hears-sent node p m b

  of-answer : (s t : System Value) → Answer s t → Answered s.cache t
  of-answer s t a = (a.part, subst (λ (ps : List (Part Value)). Memᴰ a.part ps) (sym a.says) (mathlib.Core.List.Memᴰ.head refl), a.exchange, a.turn)

  -- the message that the cache waits on gets the part it awaits
  pub says : (node : Node Value) (s : System Value) → Reach node s → s.cache.reading ≡ true → (n : ℕ) (stores : List (Store Value)) (u : Message) → Memᴰ u s.messages → VersionFilters s.cache u
      → Answer s (serve node s u n stores)
  says node s r er n stores (read x filters) j w =
      subst (λ (x : ℕ). Answer s (serve node s (read x filters) n stores)) (sym w.0) (first_says node s (reach-inv node r) (reach-open node r) er n stores filters w.1)
  says node s r er n stores (write x) j w = absurd w
  says node s r er n stores (success x k) j w =
      subst (λ (x : ℕ). Answer s (serve node s (success x k) n stores)) (sym w.0)
      (later-says node s (reach-inv node r) (reach-open node r) er n stores k w.1 ((reach-open node r).messages (success x k) j).1)
  says node s r er n stores (failure x k) j w = absurd w

  hears-answered : (node : Node Value) {s t : System Value} → Reach node s → s.cache.reading ≡ true → (p : Step node s t) (m : Message) → Hears m p → VersionFilters s.cache m → Answered s.cache t
  hears-answered node r er (alters stores) m h wanted = absurd h
  hears-answered node r er (begins_read filters f) m h wanted = absurd h
  hears-answered node r er begins_write m h wanted = absurd h
  hears-answered node {s} r er (serves u n stores i) m h wanted =
      of-answer s (serve node s u n stores) (says node s r er n stores u i (subst (λ (u : Message). VersionFilters s.cache u) (sym h) wanted))
  hears-answered node r er (receives q i) m h wanted = absurd h

  -- a message that was sent and asks for a part later on asks for it now
  same_next : (s : System Value) → Open s → (c : Cache Value) → c.exchange ≡ s.cache.exchange → s.cache.next ≤ c.next → (m : Message) → Memᴰ m s.messages → VersionFilters c m → c.next ≡ s.cache.next
  same_next s v c e l (read x filters) i w = omega (arith, w.1, v.one)
  same_next s v c e l (write x) i w = absurd w
  same_next s v c e l (success x k) i w = omega (arith, w.1, (v.messages (success x k) i).0 (w.0 ∙ e))
  same_next s v c e l (failure x k) i w = absurd w

  answered : (node : Node Value) {s t : System Value} → Reach node s → (run : Run node s t) → NoneBegun run → t.cache.reading ≡ true → (m : Message) → Heard m run → VersionFilters t.cache m → Answered t.cache t
  answered node r none c er m h w = absurd h
  answered node {s} {t} r (then {t = t'} run p) c er m h w = go (answered node r run c.0 b.0 m) h
    where
      g : Goes t' t
      g = goes_step node p c.1

      b : (t'.cache.reading ≡ true) × (t'.cache.next ≤ t.cache.next)
      b = g.back er

      r' : Reach node t'
      r' = join r run

      on : Memᴰ m t'.messages → t.cache.next ≡ t'.cache.next
      on i = same_next t' (reach-open node r') t.cache g.exchange b.1 m i w

      was : Memᴰ m t'.messages → VersionFilters t'.cache m
      was i = version-filters-same t.cache t'.cache g.exchange (on i) m w

      same : Memᴰ m t'.messages → (q : Part Value) → Memᴰ q t.parts → q.exchange ≡ t'.cache.exchange → q.turn ≡ t'.cache.next → Answered t.cache t
      same i q j e f = (q, j, e ∙ sym g.exchange, f ∙ sym (on i))

      go : (Heard m run → VersionFilters t'.cache m → Answered t'.cache t') → Heard m run ⊎ Hears m p → Answered t.cache t
      go old (inl a) =
          let i : Memᴰ m t'.messages = heard-sent node run c.0 m a in
          let k : Answered t'.cache t' = old a (was i) in
          same i k.0 (g.parts k.0 k.1) k.2 k.3
      go old (inr a) =
          let i : Memᴰ m t'.messages = hears-sent node p m a in
          let k : Answered t'.cache t = hears-answered node r' b.0 p m a (was i) in
          same i k.0 k.1 k.2 k.3

  -- a part that has arrived is behind the turn awaited
  gets-moves : (node : Node Value) {s t : System Value} → Reach node s → s.cache.reading ≡ true → (p : Step node s t) (q : Part Value) → Gets q p → q.exchange ≡ s.cache.exchange → q.turn < t.cache.next
  gets-moves node r er (alters stores) q h = absurd h
  gets-moves node r er (begins_read filters f) q h = absurd h
  gets-moves node r er begins_write q h = absurd h
  gets-moves node r er (serves m n stores i) q h = absurd h
  gets-moves node {s} r er (receives m i) q h = subst (λ (q : Part Value). q.exchange ≡ s.cache.exchange → q.turn < (receive s m).cache.next) h (λ e. receive-moves s m e (near e) er)
    where
      near : m.exchange ≡ s.cache.exchange → m.turn ≤ s.cache.next
      near e = omega (arith, ((reach-inv node r).sent m i).before (e ∙ sym z), (reach-open node r).turn z)
        where
          z : s.row.exchange ≡ s.cache.exchange
          z = omega (arith, ((reach-inv node r).sent m i).begun, (reach-open node r).last)

  moved : (node : Node Value) {s t : System Value} → Reach node s → (run : Run node s t) → NoneBegun run → t.cache.reading ≡ true → (q : Part Value) → Got q run → q.exchange ≡ t.cache.exchange → q.turn < t.cache.next
  moved node r none c er q h e = absurd h
  moved node {s} {t} r (then {t = t'} run p) c er q h e = go (moved node r run c.0 b.0 q) h
    where
      g : Goes t' t
      g = goes_step node p c.1

      b : (t'.cache.reading ≡ true) × (t'.cache.next ≤ t.cache.next)
      b = g.back er

      go : (Got q run → q.exchange ≡ t'.cache.exchange → q.turn < t'.cache.next) → Got q run ⊎ Gets q p → q.turn < t.cache.next
      go old (inl a) = omega (arith, old a (e ∙ g.exchange), b.1)
      go old (inr a) = gets-moves node (join r run) b.0 p q a (e ∙ g.exchange)

  pub read-ends : (node : Node Value) {s t : System Value} → Reach node s → s.cache.reading ≡ true → (run : Run node s t) → NoneBegun run → Arrived run → Ending run
  read-ends node {s} {t} r er run c a = go t.cache.reading refl
    where
      o : On node run
      o = on-run node run c

      open-still : t.cache.reading ≡ true → ⊥
      open-still e = head ((reach-open node (join r run)).newest e)
        where
          left : (m : Message) → Memᴰ m t.messages → exchange_of m ≡ t.cache.exchange → VersionFilters t.cache m → ⊥
          left m i x w =
              let k : Answered t.cache t = answered node r run c e m (a.messages m i (x ∙ o.exchange)) w in
              absurd (omega (arith, k.3, moved node r run c e k.0 (a.parts k.0 k.1 (k.2 ∙ o.exchange)) k.2))

          head : Head t.cache t.messages → ⊥
          head (first us z q) = left (read t.cache.exchange t.cache.filters) (subst (λ (l : List Message). Memᴰ (read t.cache.exchange t.cache.filters) l) (sym q) (mathlib.Core.List.Memᴰ.head refl)) refl (refl, z)
          head (later us k z l q) = left (success t.cache.exchange k) (subst (λ (l : List Message). Memᴰ (success t.cache.exchange k) l) (sym q) (mathlib.Core.List.Memᴰ.head refl)) refl (refl, z)

      go : (b : Bool) → t.cache.reading ≡ b → Ending run
      go false e = o.ended er e
      go true e = absurd (open-still e)
