-- EVERY STEP OF THE ENDS IS A STEP OF THE PROTOCOL, or leaves it as it was.
use Rattle.std.specs.Prelude.{Some, None, Option}
use mathlib.Core.Path.{◌≡◌, refl, sym, ap, ◌∙◌, subst}
use mathlib.Core.Logic.{◌⊎◌, inl, inr}
use mathlib.Core.Bool.{Bool, true}
use mathlib.Core.List.Memᴰ
use mathlib.Core.List.{List, [], ◌∷◌, Memᴰ}
use Prim.Native.Nat.{ℕ, suc, ◌+◌, ◌-◌, ◌^◌, ◌≤◌, ◌<◌}
use native.Mathlib.Omega.{arith}
use borrow.Author.Tests.{eq-eqb, ltb-true, ltb-false}
use lib.Dec.{ltb}
use lib.ListN.{get_or, drop, length-take}
use Rattle.tlv_reader.specs.declared.Value.{Value}
use Rattle.tlv_reader.specs.declared.Value.TheVariants as value
use Rattle.tlv_reader.specs.Value.{Datum, datum_in}
use Rattle.tlv_reader.proofs.Picks.{pick-elim}
use Rattle.tlv_writer.specs.Meaning.{Writable}
use Rattle.node_schema.specs.Rules.{Rules}
use Rattle.node_schema.proofs.RulesLaws.{well-formed-rules}
use Rattle.node_schema.proofs.BoolLaws.{by-test}
use Rattle.node_kinds.specs.Stored.{Sized}
use Rattle.im_writer.specs.Spelling.{primitive_d}
use Rattle.im_writer.specs.Meaning.{PathFits}
use Rattle.proof_round_trip.specs.Meant.{WriteStatus}
use Rattle.im_envelope.specs.Envelope.{envelope_in, max_message}
use Rattle.im_exchange.specs.Rules.{max_turn}
use Rattle.server_replies.specs.Server as server
use Rattle.server.specs.Receive.{received}
use Rattle.server.specs.Valid.{Untouched}
use Rattle.server.proofs.StartLaws.{accepted-schema}
use Rattle.cache_state.specs.declared.CacheState.{CacheState}
use Rattle.cache_state.specs.State.{cache_right}
use Rattle.cache_state.specs.Reaction.{CacheReaction, refusal}
use Rattle.cache_state.specs.Begin as begin
use Rattle.cache_entries.specs.Values.{usable_in}
use Rattle.cache_messages.specs.Filters.{filters_of}
use Rattle.cache_receive.specs.Receive as cache
use Rattle.proof_protocol.specs.Model as Model
use Rattle.proof_protocol.specs.Model.{Filter, Node, Message, read, write, Part, ServedExchange, Cluster, System, Store, FiltersFor, exchange_of, store_all, begin_read, begin_write, serve, accept, awaited, receive}
use Rattle.proof_protocol.specs.Steps as model
use Rattle.proof_protocol.specs.Claims.{moved}
use Rattle.proof_protocol.proofs.SmallLaws.{by_cond}
use Rattle.proof_protocol.proofs.Inductive.{reach-inv}
use Rattle.proof_refinement.specs.Terms.{node_of, filters_as}
use Rattle.proof_refinement.specs.Bytes.{MessageAs, PartRight, part_bytes, answer_bytes, silent}
use Rattle.proof_refinement.specs.Server.{ServerAs, Serves}
use Rattle.proof_refinement.specs.Cache.{CacheAs}
use Rattle.proof_server_steps.proofs.Main.{fresh-as, message-served, change-served, other-silent, too_small, more-sent}
use Rattle.proof_cache_steps.proofs.Reactions.{Still, Begins, Takes}
use Rattle.proof_cache_steps.proofs.FreshLaws.{fresh-cache}
use Rattle.proof_cache_steps.proofs.BeginLaws.{read-begins, write-begins, resent}
use Rattle.proof_cache_steps.proofs.AnswerLaws.{answer-taken, room_small}
use Rattle.proof_cache_steps.proofs.PartLaws.{part-taken}
use Rattle.im_writer.specs.Envelope.{exchange_limit}
use Rattle.proof_promises.specs.World.{Plan, subject_of, World, Start, begin, granted, server_of, caller_of, with, after_server, after_cache, answered, altered, Typed}
use Rattle.proof_promises.specs.Runs.{Step, alters, begins_read, begins_write, resends, hears, hears_other, gets, BeginsNone, Hears, Gets}
use Rattle.proof_promises.proofs.MessageLaws.{InExchange, message-one, message-in, part-envelope, answer-envelope}
use Rattle.proof_promises.proofs.ReadableLaws.{readable-few, parts-few}
use Rattle.proof_promises.specs.Follows.{ReplyOf, part, answer, Stands, node}
use Rattle.proof_promises.proofs.Stands.{Told, nothing-sent, known, new-one, server-stands, cache-stands, cache-known, with_none}
use Rattle.im_envelope.specs.declared.Fields.{Fields}

-- a value as the code's types have it can be stored and written
pub typed-sized : (v : Value) → Typed v → Sized v
typed-sized value.Null t = tt
typed-sized (value.Boolean b) t = tt
typed-sized (value.Unsigned n) t = tt
typed-sized (value.Signed z) t = t
typed-sized (value.Float n) t = t
typed-sized (value.Text a n) t = tt
typed-sized value.Other t = tt

typed-writable : (src : List ℕ) (v : Value) → Typed v → (v ≡ value.Other) ⊎ Writable (primitive_d (datum_in src v))
unfolding Writable primitive_d
typed-writable src value.Null t = inr tt
typed-writable src (value.Boolean b) t = inr tt
typed-writable src (value.Unsigned n) t = inr t
typed-writable src (value.Signed z) t = inr t.sfits
typed-writable src (value.Float n) t = inr t
typed-writable src (value.Text a n) t = inr (omega (arith, t, length-take n (drop a src)))
typed-writable src value.Other t = inl refl

-- what is none of the kinds is not written
other-kept : (P : CacheReaction → Type 0) (page : List ℕ) (s : CacheState) (e c a : ℕ) (given : Bool) (version : ℕ) (src : List ℕ) (room : ℕ) → ((n : ℕ) → P (refusal n s page)) → P (begin.begins_write page s e c a given version src value.Other room)
unfolding begin.begins_write begin.sendable usable_in
other-kept P page s e c a given version src room f =
    pick-elim P (cache_right page s) _ _ (λ _. pick-elim P (ltb room max_message) _ _ (λ _. f 3) (λ _. pick-elim P (ltb s.asked.used (exchange_limit - 1)) _ _ (λ _. f 10) (λ _. f 8))) (λ _. f 2)

-- no bytes are no envelope
no-envelope : envelope_in [] ≡ None
unfolding envelope_in
no-envelope = refl

with-some : (m : List ℕ) (l : List (List ℕ)) → (m ≡ [] → ⊥) → with m l ≡ m ∷ l
with-some [] l n = absurd (n refl)
with-some (d ∷ m) l n = refl

abbrev pub opcode_in : Option Fields → ℕ
opcode_in None = 0
opcode_in (Some f) = f.opcode

-- an answer to a write is no part
pub other-reply : {w : List ℕ} (q : Part Datum) → PartRight w q → (x : ℕ) (o : WriteStatus) → x < exchange_limit → part_bytes w q ≡ answer_bytes x o → ⊥
other-reply {w} q r x o fx e =
    let five : ◌≡◌ {A = ℕ} 5 7 = ap opcode_in (sym (part-envelope w q r) ∙ ap envelope_in e ∙ answer-envelope x o fx) in omega (arith, five)

module _ (p : Plan) (b : Start p) where
  pub rules : Rules p.words
  rules = (well-formed-rules p.words).0 (accepted-schema p.words p.defaults b.accepts)

  -- what the protocol does while the ends take one step
  pub data Moves (s : System Datum) : System Datum → Type 0 where
    stays : Moves s s
    steps : {t : System Datum} → model.Step (node p b) s t → Moves s t

  abbrev pub BeginsNoneMove : {s t : System Datum} → Moves s t → Type 0
  BeginsNoneMove stays = Unit {0}
  BeginsNoneMove (steps x) = model.BeginsNone x

  abbrev pub HearsMove : Message → {s t : System Datum} → Moves s t → Type 0
  HearsMove q stays = ⊥
  HearsMove q (steps x) = model.Hears q x

  abbrev pub GetsMove : Part Datum → {s t : System Datum} → Moves s t → Type 0
  GetsMove q stays = ⊥
  GetsMove q (steps x) = model.Gets q x

  -- the part whose bytes the cache got
  pub record Received (m : List ℕ) {s t : System Datum} (move : Moves s t) : Type 0 where
    pub part-got : Part Datum
    pub bytes : m ≡ part_bytes p.words part-got
    pub right : PartRight p.words part-got
    pub gets-it : GetsMove part-got move

  pub record Shadow {u v : World} (step : Step p u v) (s : System Datum) : Type 0 where
    pub next : System Datum
    pub move : Moves s next
    pub stands : Stands p v next
    pub begins-none : BeginsNone step → BeginsNoneMove move
    pub heard : (m : List ℕ) → Hears m step → (q : Message) → MessageAs p.words m q → HearsMove q move
    pub got : (m : List ℕ) → Gets m step → (q : Part Datum) → PartRight p.words q → m ≡ part_bytes p.words q → Received m move

  module _ (u : World) (s : System Datum) (h : Stands p u s) (reach : model.Reach (node p b) s) where
    -- the protocol's bounds
    row_low : s.row.more ≡ true → s.row.turn < max_turn
    row_low e = omega (arith, (reach-inv (node p b) reach).row.size e, readable-few p.words (granted p))

    pub part_low : (q : Part Datum) → Memᴰ q s.parts → q.turn < max_turn
    part_low q i = omega (arith, ((reach-inv (node p b) reach).parts q i).few, parts-few p.words (granted p))

    pub older : (m : List ℕ) → Memᴰ m u.requests → (q : Message) × MessageAs p.words m q × (exchange_of q ≤ s.cache.exchange)
    older m i = let r = h.requests m i in (r.0, r.1, (reach-inv (node p b) reach).cache.ids r.0 r.2)

    -- THE SERVER
    -- a call that touched nothing
    still-serves : (x : server.ServerReaction) → Untouched u.server x → Serves (server_of p u.server) (granted p) u.requests x s s
    still-serves x k =
        record {
          server = subst (λ (z : server.ServerState). ServerAs (server_of p z) (granted p) u.requests s.clusters s.row) (sym k.state) h.server;
          made = [];
          reply-is = silent k.reply refl;
          parts = refl;
          cache = refl;
          messages = refl;
          counted = λ c _. same (get_or u.server.values.versions c 0) (get_or x.state.values.versions c 0) (ap (λ (z : server.ServerState). get_or z.values.versions c 0) (sym k.state)) (s.clusters c).changes;
        }
      where
        same : (a d : ℕ) → a ≡ d → (n : ℕ) → n ≡ n + moved a d
        same a d e n = omega arith

    unmoved : (x : server.ServerReaction) → Untouched u.server x → Stands p (after_server u x) s
    unmoved x k = server-stands p u s s h x (still-serves x k)

    -- a change at the server
    alter : (e c a : ℕ) (src : List ℕ) (new : Value) (t : Typed new) → Shadow {u = u} (alters e c a src new t) s
    alter e c a src new typed =
        let r = change-served (server_of p u.server) b.edits (granted p) b.words-fit s u.requests h.server e c a src new (typed-sized new typed) in
        go r.0 r.1 r.2
      where
        After : System Datum → Type 0
        After t = Serves (server_of p u.server) (granted p) u.requests (altered p u e c a src new) s t

        leaves : (t : System Datum) → After t → Stands p (after_server u (altered p u e c a src new)) t
        leaves t k = server-stands p u s t h (altered p u e c a src new) k

        go : (t : System Datum) → (stores : List (Store Datum)) × (t ≡ store_all s stores) → After t → Shadow {u = u} (alters e c a src new typed) s
        go t z k =
            record {
              next = store_all s z.0;
              move = steps (model.alters z.0);
              stands = leaves (store_all s z.0) (subst After z.1 k);
              begins-none = λ _. tt;
              heard = λ m x. absurd x;
              got = λ m x. absurd x;
            }

    -- a message of the cache
    pub serves-as : (m : List ℕ) (room : ℕ) → Memᴰ m u.requests → (q : Message) → MessageAs p.words m q → max_message ≤ room
        → (size : ℕ) × (stores : List (Store Datum)) × Serves (server_of p u.server) (granted p) u.requests (answered p u (subject_of p) m room) s (serve (node p b) s q size stores)
    serves-as m room i q a l =
        let r = message-served (server_of p u.server) b.edits (granted p) b.words-fit s u.requests h.server row_low m q a i room l in
        (r.0, r.1, subst (λ (z : Bool). Serves (server_of p u.server) (granted p) u.requests (by-table z) s (serve (node p b) s q r.0 r.1)) (sym b.table-right) r.2)
      where
        by-table : Bool → server.ServerReaction
        by-table t = received (server_of p u.server) (record { subject = subject_of p; grants = granted p; table = t }) m room

    hear : (m : List ℕ) (room : ℕ) (i : Memᴰ m u.requests) → Shadow {u = u} (hears m room i) s
    hear m room i = by-test (ltb room max_message) (λ t. small (ltb-true room max_message t)) (λ f. full (ltb-false room max_message f))
      where
        x : server.ServerReaction
        x = answered p u (subject_of p) m room

        small : room < max_message → Shadow {u = u} (hears m room i) s
        small l =
            record {
              next = s;
              move = stays;
              stands = unmoved x (too_small (server_of p u.server) b.edits (granted p) b.words-fit s u.requests h.server (caller_of p (subject_of p)) m room l);
              begins-none = λ _. tt;
              heard = λ z y. absurd (omega (arith, l, y.1));
              got = λ z y. absurd y;
            }

        full : max_message ≤ room → Shadow {u = u} (hears m room i) s
        full l =
            let q = h.requests m i in
            let r = serves-as m room i q.0 q.1 l in
            record {
              next = serve (node p b) s q.0 r.0 r.1;
              move = steps (model.serves q.0 r.0 r.1 q.2);
              stands = server-stands p u s (serve (node p b) s q.0 r.0 r.1) h x r.2;
              begins-none = λ _. tt;
              heard = λ z y v a. message-one p.words m q.0 v q.1 (subst (λ (y : List ℕ). MessageAs p.words y v) (sym y.0) a);
              got = λ z y. absurd y;
            }

    -- a message of another subject
    overhear : (subject : ℕ) (m : List ℕ) (room : ℕ) (n : subject ≡ subject_of p → ⊥) → Shadow {u = u} (hears_other subject m room n) s
    overhear subject m room n =
        record {
          next = s;
          move = stays;
          stands = unmoved (answered p u subject m room) (other-silent (server_of p u.server) b.edits (granted p) b.words-fit s u.requests h.server (caller_of p subject) m room n);
          begins-none = λ _. tt;
          heard = λ z y. absurd y;
          got = λ z y. absurd y;
        }

    -- THE CACHE
    -- a call that moved nothing
    unchanged : (x : CacheReaction) → x.state ≡ u.cache → x.page ≡ u.page → x.reply ≡ [] → Stands p (after_cache u x) s
    unchanged x es ep er =
        cache-stands p u s s h x (nothing-sent er refl) refl
        (subst (λ (z : List (List ℕ)). ServerAs (server_of p u.server) (granted p) z s.clusters s.row) (sym (with_none x.reply u.requests er)) h.server) (λ k. refl)
        (subst (λ (z : List (List ℕ)). CacheAs p.words z x.page x.state s.cache) (sym (with_none x.reply u.requests er))
        (moved-cache (sym es) (sym ep)))
      where
        moved-cache : u.cache ≡ x.state → u.page ≡ x.page → CacheAs p.words u.requests x.page x.state s.cache
        moved-cache a c = subst (λ z. CacheAs p.words u.requests x.page z s.cache) a (subst (λ (z : List ℕ). CacheAs p.words u.requests z u.cache s.cache) c h.cache)

    pub unbegun : (x : CacheReaction) → Still u.page u.cache x → Stands p (after_cache u x) s
    unbegun x k = unchanged x k.state k.page-is k.reply

    -- what a message begins with is not nothing
    pub some-message : (m : List ℕ) (q : Message) → MessageAs p.words m q → m ≡ [] → ⊥
    some-message m q a e = subst (InExchange (exchange_of q)) (ap envelope_in e ∙ no-envelope) (message-in p.words m q a)

    pub begun : (x : CacheReaction) (q : Message) (t : System Datum) → t.messages ≡ q ∷ s.messages → t.parts ≡ s.parts → t.clusters ≡ s.clusters → t.row ≡ s.row
        → Begins p.words u.requests x q t.cache → Stands p (after_cache u x) t
    begun x q t em ep ec er k =
        cache-stands p u s t h x (new-one q k.message em (some-message x.reply q k.message)) ep
        (subst (λ (z : List (List ℕ)). ServerAs (server_of p u.server) (granted p) z t.clusters t.row) (sym (with-some x.reply u.requests (some-message x.reply q k.message)))
        (subst (λ (z : ServedExchange Datum). ServerAs (server_of p u.server) (granted p) (x.reply ∷ u.requests) t.clusters z) (sym er)
        (subst (λ (z : ℕ → Cluster Datum). ServerAs (server_of p u.server) (granted p) (x.reply ∷ u.requests) z s.row) (sym ec)
        (more-sent (server_of p u.server) b.edits (granted p) b.words-fit s u.requests h.server x.reply))))
        (λ j. ap (λ (z : ℕ → Cluster Datum). (z j).changes) ec)
        (subst (λ (z : List (List ℕ)). CacheAs p.words z x.page x.state t.cache) (sym (with-some x.reply u.requests (some-message x.reply q k.message))) k.cache)

    begin-read : (room : ℕ) → Shadow {u = u} (begins_read room) s
    unfolding begin_read
    begin-read room = go (read-begins p.words rules u.page u.cache s u.requests h.cache older room)
      where
        x : CacheReaction
        x = begin.begins_read u.page u.cache room

        fs : List Filter
        fs = filters_as p.words (filters_of u.cache.held)

        go : (Still u.page u.cache x × (x.number ≡ 0 → ⊥))
            ⊎ (Begins p.words u.requests x (read (suc s.cache.exchange) fs) (begin_read s fs).cache × FiltersFor s.cache fs) → Shadow {u = u} (begins_read room) s
        go (inl k) = record { next = s; move = stays; stands = unbegun x k.0; begins-none = λ _. tt; heard = λ m y. absurd y; got = λ m y. absurd y }
        go (inr k) =
            record {
              next = begin_read s fs;
              move = steps (model.begins_read fs k.1);
              stands = begun x (read (suc s.cache.exchange) fs) (begin_read s fs) refl refl refl refl k.0;
              begins-none = λ n. n k.0.number;
              heard = λ m y. absurd y;
              got = λ m y. absurd y;
            }

    begin-write : (e c a : ℕ) (given : Bool) (version : ℕ) (src : List ℕ) (new : Value) (room : ℕ) (f : PathFits e c a) (l : version < 2 ^ 32) (t : Typed new) → Shadow {u = u} (begins_write e c a given version src new room f l t) s
    unfolding begin_write
    begin-write e c a given version src new room f l t = by_value (typed-writable src new t)
      where
        x : CacheReaction
        x = begin.begins_write u.page u.cache e c a given version src new room

        go : (Still u.page u.cache x × (x.number ≡ 0 → ⊥))
            ⊎ Begins p.words u.requests x (write (suc s.cache.exchange)) (begin_write s).cache → Shadow {u = u} (begins_write e c a given version src new room f l t) s
        go (inl k) = record { next = s; move = stays; stands = unbegun x k.0; begins-none = λ _. tt; heard = λ m y. absurd y; got = λ m y. absurd y }
        go (inr k) =
            record {
              next = begin_write s;
              move = steps model.begins_write;
              stands = begun x (write (suc s.cache.exchange)) (begin_write s) refl refl refl refl k;
              begins-none = λ n. n k.number;
              heard = λ m y. absurd y;
              got = λ m y. absurd y;
            }

        by_value : (new ≡ value.Other) ⊎ Writable (primitive_d (datum_in src new)) → Shadow {u = u} (begins_write e c a given version src new room f l t) s
        by_value (inr k) = go (write-begins p.words rules u.page u.cache s u.requests h.cache older e c a given version src new room l f k)
        by_value (inl z) =
            record {
              next = s;
              move = stays;
              stands = subst (λ (y : Value). Stands p (after_cache u (begin.begins_write u.page u.cache e c a given version src y room)) s) (sym z)
                  (other-kept (λ (r : CacheReaction). Stands p (after_cache u r) s) u.page u.cache e c a given version src room (λ n. unchanged (refusal n u.cache u.page) refl refl refl));
              begins-none = λ _. tt;
              heard = λ m y. absurd y;
              got = λ m y. absurd y;
            }

    resend : (room : ℕ) → Shadow {u = u} (resends room) s
    resend room = record { next = s; move = stays; stands = go k.2; begins-none = λ _. tt; heard = λ m y. absurd y; got = λ m y. absurd y }
      where
        x : CacheReaction
        x = begin.resends u.page u.cache room

        k : (x.state ≡ u.cache) × (x.page ≡ u.page) × ((x.reply ≡ []) ⊎ Memᴰ x.reply u.requests)
        k = resent p.words rules u.page u.cache s u.requests h.cache older room

        again : (m : List ℕ) → Memᴰ m u.requests → ServerAs (server_of p u.server) (granted p) (with m u.requests) s.clusters s.row × CacheAs p.words (with m u.requests) u.page u.cache s.cache
        again [] i = (h.server, h.cache)
        again (d ∷ m) i = (more-sent (server_of p u.server) b.edits (granted p) b.words-fit s u.requests h.server (d ∷ m), cache-known p.words u.requests (d ∷ m) u.page u.cache s.cache i h.cache)

        go : (x.reply ≡ []) ⊎ Memᴰ x.reply u.requests → Stands p (after_cache u x) s
        go (inl e) = unchanged x k.0 k.1 e
        go (inr i) =
            cache-stands p u s s h x (known i refl) refl (again x.reply i).0 (λ j. refl)
            (subst (λ z. CacheAs p.words (with x.reply u.requests) x.page z s.cache) (sym k.0) (subst (λ (z : List ℕ). CacheAs p.words (with x.reply u.requests) z u.cache s.cache) (sym k.1) (again x.reply i).1))

    -- a reply taken: what it leads to
    pub taken : (x : CacheReaction) (t : System Datum) → t.parts ≡ s.parts → t.clusters ≡ s.clusters → t.row ≡ s.row → Takes p.words u.requests s x t → Stands p (after_cache u x) t
    taken x t ep ec er k =
        cache-stands p u s t h x (go k.told) ep
        (subst (λ (z : ServedExchange Datum). ServerAs (server_of p u.server) (granted p) (with x.reply u.requests) t.clusters z) (sym er)
        (subst (λ (z : ℕ → Cluster Datum). ServerAs (server_of p u.server) (granted p) (with x.reply u.requests) z s.row) (sym ec) (grown x.reply)))
        (λ j. ap (λ (z : ℕ → Cluster Datum). (z j).changes) ec) k.cache
      where
        go : ((x.reply ≡ []) × (t.messages ≡ s.messages)) ⊎ ((q : Message) × MessageAs p.words x.reply q × (t.messages ≡ q ∷ s.messages) × (x.reply ≡ [] → ⊥)) → Told p u s t x.reply
        go (inl z) = nothing-sent z.0 z.1
        go (inr z) = new-one z.0 z.1 z.2 z.3

        grown : (m : List ℕ) → ServerAs (server_of p u.server) (granted p) (with m u.requests) s.clusters s.row
        grown [] = h.server
        grown (d ∷ m) = more-sent (server_of p u.server) b.edits (granted p) b.words-fit s u.requests h.server (d ∷ m)

    pub receive-same : (q : Part Datum) → ((receive s q).parts ≡ s.parts) × ((receive s q).clusters ≡ s.clusters) × ((receive s q).row ≡ s.row)
    unfolding receive accept
    receive-same q = by_cond (λ (t : System Datum). (t.parts ≡ s.parts) × (t.clusters ≡ s.clusters) × (t.row ≡ s.row)) (awaited s.cache q) (λ _. (refl, refl, refl)) (λ _. (refl, refl, refl))

    pub takes_part_lem : (q : Part Datum) → Memᴰ q s.parts → (room : ℕ) → max_message ≤ room → Takes p.words u.requests s (cache.received u.page u.cache (part_bytes p.words q) room) (receive s q)
    takes_part_lem q j room l = part-taken p.words rules u.page u.cache s u.requests h.cache older q (h.parts q j).1 (λ _. part_low q j) room l

    get : (m : List ℕ) (room : ℕ) (i : Memᴰ m u.replies) → Shadow {u = u} (gets m room i) s
    get m room i = by-test (ltb room max_message) (λ t. small (ltb-true room max_message t)) (λ f. full (ltb-false room max_message f) (h.replies m i))
      where
        x : CacheReaction
        x = cache.received u.page u.cache m room

        small : room < max_message → Shadow {u = u} (gets m room i) s
        small l = record { next = s; move = stays; stands = unbegun x (room_small p.words rules u.page u.cache s u.requests h.cache older m room l); begins-none = λ _. tt; heard = λ z y. absurd y; got = λ z y. absurd (omega (arith, l, y.1)) }

        full : max_message ≤ room → ReplyOf p.words u.requests s.parts m → Shadow {u = u} (gets m room i) s
        full l (part q j e) =
            let right : PartRight p.words q = (h.parts q j).1 in
            let same = receive-same q in
            let k : Takes p.words u.requests s x (receive s q) =
            subst (λ (z : List ℕ). Takes p.words u.requests s (cache.received u.page u.cache z room) (receive s q)) (sym e)
            (part-taken p.words rules u.page u.cache s u.requests h.cache older q right (λ _. part_low q j) room l) in
            record {
              next = receive s q;
              move = steps (model.receives q j);
              stands = taken x (receive s q) same.0 same.1 same.2 k;
              begins-none = λ _. tt;
              heard = λ z y. absurd y;
              got = λ z y v r f. record { part-got = q; bytes = sym y.0 ∙ e; right = right; gets-it = refl };
            }
        full l (answer n o e fn fo wrote) =
            let k : Takes p.words u.requests s x s =
            subst (λ (z : List ℕ). Takes p.words u.requests s (cache.received u.page u.cache z room) s) (sym e)
            (answer-taken p.words rules u.page u.cache s u.requests h.cache older n o fn fo wrote room l) in
            record {
              next = s;
              move = stays;
              stands = taken x s refl refl refl k;
              begins-none = λ _. tt;
              heard = λ z y. absurd y;
              got = λ z y v r f. absurd (other-reply v r n o fn (sym f ∙ sym y.0 ∙ e));
            }

    -- ONE STEP
    pub shadow : {v : World} (step : Step p u v) → Shadow step s
    shadow (alters e c a src new t) = alter e c a src new t
    shadow (begins_read room) = begin-read room
    shadow (begins_write e c a given version src new room f l t) = begin-write e c a given version src new room f l t
    shadow (resends room) = resend room
    shadow (hears m room i) = hear m room i
    shadow (hears_other subject m room n) = overhear subject m room n
    shadow (gets m room i) = get m room i

  -- FRESH ENDS
  pub stands-fresh : Stands p (begin p b) (Model.start (node p b))
  stands-fresh =
      record {
        server = fresh-as p.words p.defaults b.edits (granted p) b.accepts b.edits-size [];
        cache = fresh-cache p.words rules (node p b) b.page b.page-size [];
        requests = λ m i. absurd (Memᴰ.not-nil i);
        messages = λ q i. absurd (Memᴰ.not-nil i);
        replies = λ m i. absurd (Memᴰ.not-nil i);
        parts = λ q i. absurd (Memᴰ.not-nil i);
        counted = λ k l. refl;
      }
