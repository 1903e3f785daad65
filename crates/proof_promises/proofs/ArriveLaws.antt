-- The hypotheses of the second half can always be met: whatever has happened, all messages of a read that begins can arrive.
use Rattle.std.specs.Prelude.{Some, None, Option}
use mathlib.Core.Path.{◌≡◌, refl, sym, ap, ◌∙◌, subst}
use mathlib.Core.Logic.{◌⊎◌, inl, inr}
use mathlib.Core.Bool.{Bool, true, false, ◌&&◌}
use mathlib.Core.List.{List, [], ◌∷◌, ◌++◌, Memᴰ}
use Prim.Native.Nat.{ℕ, zero, suc, ◌+◌, ◌≤◌, ◌<◌}
use native.Mathlib.Omega.{arith}
use lib.Dec.{T, eqb}
use lib.ListN.{length}
use Rattle.tlv_reader.specs.Value.{Datum}
use Rattle.im_envelope.specs.Envelope.{envelope_in, max_message}
use Rattle.cache_state.specs.Reaction.{CacheReaction}
use Rattle.cache_state.specs.Begin as begin
use Rattle.cache_messages.specs.Filters.{filters_of}
use Rattle.cache_receive.specs.Receive as cache
use Rattle.server_replies.specs.Server as server
use Rattle.proof_trip.proofs.BeginLaws.{write-envelope}
use Rattle.proof_protocol.specs.Model.{Filter, Message, read, success, Part, Cache, System, Store, exchange_of, serve, begin_read, accept, awaited, receive, FiltersFor}
use Rattle.proof_protocol.specs.Steps as model
use Rattle.proof_protocol.specs.Claims.{most_parts}
use Rattle.proof_protocol.proofs.SmallLaws.{T_true, T_of}
use Rattle.proof_protocol.proofs.Invariant.{Reading, fresh, behind}
use Rattle.proof_protocol.proofs.ServeLaws.{most-one, most-all}
use Rattle.proof_protocol.proofs.Inductive.{reach-inv}
use Rattle.proof_protocol.proofs.OpenLaws.{reach-open}
use Rattle.proof_protocol.proofs.ProgressLaws.{T_and, eqb_of, Answer, VersionFilters, says}
use Rattle.proof_refinement.specs.Terms.{filters_as}
use Rattle.proof_refinement.specs.Bytes.{MessageAs, part_bytes, ReplyAs, silent, reports, answers}
use Rattle.proof_refinement.specs.Server.{Serves}
use Rattle.proof_cache_steps.proofs.Reactions.{Still, Begins, Takes}
use Rattle.proof_cache_steps.proofs.BeginLaws.{read-begins}
use Rattle.im_writer.specs.Envelope.{cache_edition}
use Rattle.proof_promises.specs.World.{Plan, World, Start, subject_of, granted, server_of, with, after_server, after_cache, answered}
use Rattle.proof_promises.specs.Runs.{hears, gets, Run, none, then, Reach, NoneBegun, Heard, Got}
use Rattle.proof_promises.specs.Claims.{In, Complete, Possible}
use Rattle.proof_promises.specs.Claims as claims
use Rattle.proof_promises.proofs.MessageLaws.{InExchange, message-in, part-envelope, answer-envelope}
use Rattle.proof_promises.specs.Follows.{ReplyOf, part, answer, Stands, node}
use Rattle.proof_promises.proofs.Stands.{with_cases, with-new, with_none, server-stands}
use Rattle.proof_promises.proofs.StepLaws.{rules, older, serves-as, takes_part_lem, taken, receive-same, some-message, begun}
use Rattle.proof_promises.proofs.FirstLaws.{just-same, nothing-just, from-fresh}
use Rattle.im_envelope.specs.declared.Fields.{Fields}

longer : {A : Type 0} (x : A) (l : List A) → l ≡ x ∷ l → ⊥
longer x l h = let z : length l ≡ suc (length l) = ap length h in omega (arith, z)

same_head : {A : Type 0} (x y : A) (l : List A) → x ∷ l ≡ y ∷ l → x ≡ y
same_head x y l h = cc

module _ (p : Plan) (b : Start p) where
  abbrev w : List ℕ
  w = p.words

  -- all of the read has arrived but its newest message
  record Almost {u t : World} (run : Run p u t) (s : System Datum) : Type 0 where
    stands : Stands p t s
    reach : model.Reach (node p b) s
    none-begun : NoneBegun run
    reads : s.cache.reading ≡ true
    newest : List ℕ
    message : Message
    means : MessageAs w newest message
    there : Memᴰ newest t.requests
    here : Memᴰ message s.messages
    wants : VersionFilters s.cache message
    heard : (m : List ℕ) → Memᴰ m t.requests → In u.cache.asked.exchange m → (m ≡ newest) ⊎ Heard m run
    got : (m : List ℕ) → Memᴰ m t.replies → In u.cache.asked.exchange m → Got m run

  -- ONE MORE ROUND: the newest message arrives, and the part that it gets
  module _ {u t : World} (run : Run p u t) (s : System Datum) (k : Almost run s) where
    abbrev x : server.ServerReaction
    x = answered p t (subject_of p) k.newest max_message

    abbrev t₁ : World
    t₁ = after_server t x

    full : max_message ≤ max_message
    full = omega arith

    made : (size : ℕ) × (stores : List (Store Datum)) × Serves (server_of p t.server) (granted p) t.requests x s (serve (node p b) s k.message size stores)
    made = serves-as p b t s k.stands k.reach k.newest max_message k.there k.message k.means full

    abbrev s₁ : System Datum
    s₁ = serve (node p b) s k.message made.0 made.1

    stands₁ : Stands p t₁ s₁
    stands₁ = server-stands p t s s₁ k.stands x made.2

    reach₁ : model.Reach (node p b) s₁
    reach₁ = model.then k.reach (model.serves k.message made.0 made.1 k.here)

    told : Answer s s₁
    told = says (node p b) s k.reach k.reads made.0 made.1 k.message k.here k.wants

    abbrev q : Part Datum
    q = told.part

    sent : Memᴰ q s₁.parts
    sent = subst (λ (l : List (Part Datum)). Memᴰ q l) (sym told.says) (Memᴰ.head refl)

    -- the reply is that part
    reply-is : x.reply ≡ part_bytes w q
    reply-is = go made.2.reply-is
      where
        parts : made.2.made ++ s.parts ≡ q ∷ s.parts
        parts = sym made.2.parts ∙ told.says

        nothing-made : made.2.made ≡ [] → ⊥
        nothing-made e = longer q s.parts (ap (λ (l : List (Part Datum)). l ++ s.parts) (sym e) ∙ parts)

        go : ReplyAs w t.requests x.reply made.2.made → x.reply ≡ part_bytes w q
        go (silent e f) = absurd (nothing-made f)
        go (reports r e f right) = e ∙ ap (part_bytes w) (same_head r q s.parts (ap (λ (l : List (Part Datum)). l ++ s.parts) (sym f) ∙ parts))
        go (answers n o e f fn fo z) = absurd (nothing-made f)

    abbrev y : CacheReaction
    y = cache.received t₁.page t₁.cache (part_bytes w q) max_message

    abbrev t₂ : World
    t₂ = after_cache t₁ y

    takes : Takes w t₁.requests s₁ y (receive s₁ q)
    takes = takes_part_lem p b t₁ s₁ stands₁ reach₁ q sent max_message full

    stands₂ : Stands p t₂ (receive s₁ q)
    stands₂ = let same = receive-same p b t₁ s₁ stands₁ reach₁ q in taken p b t₁ s₁ stands₁ reach₁ y (receive s₁ q) same.0 same.1 same.2 takes

    reach₂ : model.Reach (node p b) (receive s₁ q)
    reach₂ = model.then reach₁ (model.receives q sent)

    abbrev run₂ : Run p u t₂
    run₂ = then (then run (hears k.newest max_message k.there)) (gets (part_bytes w q) max_message (stands₁.parts q sent).0)

    -- the cache awaits it
    cache-same : s₁.cache ≡ s.cache
    cache-same = made.2.cache

    wanted : T (awaited s₁.cache q)
    wanted =
        subst (λ (c : Cache Datum). T (awaited c q)) (sym cache-same)
        (T_and (eqb q.exchange s.cache.exchange && eqb q.turn s.cache.next) s.cache.reading
        (T_and (eqb q.exchange s.cache.exchange) (eqb q.turn s.cache.next) (eqb_of q.exchange s.cache.exchange told.exchange) (eqb_of q.turn s.cache.next told.turn))
        (T_of s.cache.reading k.reads))

    accepted : receive s₁ q ≡ accept s₁ q
    unfolding receive
    accepted = rw (T_true (awaited s₁.cache q) wanted)

    -- what has then arrived
    all-heard : (m : List ℕ) → Memᴰ m t.requests → In u.cache.asked.exchange m → Heard m run₂
    all-heard m i e = go (k.heard m i e)
      where
        go : (m ≡ k.newest) ⊎ Heard m run → Heard m run₂
        go (inl z) = inl (inr (sym z, full))
        go (inr z) = inl (inl z)

    all-got : (m : List ℕ) → Memᴰ m t₁.replies → In u.cache.asked.exchange m → Got m run₂
    unfolding after_server
    all-got m i e = go (with_cases x.reply t.replies m i)
      where
        go : (m ≡ x.reply) ⊎ Memᴰ m t.replies → Got m run₂
        go (inl z) = inr (sym (z ∙ reply-is), full)
        go (inr z) = inl (inl (k.got m z e))

    -- a last part: all has arrived
    ended : q.more ≡ false → Complete p u
    unfolding after_cache after_server accept
    ended e = record { end = t₂; run = run₂; none-begun = ((k.none-begun, tt), tt); arrived = record { requests = λ m i. all-heard m (subst (λ (l : List (List ℕ)). Memᴰ m l) begins-none i); replies = all-got } }
      where
        still : (receive s₁ q).messages ≡ s₁.messages
        still = ap (λ (z : System Datum). z.messages) accepted ∙ rw e refl

        go : ((y.reply ≡ []) × ((receive s₁ q).messages ≡ s₁.messages)) ⊎ ((v : Message) × MessageAs w y.reply v × ((receive s₁ q).messages ≡ v ∷ s₁.messages) × (y.reply ≡ [] → ⊥)) → y.reply ≡ []
        go (inl z) = z.0
        go (inr z) = absurd (longer z.0 s₁.messages (sym still ∙ z.2))

        begins-none : with y.reply t.requests ≡ t.requests
        begins-none = with_none y.reply t.requests (go takes.told)

    -- else the success for it is the newest message
    next-is : (receive s₁ q).cache.next ≡ suc s.cache.next
    unfolding accept
    next-is = ap (λ (z : System Datum). z.cache.next) accepted ∙ ap suc told.turn

    goes_on_lem : q.more ≡ true → Almost run₂ (receive s₁ q)
    unfolding after_cache after_server accept
    goes_on_lem e = go takes.told
      where
        more : (receive s₁ q).messages ≡ success q.exchange q.turn ∷ s₁.messages
        more = ap (λ (z : System Datum). z.messages) accepted ∙ rw e refl

        go : ((y.reply ≡ []) × ((receive s₁ q).messages ≡ s₁.messages)) ⊎ ((v : Message) × MessageAs w y.reply v × ((receive s₁ q).messages ≡ v ∷ s₁.messages) × (y.reply ≡ [] → ⊥)) → Almost run₂ (receive s₁ q)
        go (inl z) = absurd (longer (success q.exchange q.turn) s₁.messages (sym z.1 ∙ more))
        go (inr z) =
            record {
              stands = stands₂;
              reach = reach₂;
              none-begun = ((k.none-begun, tt), tt);
              reads = ap (λ (c : System Datum). c.cache.reading) accepted ∙ e;
              newest = y.reply;
              message = z.0;
              means = z.1;
              there = with-new y.reply t.requests z.3;
              here = subst (λ (l : List Message). Memᴰ z.0 l) (sym z.2) (Memᴰ.head refl);
              wants = subst (VersionFilters (receive s₁ q).cache) (same_head (success q.exchange q.turn) z.0 s₁.messages (sym more ∙ z.2)) (own, next-is ∙ ap suc (sym told.turn));
              heard = λ m i f. heard m f (with_cases y.reply t.requests m i);
              got = all-got;
            }
          where
            own : q.exchange ≡ (receive s₁ q).cache.exchange
            own = told.exchange ∙ ap (λ (c : Cache Datum). c.exchange) (sym cache-same) ∙ sym (ap (λ (c : System Datum). c.cache.exchange) accepted)

            heard : (m : List ℕ) → In u.cache.asked.exchange m → (m ≡ y.reply) ⊎ Memᴰ m t.requests → (m ≡ y.reply) ⊎ Heard m run₂
            heard m f (inl a) = inl a
            heard m f (inr a) = inr (all-heard m a f)

  -- THE ROUNDS END
  open-bound : (s : System Datum) → model.Reach (node p b) s → s.cache.reading ≡ true → s.cache.next ≤ most_parts (node p b).readable
  open-bound s r e = go ((reach-inv (node p b) r).cache.at e)
    where
      go : Reading (node p b) s.parts s.cache → s.cache.next ≤ most_parts (node p b).readable
      go (fresh z f) = omega (arith, z, most-one (node p b).readable)
      go (behind m i x n g cover vouched) = omega (arith, n, ((reach-inv (node p b) r).parts m i).short g, most-all (node p b).readable)

  rounds : (n : ℕ) {u t : World} (run : Run p u t) (s : System Datum) → Almost run s → most_parts (node p b).readable < n + s.cache.next → Complete p u
  rounds zero run s k l = absurd (omega (arith, l, open-bound s k.reach k.reads))
  rounds (suc n) {u} run s k l = go (λ e. rounds n (run₂ run s k) (receive (s₁ run s k) (q run s k)) (goes_on_lem run s k e) (omega (arith, l, next-is run s k))) (q run s k).more refl
    where
      go : ((q run s k).more ≡ true → Complete p u) → (m : Bool) → (q run s k).more ≡ m → Complete p u
      go on false e = ended run s k e
      go on true e = on e

  -- A READ THAT BEGINS: nothing of its exchange was ever sent before
  module _ (u : World) (reach : Reach p b u) (room : ℕ) where
    abbrev s : System Datum
    s = (from-fresh p b reach).end

    abbrev stands : Stands p u s
    stands = (from-fresh p b reach).stands

    abbrev follows : model.Reach (node p b) s
    follows = (from-fresh p b reach).follows

    abbrev z : CacheReaction
    z = begin.begins_read u.page u.cache room

    abbrev fs : List Filter
    fs = filters_as w (filters_of u.cache.held)

    abbrev v : World
    v = after_cache u z

    -- an exchange that was used is not the new one
    abbrev Below : Option Fields → Type 0
    Below None = Unit {0}
    Below (Some f) = f.exchange ≤ s.cache.exchange

    request-below : (m : List ℕ) → Memᴰ m u.requests → Below (envelope_in m)
    request-below m i =
        let r = older p b u s stands follows m i in
        go (envelope_in m) (message-in w m r.0 r.1) r.2
      where
        go : {n : ℕ} (e : (Option Fields)) → InExchange n e → n ≤ s.cache.exchange → Below e
        go None h l = tt
        go (Some f) h l = omega (arith, h, l)

    reply-below : (m : List ℕ) → Memᴰ m u.replies → Below (envelope_in m)
    reply-below m i = go (stands.replies m i)
      where
        go : ReplyOf w u.requests s.parts m → Below (envelope_in m)
        go (part r j e) =
            subst Below (sym (ap envelope_in e ∙ part-envelope w r (stands.parts r j).1))
            (omega (arith, ((reach-inv (node p b) follows).sent r j).begun, (reach-open (node p b) follows).last))
        go (answer n o e fn fo wrote) =
            subst Below (sym (ap envelope_in e ∙ answer-envelope n o fn))
            (subst Below (write-envelope cache_edition n wrote.given wrote.version o.endpoint o.cluster o.attribute wrote.value (omega arith) fn) (request-below _ wrote.there))

    not_new : (n : ℕ) (e : (Option Fields)) → Below e → claims.exchange_of e ≡ Some n → s.cache.exchange < n → ⊥
    not_new n None h q l = nothing-just n q
    not_new n (Some f) h q l = let same : f.exchange ≡ n = just-same f.exchange n q in omega (arith, h, same, l)

    begins : z.number ≡ 0 → Complete p v
    unfolding begin_read after_cache
    begins number = go (read-begins w (rules p b) u.page u.cache s u.requests stands.cache (older p b u s stands follows) room)
      where
        go : (Still u.page u.cache z × (z.number ≡ 0 → ⊥)) ⊎ (Begins w u.requests z (read (suc s.cache.exchange) fs) (begin_read s fs).cache × FiltersFor s.cache fs) → Complete p v
        go (inl k) = absurd (k.1 number)
        go (inr k) = rounds (suc (most_parts (node p b).readable)) none (begin_read s fs) almost (omega arith)
          where
            here : Stands p v (begin_read s fs)
            here = begun p b u s stands follows z (read (suc s.cache.exchange) fs) (begin_read s fs) refl refl refl refl k.0

            own : suc s.cache.exchange ≡ v.cache.asked.exchange
            own = here.cache.exchange

            almost : Almost {u = v} {t = v} none (begin_read s fs)
            almost =
                record {
                  stands = here;
                  reach = model.then follows (model.begins_read fs k.1);
                  none-begun = tt;
                  reads = refl;
                  newest = z.reply;
                  message = read (suc s.cache.exchange) fs;
                  means = k.0.message;
                  there = with-new z.reply u.requests (some-message p b u s stands follows z.reply (read (suc s.cache.exchange) fs) k.0.message);
                  here = Memᴰ.head refl;
                  wants = (refl, refl);
                  heard = λ m i e. old m e (with_cases z.reply u.requests m i);
                  got = λ m i e. absurd (not_new v.cache.asked.exchange (envelope_in m) (reply-below m i) e (omega (arith, own)));
                }
              where
                old : (m : List ℕ) → In v.cache.asked.exchange m → (m ≡ z.reply) ⊎ Memᴰ m u.requests → (m ≡ z.reply) ⊎ ⊥
                old m e (inl f) = inl f
                old m e (inr i) = absurd (not_new v.cache.asked.exchange (envelope_in m) (request-below m i) e (omega (arith, own)))

pub possible : Possible
possible p b u reach room number = begins p b u reach room number
