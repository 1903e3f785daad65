-- What keeps both ends in bytes standing for a state of the protocol.
use Rattle.std.specs.Prelude.{Some, None, Option}
use mathlib.Core.Path.{◌≡◌, refl, sym, ap, ◌∙◌, subst}
use mathlib.Core.Logic.{◌⊎◌, inl, inr}
use mathlib.Core.List.Memᴰ
use mathlib.Core.List.{List, [], ◌∷◌, ◌++◌, Memᴰ}
use Prim.Native.Nat.{ℕ, ◌+◌, ◌<◌}
use native.Mathlib.Omega.{arith}
use Rattle.tlv_reader.specs.Value.{Datum}
use Rattle.node_schema.specs.Rows.{count_of_clusters}
use Rattle.proof_round_trip.specs.Meant.{WriteStatus, OutcomeFits}
use Rattle.im_envelope.specs.Envelope.{envelope_in}
use Rattle.server_replies.specs.Server as server
use Rattle.cache_state.specs.declared.CacheState.{CacheState}
use Rattle.cache_state.specs.Reaction.{CacheReaction}
use Rattle.proof_protocol.specs.Model.{Message, Part, Cache, System}
use Rattle.proof_refinement.specs.Bytes.{MessageAs, PartRight, part_bytes, answer_bytes, Wrote, ReplyAs, silent, reports, answers}
use Rattle.proof_refinement.specs.Server.{ServerAs, Serves}
use Rattle.proof_refinement.specs.Cache.{CacheAs}
use Rattle.im_writer.specs.Envelope.{exchange_limit}
use Rattle.proof_promises.specs.World.{Plan, World, granted, server_of, with, after_server, after_cache}
use Rattle.proof_promises.specs.Follows.{ReplyOf, part, answer, Stands}
use Rattle.proof_promises.proofs.MessageLaws.{part-envelope}
use Rattle.im_envelope.specs.declared.Fields.{Fields}

-- WHAT IS SENT GROWS
-- a message that is there was there, or is the new one
pub with_cases : (m : List ℕ) (l : List (List ℕ)) (x : List ℕ) → Memᴰ x (with m l) → (x ≡ m) ⊎ Memᴰ x l
with_cases [] l x i = inr i
with_cases (b ∷ m) l x (Memᴰ.head e) = inl e
with_cases (b ∷ m) l x (Memᴰ.tail i) = inr i

pub with-old : (m : List ℕ) (l : List (List ℕ)) (x : List ℕ) → Memᴰ x l → Memᴰ x (with m l)
with-old [] l x i = i
with-old (b ∷ m) l x i = Memᴰ.tail i

pub with-new : (m : List ℕ) (l : List (List ℕ)) → (m ≡ [] → ⊥) → Memᴰ m (with m l)
with-new [] l n = absurd (n refl)
with-new (b ∷ m) l n = Memᴰ.head refl

pub with_none : (m : List ℕ) (l : List (List ℕ)) → m ≡ [] → with m l ≡ l
with_none m l e = ap (λ (x : List ℕ). with x l) e

-- nothing is not an envelope
some-envelope : (m : List ℕ) (e : (Option Fields)) → envelope_in m ≡ e → (e ≡ None → ⊥) → m ≡ [] → ⊥
unfolding envelope_in
some-envelope m e h n z = n (sym h ∙ ap envelope_in z)

whole-not-short : {e : (Option Fields)} {f : _} → e ≡ Some f → e ≡ None → ⊥
whole-not-short h k = let q : ◌≡◌ {A = ℕ} 0 1 = cc in omega (arith, q)

pub part-some : (w : List ℕ) (q : Part Datum) → PartRight w q → part_bytes w q ≡ [] → ⊥
part-some w q r = some-envelope (part_bytes w q) (envelope_in (part_bytes w q)) refl (whole-not-short (part-envelope w q r))

wrote-later : (l l' : List (List ℕ)) → ((m : List ℕ) → Memᴰ m l → Memᴰ m l') → (x e c a : ℕ) → Wrote l x e c a → Wrote l' x e c a
wrote-later l l' grow x e c a k = record { given = k.given; version = k.version; value = k.value; fits = k.fits; there = grow _ k.there }

pub reply-later : (w : List ℕ) (l l' : List (List ℕ)) (q q' : List (Part Datum)) → ((m : List ℕ) → Memᴰ m l → Memᴰ m l') → ((r : Part Datum) → Memᴰ r q → Memᴰ r q') → (m : List ℕ) → ReplyOf w l q m → ReplyOf w l' q' m
reply-later w l l' q q' grow more m (part r i e) = part r (more r i) e
reply-later w l l' q q' grow more m (answer x o e fx fo k) = answer x o e fx fo (wrote-later l l' grow x o.endpoint o.cluster o.attribute k)

-- in the second of two lists
pub mem-right : {A : Type 0} {x : A} (a b : List A) → Memᴰ x b → Memᴰ x (a ++ b)
mem-right [] b i = i
mem-right (y ∷ a) b i = Memᴰ.tail (mem-right a b i)

only_one : {A : Type 0} {x y : A} → Memᴰ x (y ∷ []) → x ≡ y
only_one (Memᴰ.head e) = e
only_one (Memᴰ.tail i) = absurd (Memᴰ.not-nil i)

-- A CALL OF THE SERVER
module _ (p : Plan) (u : World) (s t : System Datum) (h : Stands p u s) (x : server.ServerReaction) (k : Serves (server_of p u.server) (granted p) u.requests x s t) where
  abbrev reply : List ℕ
  reply = x.reply

  abbrev w : List ℕ
  w = p.words

  older-part : (r : Part Datum) → Memᴰ r s.parts → Memᴰ r t.parts
  older-part r i = subst (λ (l : List (Part Datum)). Memᴰ r l) (sym k.parts) (mem-right k.made s.parts i)

  made-part : (r : Part Datum) → k.made ≡ r ∷ [] → Memᴰ r t.parts
  made-part r e = subst (λ (l : List (Part Datum)). Memᴰ r l) (sym (k.parts ∙ ap (λ (l : List (Part Datum)). l ++ s.parts) e)) (Memᴰ.head refl)

  reply-of : ReplyAs w u.requests reply k.made → (m : List ℕ) → m ≡ reply → Memᴰ m (with reply u.replies) → ReplyOf w u.requests t.parts m
  reply-of (silent e f) m z i = reply-later w u.requests u.requests s.parts t.parts (λ _ j. j) older-part m (h.replies m (subst (λ (l : List (List ℕ)). Memᴰ m l) (with_none reply u.replies e) i))
  reply-of (reports r e f right) m z i = part r (made-part r f) (z ∙ e)
  reply-of (answers n o e f fn fo z') m z i = answer n o (z ∙ e) fn fo z'

  part_of : ReplyAs w u.requests reply k.made → (r : Part Datum) → Memᴰ r k.made → Memᴰ (part_bytes w r) (with reply u.replies) × PartRight w r
  part_of (silent e f) r i = absurd (Memᴰ.not-nil (subst (λ (l : List (Part Datum)). Memᴰ r l) f i))
  part_of (answers n o e f fn fo z) r i = absurd (Memᴰ.not-nil (subst (λ (l : List (Part Datum)). Memᴰ r l) f i))
  part_of (reports q e f right) r i =
      let same : r ≡ q = only_one (subst (λ (l : List (Part Datum)). Memᴰ r l) f i) in
      let bytes : reply ≡ part_bytes w r = e ∙ ap (part_bytes w) (sym same) in
      let sound : PartRight w r = subst (PartRight w) (sym same) right in
      (subst (λ (m : List ℕ). Memᴰ m (with reply u.replies)) bytes (with-new reply u.replies (λ z. part-some w r sound (sym bytes ∙ z))), sound)

  pub server-stands : Stands p (after_server u x) t
  unfolding after_server
  server-stands =
      record {
        server = k.server;
        cache = subst (λ (c : Cache Datum). CacheAs w u.requests u.page u.cache c) (sym k.cache) h.cache;
        requests = subst (λ (l : List Message). (m : List ℕ) → Memᴰ m u.requests → (q : Message) × MessageAs w m q × Memᴰ q l) (sym k.messages) h.requests;
        messages = subst (λ (l : List Message). (q : Message) → Memᴰ q l → (m : List ℕ) × MessageAs w m q × Memᴰ m u.requests) (sym k.messages) h.messages;
        replies = λ m i. seen m i (with_cases reply u.replies m i);
        parts = λ r i. had r (Memᴰ.append_cases k.made (subst (λ (l : List (Part Datum)). Memᴰ r l) k.parts i));
        counted = λ c l. omega (arith, h.counted c l, k.counted c l);
      }
    where
      seen : (m : List ℕ) → Memᴰ m (with reply u.replies) → (m ≡ reply) ⊎ Memᴰ m u.replies → ReplyOf w u.requests t.parts m
      seen m i (inl e) = reply-of k.reply-is m e i
      seen m i (inr j) = reply-later w u.requests u.requests s.parts t.parts (λ _ z. z) older-part m (h.replies m j)

      had : (r : Part Datum) → Memᴰ r k.made ⊎ Memᴰ r s.parts → Memᴰ (part_bytes w r) (with reply u.replies) × PartRight w r
      had r (inl i) = part_of k.reply-is r i
      had r (inr i) = let old = h.parts r i in (with-old reply u.replies (part_bytes w r) old.0, old.1)

-- A CALL OF THE CACHE: it sends nothing, something that it has sent before, or something new
pub data Told (p : Plan) (u : World) (s t : System Datum) (m : List ℕ) : Type 0 where
  nothing-sent : m ≡ [] → t.messages ≡ s.messages → Told p u s t m
  known : Memᴰ m u.requests → t.messages ≡ s.messages → Told p u s t m
  new-one : (q : Message) → MessageAs p.words m q → t.messages ≡ q ∷ s.messages → (m ≡ [] → ⊥) → Told p u s t m

module _ (p : Plan) (u : World) (s t : System Datum) (h : Stands p u s) (x : CacheReaction) (told : Told p u s t x.reply) where
  abbrev l : List (List ℕ)
  l = with x.reply u.requests

  requested : Told p u s t x.reply → (m : List ℕ) → (m ≡ x.reply) ⊎ Memᴰ m u.requests → Memᴰ m l → (q : Message) × MessageAs p.words m q × Memᴰ q t.messages
  requested (nothing-sent e f) m c i =
      let r = h.requests m (subst (λ (z : List (List ℕ)). Memᴰ m z) (with_none x.reply u.requests e) i) in
      (r.0, r.1, subst (λ (z : List Message). Memᴰ r.0 z) (sym f) r.2)
  requested (known j f) m c i = go c
    where
      from : Memᴰ m u.requests → (q : Message) × MessageAs p.words m q × Memᴰ q t.messages
      from k = let r = h.requests m k in (r.0, r.1, subst (λ (z : List Message). Memᴰ r.0 z) (sym f) r.2)

      go : (m ≡ x.reply) ⊎ Memᴰ m u.requests → (q : Message) × MessageAs p.words m q × Memᴰ q t.messages
      go (inl e) = from (subst (λ (z : List ℕ). Memᴰ z u.requests) (sym e) j)
      go (inr k) = from k
  requested (new-one q a f n) m c i = go c
    where
      go : (m ≡ x.reply) ⊎ Memᴰ m u.requests → (q : Message) × MessageAs p.words m q × Memᴰ q t.messages
      go (inl e) = (q, subst (λ (z : List ℕ). MessageAs p.words z q) (sym e) a, subst (λ (z : List Message). Memᴰ q z) (sym f) (Memᴰ.head refl))
      go (inr k) = let r = h.requests m k in (r.0, r.1, subst (λ (z : List Message). Memᴰ r.0 z) (sym f) (Memᴰ.tail r.2))

  messaged : Told p u s t x.reply → (q : Message) → Memᴰ q t.messages → (m : List ℕ) × MessageAs p.words m q × Memᴰ m l
  messaged (nothing-sent e f) q i = let r = h.messages q (subst (λ (z : List Message). Memᴰ q z) f i) in (r.0, r.1, with-old x.reply u.requests r.0 r.2)
  messaged (known j f) q i = let r = h.messages q (subst (λ (z : List Message). Memᴰ q z) f i) in (r.0, r.1, with-old x.reply u.requests r.0 r.2)
  messaged (new-one v a f n) q i = go (subst (λ (z : List Message). Memᴰ q z) f i)
    where
      go : Memᴰ q (v ∷ s.messages) → (m : List ℕ) × MessageAs p.words m q × Memᴰ m l
      go (Memᴰ.head e) = (x.reply, subst (MessageAs p.words x.reply) (sym e) a, with-new x.reply u.requests n)
      go (Memᴰ.tail j) = let r = h.messages q j in (r.0, r.1, with-old x.reply u.requests r.0 r.2)

  pub cache-stands : t.parts ≡ s.parts → ServerAs (server_of p u.server) (granted p) l t.clusters t.row → ((k : ℕ) → (t.clusters k).changes ≡ (s.clusters k).changes) → CacheAs p.words l x.page x.state t.cache → Stands p (after_cache u x) t
  unfolding after_cache
  cache-stands parts server counts cache =
      record {
        server = server;
        cache = cache;
        requests = λ m i. requested told m (with_cases x.reply u.requests m i) i;
        messages = messaged told;
        replies = λ m i. reply-later p.words u.requests l s.parts t.parts (with-old x.reply u.requests) (λ r j. subst (λ (z : List (Part Datum)). Memᴰ r z) (sym parts) j) m (h.replies m i);
        parts = λ r i. h.parts r (subst (λ (z : List (Part Datum)). Memᴰ r z) parts i);
        counted = λ k b. h.counted k b ∙ sym (counts k);
      }

-- what was sent once more changes nothing
pub cache-known : (w : List ℕ) (sent : List (List ℕ)) (m page : List ℕ) (s : CacheState) (c : Cache Datum) → Memᴰ m sent → CacheAs w sent page s c → CacheAs w (m ∷ sent) page s c
cache-known w sent m page s c i k =
    record {
      valid = k.valid;
      held = k.held;
      primed = k.primed;
      used = k.used;
      exchange = k.exchange;
      reading-is = k.reading-is;
      next = k.next;
      turn-fits = k.turn-fits;
      writing-is = λ z. let v = k.writing-is z in record { first = v.first; own = λ e cl a r. v.own e cl a (wrote-later (m ∷ sent) sent older s.asked.exchange e cl a r) };
      newest = λ z. Memᴰ.tail (k.newest z);
    }
  where
    older : (x : List ℕ) → Memᴰ x (m ∷ sent) → Memᴰ x sent
    older x (Memᴰ.head e) = subst (λ (z : List ℕ). Memᴰ z sent) (sym e) i
    older x (Memᴰ.tail j) = j
