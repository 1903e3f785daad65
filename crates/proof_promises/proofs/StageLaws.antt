-- A read that is open, while the cache begins nothing, is open still or has ended on its last part: no status ends it.
use Rattle.std.specs.Prelude.{Some, None, Option}
use mathlib.Core.Path.{◌≡◌, refl, sym, ap, ◌∙◌, subst}
use mathlib.Core.Logic.{◌⊎◌, inl, inr}
use mathlib.Core.Bool.{Bool, true, false, ◌&&◌}
use mathlib.Core.List.{List, Memᴰ}
use Prim.Native.Nat.{ℕ, ◌-◌}
use native.Mathlib.Omega.{arith}
use borrow.Author.Tests.{eqb-true, ne_eqb}
use lib.Dec.{eqb, ltb, leb}
use lib.ListN.{length, drop}
use Rattle.tlv_reader.specs.declared.Value.{Value}
use Rattle.tlv_reader.specs.Value.{Datum}
use Rattle.tlv_reader.proofs.Picks.{pick-elim}
use Rattle.node_schema.proofs.BoolLaws.{right, by-test}
use Rattle.im_responses.specs.Report.{PartOf, part_in}
use Rattle.im_envelope.specs.declared.Fields.{Fields}
use Rattle.im_envelope.specs.Envelope.{envelope_in, envelope_length, max_message}
use Rattle.im_exchange.specs.Rules.{status_opcode, report_opcode}
use Rattle.cache_report.specs.Part.{blocks_in, judged_all}
use Rattle.cache_state.specs.declared.CacheState.{CacheState}
use Rattle.cache_state.specs.State.{reading, writing, last_part, is_open, cache_right}
use Rattle.cache_state.specs.Reaction.{CacheReaction}
use Rattle.cache_state.specs.Begin as begin
use Rattle.cache_receive.specs.Receive.{for_cache, opcode_awaited, awaited, ended_as, goes_on, past_turns, part_taken, takes_part, takes, in_envelope, received}
use Rattle.proof_protocol.specs.Model.{System}
use Rattle.proof_protocol.specs.Steps as model
use Rattle.im_writer.specs.Envelope.{exchange_limit}
use Rattle.proof_promises.specs.World.{Plan, World, Start, after_server, after_cache}
use Rattle.proof_promises.specs.Runs.{Step, alters, begins_read, begins_write, resends, hears, hears_other, gets, Run, none, then, BeginsNone, NoneBegun}
use Rattle.proof_promises.proofs.MessageLaws.{part-envelope, answer-envelope}
use Rattle.proof_promises.specs.Follows.{ReplyOf, part, answer, Stands, node}
use Rattle.proof_promises.proofs.RunLaws.{follow}

-- an open read, or one that has ended on its last part
abbrev pub Goes : CacheState → Type 0
Goes s = (s.asked.stage ≡ reading) ⊎ (s.asked.stage ≡ last_part)

not-writing : (s : CacheState) → Goes s → s.asked.stage ≡ writing → ⊥
not-writing s (inl e) h = omega (arith, e, h)
not-writing s (inr e) h = omega (arith, e, h)

-- a message that is no Status Response
abbrev NoStatus : Option Fields → Type 0
NoStatus None = Unit {0}
NoStatus (Some f) = f.opcode ≡ status_opcode → ⊥

module _ (page : List ℕ) (s : CacheState) (g : Goes s) where
  abbrev Keeps : CacheReaction → Type 0
  Keeps x = Goes x.state

  part-goes : (payload : List ℕ) → Keeps (takes_part page s payload)
  unfolding takes_part goes_on begin.keeping ended_as
  part-goes payload = go (part_in payload)
    where
      go : (o : Option (PartOf ℕ)) → Keeps (part_taken page s payload o)
      go None = g
      go (Some q) =
          pick-elim Keeps (past_turns q.more s.asked.turn) _ _ (λ _. g)
          (λ _. pick-elim Keeps (eqb (judged_all payload (record { number = 0; held = s.held }) (blocks_in payload)).number 0) _ _
          (λ _. pick-elim Keeps (eqb q.more 1) _ _ (λ _. g) (λ _. inr refl)) (λ _. g))

  awaited-writing : (f : Fields) → awaited s.asked f ≡ true → eqb f.opcode status_opcode ≡ false → eqb f.opcode report_opcode ≡ false → s.asked.stage ≡ writing
  unfolding awaited opcode_awaited
  awaited-writing f t a b =
      let rest = right (eqb f.turn s.asked.turn) _ (right (eqb f.exchange s.asked.exchange) _ (right (is_open s.asked.stage) _ t)) in
      eqb-true s.asked.stage writing (rw (a, b) at rest)

  takes_goes : (f : Fields) → (f.opcode ≡ status_opcode → ⊥) → awaited s.asked f ≡ true → (payload : List ℕ) → Keeps (takes page s f.opcode payload)
  unfolding takes
  takes_goes f n t payload =
      let other : eqb f.opcode status_opcode ≡ false = ne_eqb f.opcode status_opcode n in
      pick-elim Keeps (eqb f.opcode status_opcode) _ _ (λ h. absurd (n (eqb-true f.opcode status_opcode h)))
      (λ _. pick-elim Keeps (eqb f.opcode report_opcode) _ _ (λ _. part-goes payload) (λ h. absurd (not-writing s g (awaited-writing f t other h))))

  pub reply-goes : (m : List ℕ) (room : ℕ) → NoStatus (envelope_in m) → Keeps (received page s m room)
  unfolding received
  reply-goes m room n =
      pick-elim Keeps (cache_right page s) _ _ (λ _. pick-elim Keeps (ltb room max_message) _ _ (λ _. g) (λ _. go (envelope_in m) n)) (λ _. g)
    where
      go : (e : (Option Fields)) → NoStatus e → Keeps (in_envelope page s m e)
      go None h = g
      go (Some f) h =
          pick-elim Keeps (leb (length m) max_message && for_cache f.edition f.opcode) _ _
          (λ _. by-test (awaited s.asked f) (λ t. rw t (takes_goes f h t (drop envelope_length m))) (λ z. rw z g)) (λ _. g)

-- a call that begins nothing is refused, and leaves the cache as it was
module _ (page : List ℕ) (s : CacheState) where
  abbrev Unbegun : CacheReaction → Type 0
  Unbegun x = (x.number ≡ 0 → ⊥) → x.state ≡ s

  beginning-same : (room : ℕ) (next : CacheReaction) → Unbegun next → Unbegun (begin.beginning page s room next)
  beginning-same room next f =
      pick-elim Unbegun (cache_right page s) _ _
      (λ _. pick-elim Unbegun (ltb room max_message) _ _ (λ _ _. refl) (λ _. pick-elim Unbegun (ltb s.asked.used (exchange_limit - 1)) _ _ (λ _. f) (λ _ _. refl))) (λ _ _. refl)

  read_same : (room : ℕ) → Unbegun (begin.begins_read page s room)
  unfolding begin.begins_read
  read_same room = beginning-same room _ (λ n. absurd (n refl))

  write_same : (e c a : ℕ) (given : Bool) (version : ℕ) (src : List ℕ) (new : Value) (room : ℕ) → Unbegun (begin.begins_write page s e c a given version src new room)
  unfolding begin.begins_write
  write_same e c a given version src new room = beginning-same room _ (pick-elim Unbegun (begin.sendable src new) _ _ (λ _ n. absurd (n refl)) (λ _ _. refl))

  resent-same : (room : ℕ) → (begin.resends page s room).state ≡ s
  unfolding begin.resends
  resent-same room =
      pick-elim (λ (x : CacheReaction). x.state ≡ s) (cache_right page s) _ _
      (λ _. pick-elim (λ (x : CacheReaction). x.state ≡ s) (ltb room max_message) _ _ (λ _. refl) (λ _. pick-elim (λ (x : CacheReaction). x.state ≡ s) (is_open s.asked.stage) _ _ (λ _. refl) (λ _. refl))) (λ _. refl)

-- A STEP IN WHICH THE CACHE BEGINS NOTHING leaves it as it is, or hands it a reply
pub record Handed (u v : World) : Type 0 where
  pub message : List ℕ
  pub room : ℕ
  pub made : Memᴰ message u.replies
  pub is : v ≡ after_cache u (received u.page u.cache message room)

pub begins-none-step : {p : Plan} {u v : World} (step : Step p u v) → BeginsNone step → (v.cache ≡ u.cache) ⊎ Handed u v
unfolding after_server after_cache
begins-none-step (alters e c a src new t) q = inl refl
begins-none-step {p} {u} (begins_read room) q = inl (read_same u.page u.cache room q)
begins-none-step {p} {u} (begins_write e c a given version src new room f l t) q = inl (write_same u.page u.cache e c a given version src new room q)
begins-none-step {p} {u} (resends room) q = inl (resent-same u.page u.cache room)
begins-none-step (hears m room i) q = inl refl
begins-none-step (hears_other subject m room n) q = inl refl
begins-none-step (gets m room i) q = inr (record { message = m; room = room; made = i; is = refl })

-- what the server sends is no status
reply-no-status : (p : Plan) (u : World) (s : System Datum) → Stands p u s → (m : List ℕ) → ReplyOf p.words u.requests s.parts m → NoStatus (envelope_in m)
reply-no-status p u s h m (part q i e) = subst NoStatus (sym (ap envelope_in e ∙ part-envelope p.words q (h.parts q i).1)) (λ z. omega (arith, z))
reply-no-status p u s h m (answer x o e fx fo k) = subst NoStatus (sym (ap envelope_in e ∙ answer-envelope x o fx)) (λ z. omega (arith, z))

step-goes : (p : Plan) {u v : World} (s : System Datum) → Stands p u s → (step : Step p u v) → BeginsNone step → Goes u.cache → Goes v.cache
unfolding after_cache
step-goes p {u} {v} s h step q g = go (begins-none-step step q)
  where
    go : (v.cache ≡ u.cache) ⊎ Handed u v → Goes v.cache
    go (inl e) = subst Goes (sym e) g
    go (inr k) = subst (λ (z : World). Goes z.cache) (sym k.is) (reply-goes u.page u.cache g k.message k.room (reply-no-status p u s h k.message (h.replies k.message k.made)))

pub run-goes : (p : Plan) (b : Start p) {u v : World} (s : System Datum) → Stands p u s → model.Reach (node p b) s → (run : Run p u v) → NoneBegun run → Goes u.cache → Goes v.cache
run-goes p b s h reach none c g = g
run-goes p b s h reach (then run step) c g =
    let f = follow p b run s h reach in
    step-goes p f.end f.stands step c.1 (run-goes p b s h reach run c.0 g)
