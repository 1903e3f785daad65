-- NEVER 2 along a run, and never 6 or 7 to what the server sent.
use Rattle.std.specs.Prelude.{Some, None, Option}
use mathlib.Core.Path.{◌≡◌, refl, sym, ap, ◌∙◌, subst}
use mathlib.Core.Bool.{Bool}
use mathlib.Core.Logic.{◌⊎◌, inl, inr}
use mathlib.Core.List.{List, Memᴰ}
use Prim.Native.Nat.{ℕ, ◌-◌, ◌≤◌, ◌<◌}
use native.Mathlib.Omega.{arith}
use borrow.Author.Tests.{ltb-true, ltb-false}
use lib.Dec.{ltb}
use Rattle.tlv_reader.specs.declared.Value.{Value}
use Rattle.tlv_reader.specs.Value.{Datum}
use Rattle.tlv_reader.proofs.Picks.{pick-elim}
use Rattle.node_schema.specs.Find.{find_cluster, find_attribute, has_endpoint}
use Rattle.node_schema.proofs.BoolLaws.{by-test}
use Rattle.node_kinds.specs.declared.Verdict.{Verdict}
use Rattle.node_kinds.specs.declared.Verdict.TheVariants.{Success, ConstraintError, InvalidDataType}
use Rattle.node_kinds.specs.Limits.{status_code}
use Rattle.server_selection.specs.declared.locate.Located.{Located}
use Rattle.server_selection.specs.declared.locate.Located.TheVariants.{Here, Refused}
use Rattle.server_selection.specs.Locate.{attribute_found, cluster_found, located}
use Rattle.server_writes.specs.Offer.{HeldValues, by_verdict, stored_in, verdict_on, offered, by_place, changed}
use Rattle.im_envelope.specs.Envelope.{max_message}
use Rattle.server_replies.specs.Server as server
use Rattle.server_replies.specs.Server.{held_by}
use Rattle.server.proofs.StartLaws.{altered-right}
use Rattle.server.proofs.ReceivedLaws.{never-2}
use Rattle.cache_state.specs.State.{is_open}
use Rattle.cache_state.specs.declared.CacheState.{CacheState}
use Rattle.cache_state.specs.Reaction.{CacheReaction}
use Rattle.cache_state.specs.Begin as begin
use Rattle.cache_receive.specs.Receive as receive
use Rattle.proof_cache_laws.specs.Valid.{ValidCache}
use Rattle.proof_cache_laws.proofs.BegunLaws.{valid-right}
use Rattle.proof_cache_laws.proofs.NeverLaws as cache
use Rattle.proof_cache_laws.proofs.ReceiveLaws.{small}
use Rattle.proof_protocol.specs.Model as Model
use Rattle.proof_protocol.specs.Model.{System}
use Rattle.proof_cache_steps.proofs.Reactions.{Takes}
use Rattle.proof_cache_steps.proofs.AnswerLaws.{answer-taken}
use Rattle.proof_cache_steps.proofs.PartLaws.{part-taken}
use Rattle.im_writer.specs.Envelope.{exchange_limit}
use Rattle.proof_promises.specs.World.{Plan, World, Start, server_of, caller_of, answered, altered}
use Rattle.proof_promises.specs.Runs.{Reach}
use Rattle.proof_promises.specs.Never.{Never}
use Rattle.proof_promises.specs.Follows.{ReplyOf, part, answer, node, Follows}
use Rattle.proof_promises.proofs.StepLaws.{rules, part_low, older}
use Rattle.proof_promises.proofs.FirstLaws.{from-fresh}

-- THE SERVER: no status of a local change is 2
abbrev NotTwo : Located → Type 0
NotTwo (Here i) = Unit {0}
NotTwo (Refused code) = code ≡ 2 → ⊥

located-code : (w : List ℕ) (e c a : ℕ) → NotTwo (located w e c a)
unfolding located
located-code w e c a = pick-elim NotTwo (has_endpoint w e) _ _ (λ _. in-cluster (find_cluster w e c)) (λ _ z. omega (arith, z))
  where
    in-attribute : (f : (Option ℕ)) → NotTwo (attribute_found f)
    in-attribute (Some i) = tt
    in-attribute None = λ z. omega (arith, z)

    in-cluster : (f : (Option ℕ)) → NotTwo (cluster_found w a f)
    in-cluster (Some k) = in-attribute (find_attribute w k a)
    in-cluster None = λ z. omega (arith, z)

changed-code : (w defaults : List ℕ) (h : HeldValues) (e c a : ℕ) (src : List ℕ) (new : Value) → (changed w defaults h e c a src new).code ≡ 2 → ⊥
unfolding changed offered status_code
changed-code w defaults h e c a src new = go (located w e c a) (located-code w e c a)
  where
    by : (i : ℕ) (x : Verdict) → (by_verdict h (stored_in w defaults h i src new) x).code ≡ 2 → ⊥
    by i Success z = omega (arith, z)
    by i ConstraintError z = omega (arith, z)
    by i InvalidDataType z = omega (arith, z)

    go : (l : Located) → NotTwo l → (by_place w defaults h src new l).code ≡ 2 → ⊥
    go (Here i) n = by i (verdict_on w i src new)
    go (Refused code) n = n

-- THE CACHE: a request, whatever the buffer
module _ (page : List ℕ) (s : CacheState) (valid : ValidCache page s) (room : ℕ) where
  abbrev Fair : CacheReaction → Type 0
  Fair x = x.number ≡ 2 → ⊥

  begun-fair : (next : CacheReaction) → Fair next → Fair (begin.beginning page s room next)
  begun-fair next f =
      rw (valid-right page s valid) (pick-elim Fair (ltb room max_message) _ _ (λ _ z. omega (arith, z)) (λ _. pick-elim Fair (ltb s.asked.used (exchange_limit - 1)) _ _ (λ _. f) (λ _ z. omega (arith, z))))

  read-fair : Fair (begin.begins_read page s room)
  unfolding begin.begins_read
  read-fair = begun-fair _ (λ z. omega (arith, z))

  write-fair : (e c a : ℕ) (given : Bool) (version : ℕ) (src : List ℕ) (new : Value) → Fair (begin.begins_write page s e c a given version src new room)
  unfolding begin.begins_write
  write-fair e c a given version src new = begun-fair _ (pick-elim Fair (begin.sendable src new) _ _ (λ _ z. omega (arith, z)) (λ _ z. omega (arith, z)))

  resend-fair : Fair (begin.resends page s room)
  unfolding begin.resends
  resend-fair =
      rw (valid-right page s valid) (pick-elim Fair (ltb room max_message) _ _ (λ _ z. omega (arith, z)) (λ _. pick-elim Fair (is_open s.asked.stage) _ _ (λ _ z. omega (arith, z)) (λ _ z. omega (arith, z))))

module _ (p : Plan) (b : Start p) (u : World) (reach : Reach p b u) where
  abbrev f : Follows p b reach (Model.start (node p b))
  f = from-fresh p b reach

  abbrev s : System Datum
  s = f.end

  valid : ValidCache u.page u.cache
  valid = f.stands.cache.valid

  -- a reply of the server is taken, or refused for no fault of its own
  taken : (m : List ℕ) → ReplyOf p.words u.requests s.parts m → (room : ℕ) → max_message ≤ room → (t : System Datum) × Takes p.words u.requests s (receive.received u.page u.cache m room) t
  taken m (part q i e) room l = (
    Model.receive s q,
    subst (λ (y : List ℕ). Takes p.words u.requests s (receive.received u.page u.cache y room) (Model.receive s q)) (sym e)
        (part-taken p.words (rules p b) u.page u.cache s u.requests f.stands.cache (older p b u s f.stands f.follows) q (f.stands.parts q i).1 (λ _. part_low p b u s f.stands f.follows q i) room l),
  )
  taken m (answer x o e fx fo z) room l = (
    s,
    subst (λ (y : List ℕ). Takes p.words u.requests s (receive.received u.page u.cache y room) s) (sym e)
        (answer-taken p.words (rules p b) u.page u.cache s u.requests f.stands.cache (older p b u s f.stands f.follows) x o fx fo z room l),
  )

  -- with a small buffer it is 3
  small-number : (m : List ℕ) (room : ℕ) → room < max_message → (receive.received u.page u.cache m room).number ≡ 3
  small-number m room l = ap (λ (x : CacheReaction). x.number) (small u.page u.cache m room (valid-right u.page u.cache valid) l)

  -- neither 6 nor 7
  pub reply-fair : (n : ℕ) → (n ≡ 6) ⊎ (n ≡ 7) → (m : List ℕ) → Memᴰ m u.replies → (room : ℕ) → (receive.received u.page u.cache m room).number ≡ n → ⊥
  reply-fair n which m i room z =
      by-test (ltb room max_message) (λ t. low which (small-number m room (ltb-true room max_message t)))
      (λ t. let k = (taken m (f.stands.replies m i) room (ltb-false room max_message t)).1 in high which k)
    where
      low : (n ≡ 6) ⊎ (n ≡ 7) → (receive.received u.page u.cache m room).number ≡ 3 → ⊥
      low (inl e) q = omega (arith, z, e, q)
      low (inr e) q = omega (arith, z, e, q)

      high : (n ≡ 6) ⊎ (n ≡ 7) → {t : System Datum} → Takes p.words u.requests s (receive.received u.page u.cache m room) t → ⊥
      high (inl e) k = k.never-6 (z ∙ e)
      high (inr e) k = k.never-7 (z ∙ e)

  pub server-fair : (subject : ℕ) (m : List ℕ) (room : ℕ) → (answered p u subject m room).number ≡ 2 → ⊥
  server-fair subject m room = never-2 (server_of p u.server) (caller_of p subject) m room f.stands.server.valid.right b.table-right

  pub change-fair : (e c a : ℕ) (src : List ℕ) (new : Value) → (altered p u e c a src new).number ≡ 2 → ⊥
  change-fair e c a src new z =
      changed-code p.words p.defaults (held_by u.server) e c a src new
      (ap (λ (x : server.ServerReaction). x.number) (sym (altered-right (server_of p u.server) e c a src new f.stands.server.valid.right)) ∙ z)

  pub cache-fair : (m : List ℕ) (room : ℕ) → (receive.received u.page u.cache m room).number ≡ 2 → ⊥
  cache-fair m room = cache.never-2 u.page u.cache valid m room

pub never : Never
never p b u reach =
    record {
      server-2 = server-fair p b u reach;
      change-2 = change-fair p b u reach;
      cache-2 = cache-fair p b u reach;
      read-2 = λ room. read-fair u.page u.cache (valid p b u reach) room;
      write-2 = λ e c a given version src new room. write-fair u.page u.cache (valid p b u reach) room e c a given version src new;
      resend-2 = λ room. resend-fair u.page u.cache (valid p b u reach) room;
      cache-6 = reply-fair p b u reach 6 (inl refl);
      cache-7 = reply-fair p b u reach 7 (inr refl);
    }
