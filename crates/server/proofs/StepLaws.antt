-- What a message means for the exchange, and what follows from it.
use Rattle.std.specs.Prelude.{Some, None, Option}
use mathlib.Core.Path.{◌≡◌, sym, ap, subst, ◌∙◌}
use mathlib.Core.Bool.{true, not, ◌&&◌, true≢false}
use mathlib.Core.List.{List}
use Prim.Native.Nat.{ℕ, ◌<◌, ◌+◌}
use native.Mathlib.Omega.{arith}
use borrow.Author.Tests.{ltb-true, eq-eqb}
use lib.Dec.{eqb, ltb, leb}
use Rattle.tlv_reader.proofs.Picks.{pick-elim}
use Rattle.im_requests.specs.Status.{response_in}
use Rattle.node_schema.proofs.BoolLaws.{right}
use Rattle.im_envelope.specs.declared.Fields.{Fields}
use Rattle.im_exchange.specs.declared.Progress.{Progress}
use Rattle.im_exchange.specs.declared.Step.TheVariants.{Next}
use Rattle.im_exchange.specs.Rules.{max_turn, beginning, on_request, on_promised, on_status, first_reply}
use Rattle.im_exchange.specs.Rules as rules
use Rattle.im_exchange.specs.declared.Action.{Action}
use Rattle.server.specs.Receive.{by_status, step_of}
use Rattle.server.specs.Promise.{Taken}

never : {A : Type 0} → ◌≡◌ {A = ℕ} 0 1 → A
never e = absurd (omega arith)

module _ (x : Progress) (exchange : ℕ) where
  request-taken : (turn : ℕ) → Taken x exchange (on_request x exchange turn)
  unfolding on_request
  request-taken turn =
      pick-elim (Taken x exchange) (eqb turn 0) _ _
      (λ _. pick-elim (Taken x exchange) (ltb x.last exchange) _ _ (λ h. ltb-true _ _ h) (λ _. pick-elim (Taken x exchange) (eqb exchange x.last && (eqb x.turn first_reply && eqb x.closed 0)) _ _ (λ _. tt) (λ _. tt)))
      (λ _. tt)

  status-taken : (turn code : ℕ) → Taken x exchange (on_status x exchange turn code)
  unfolding on_status
  status-taken turn code =
      pick-elim (Taken x exchange) (eqb exchange x.last && eqb x.closed 0) _ _
      (λ _. pick-elim (Taken x exchange) (eqb turn x.turn && not (eqb x.next rules.nothing)) _ _
      (λ h. promised (right (eqb turn x.turn) _ h))
      (λ _. pick-elim (Taken x exchange) (eqb code 0 && (leb first_reply turn && eqb (turn + 1) x.turn)) _ _ (λ _. tt) (λ _. tt)))
      (λ _. tt)
    where
      some : not (eqb x.next rules.nothing) ≡ true → x.next ≡ rules.nothing → ⊥
      some h z = true≢false (sym h ∙ ap not (eq-eqb x.next rules.nothing z))

      promised : not (eqb x.next rules.nothing) ≡ true → (Taken x exchange) (on_promised x.turn code)
      promised h =
          pick-elim (Taken x exchange) (eqb code 0) _ _
          (λ _. pick-elim (Taken x exchange) (ltb x.turn max_turn) _ _ (λ t. (ltb-true _ _ t, some h)) (λ _. tt))
          (λ _. some h)

pub step-taken : (x : Progress) (action : Action) (e : Fields) (payload : List ℕ) → Taken x e.exchange (step_of x action e payload)
unfolding step_of
step-taken x action e payload = pick-elim (Taken x e.exchange) (beginning action) _ _ (λ _. request-taken x e.exchange e.turn) (λ _. by (response_in payload))
  where
    by : (o : Option ℕ) → Taken x e.exchange (by_status x e o)
    by None = tt
    by (Some code) = status-taken x e.exchange e.turn code

pub next-turn : (x : Progress) (action : Action) (e : Fields) (payload : List ℕ) → step_of x action e payload ≡ Next → x.turn < max_turn
next-turn x action e payload h = (subst (Taken x e.exchange) h (step-taken x action e payload)).0
