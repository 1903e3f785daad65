-- What a head that was read says of the message: it goes forward, and the text of its value lies in the message.
use Rattle.std.specs.Prelude.{Some, None, Option}
use mathlib.Core.Path.{◌≡◌, subst}
use mathlib.Core.List.{List}
use Prim.Native.Nat.{ℕ, ◌+◌, ◌-◌, ◌/◌, ◌%◌, ◌<◌, ◌≤◌}
use mathlib.Core.Bool.{false, true}
use native.Mathlib.Omega.{arith}
use borrow.Author.Tests.{ltb-true, ltb-false, lt-ltb}
use lib.ListN.{length, get_or}
use lib.Dec.{ltb, eqb}
use Rattle.base_octets.specs.Number.{number_at}
use Rattle.tlv_reader.specs.declared.Element.{Element}
use Rattle.tlv_reader.specs.declared.Value.{Value}
use Rattle.tlv_reader.specs.Octet.{pick, tag_width, number_width, is_string}
use Rattle.tlv_reader.specs.Head.{head_at, closed_at, formed_at}
use Rattle.tlv_reader.specs.Value.{value_of}
use Rattle.tlv_reader.proofs.Picks.{pick-elim}
use Rattle.tlv_reader.proofs.HeadLaws.{Onward, head-onward}
use Rattle.tlv_writer.specs.Element.{InPage}

pub onward : (s : List ℕ) (at : ℕ) {e : Element} → head_at s at ≡ Some e → at < e.next.at × (e.next.at ≤ length s)
onward s at h = subst (Onward at (length s)) h (head-onward s at)

value_in_lem : (s : List ℕ) (e : Element) → (is_string e.kind ≡ true → e.body + e.number ≤ length s) → InPage s (value_of e)
unfolding value_of
value_in_lem s e h =
    let k = e.kind in
    let P : Value → Type 0 = InPage s in
    pick-elim P (ltb k 4) _ _ (λ _. tt)
    (λ _. pick-elim P (ltb k 8) _ _ (λ _. tt)
    (λ _. pick-elim P (eqb k 8) _ _ (λ _. tt)
    (λ _. pick-elim P (eqb k 9) _ _ (λ _. tt)
    (λ _. pick-elim P (eqb k 10) _ _ (λ _. tt)
    (λ _. pick-elim P (ltb k 12) _ _ (λ _. tt)
    (λ q. pick-elim P (ltb k 16) _ _ (λ l. h (rw q (lt-ltb k 20 (omega (arith, ltb-true k 16 l)))))
    (λ _. pick-elim P (eqb k 20) _ _ (λ _. tt) (λ _. tt))))))))

abbrev Placed : List ℕ → Option Element → Type 0
Placed s None = Unit {0}
Placed s (Some e) = InPage s (value_of e)

closed_in : (s : List ℕ) (form kind tag number body : ℕ) → body ≤ length s → Placed s (closed_at (length s) form kind tag number body)
unfolding closed_at
closed_in s form kind tag number body b =
    pick-elim (Placed s) (is_string kind) _ _
    (λ _. pick-elim (Placed s) (ltb (length s - body) number) _ _ (λ _. tt) (λ e. value_in_lem s _ (λ _. omega (arith, ltb-false (length s - body) number e))))
    (λ q. value_in_lem s _ (λ t. absurd (let z : ◌≡◌ {A = ℕ} 0 1 = cc in omega arith)))

head_in : (s : List ℕ) (at : ℕ) → Placed s (head_at s at)
unfolding head_at
head_in s at =
    let form = get_or s at 0 / 32 in
    let kind = get_or s at 0 % 32 in
    let tw = tag_width form in
    let nw = number_width kind in
    pick-elim (Placed s) (ltb at (length s)) (formed_at s at form kind) None
    (λ e1. pick-elim (Placed s) (ltb 24 kind) None _ (λ _. tt)
    (λ _. pick-elim (Placed s) (pick (eqb kind 24) (ltb 0 form) false) None _ (λ _. tt)
    (λ _. pick-elim (Placed s) (ltb (length s - (at + 1)) (tw + nw)) None _ (λ _. tt)
    (λ e2. closed_in s form kind (number_at tw s (at + 1)) (number_at nw s (at + 1 + tw)) (at + 1 + tw + nw)
    (omega (arith, ltb-true at (length s) e1, ltb-false (length s - (at + 1)) (tw + nw) e2))))))
    (λ _. tt)

pub in-page : (s : List ℕ) (at : ℕ) {e : Element} → head_at s at ≡ Some e → InPage s (value_of e)
in-page s at h = subst (Placed s) h (head_in s at)
