-- A head goes forward and stays in the message.
use Rattle.std.specs.Prelude.{Some, None, Option}
use mathlib.Core.Path.{◌≡◌}
use mathlib.Core.Bool.{false}
use mathlib.Core.List.{List}
use Prim.Native.Nat.{ℕ, ◌+◌, ◌-◌, ◌/◌, ◌%◌, ◌<◌, ◌≤◌}
use native.Mathlib.Omega.{arith}
use borrow.Author.Tests.{ltb-true, ltb-false, le-ltb}
use lib.ListN.{length, get_or}
use lib.Dec.{ltb, eqb}
use Rattle.base_octets.specs.Number.{number_at}
use Rattle.tlv_reader.specs.Octet.{pick, tag_width, number_width, is_string}
use Rattle.tlv_reader.specs.Head.{head_at, closed_at, formed_at}
use Rattle.tlv_reader.proofs.Picks.{pick-elim}
use Rattle.tlv_reader.specs.declared.Element.{Element}

abbrev pub Onward : ℕ → ℕ → Option Element → Type 0
Onward at n None = Unit {0}
Onward at n (Some e) = (at < e.next.at) × (e.next.at ≤ n)

closed-onward : (at len form kind tag number body : ℕ) → at < body → body ≤ len → Onward at len (closed_at len form kind tag number body)
unfolding closed_at
closed-onward at len form kind tag number body a b =
    pick-elim (Onward at len) (is_string kind) _ _
    (λ _. pick-elim (Onward at len) (ltb (len - body) number) _ _ (λ _. tt) (λ e. (omega arith, omega (arith, ltb-false (len - body) number e))))
    (λ _. (omega arith, omega arith))

pub head-onward : (s : List ℕ) (at : ℕ) → Onward at (length s) (head_at s at)
unfolding head_at
head-onward s at =
    let P : Option Element → Type 0 = Onward at (length s) in
    let form = get_or s at 0 / 32 in
    let kind = get_or s at 0 % 32 in
    let tw = tag_width form in
    let nw = number_width kind in
    pick-elim P (ltb at (length s)) (formed_at s at form kind) None
    (λ e1. pick-elim P (ltb 24 kind) None _ (λ _. tt)
    (λ _. pick-elim P (pick (eqb kind 24) (ltb 0 form) false) None _ (λ _. tt)
    (λ _. pick-elim P (ltb (length s - (at + 1)) (tw + nw)) None _ (λ _. tt)
    (λ e2. closed-onward at (length s) form kind (number_at tw s (at + 1)) (number_at nw s (at + 1 + tw)) (at + 1 + tw + nw) (omega arith)
    (omega (arith, ltb-true at (length s) e1, ltb-false (length s - (at + 1)) (tw + nw) e2))))))
    (λ _. tt)

-- past the end there is no head
pub no-head : (s : List ℕ) (at : ℕ) → length s ≤ at → head_at s at ≡ None
unfolding head_at
no-head s at h = simp (le-ltb _ _ h)
