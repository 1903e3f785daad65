-- A value that is read from a message is within the range of its type.
use Rattle.std.specs.Prelude.{Some, None, Option}
use mathlib.Core.Path.{◌≡◌, refl}
use mathlib.Core.Bool.{Bool, true, false}
use mathlib.Core.List.{List}
use Prim.Native.Nat.{ℕ, ◌/◌, ◌%◌, ◌^◌, ◌-◌, ◌≤◌, ◌<◌}
use native.Mathlib.Omega.{arith}
use borrow.Author.Tests.{leb-true, leb-false, ltb-true}
use lib.Dec.{leb, ltb, eqb}
use lib.Signed.{mag}
use Rattle.tlv_reader.specs.declared.Element.{Element}
use Rattle.tlv_reader.specs.declared.Value.TheVariants as value
use Rattle.tlv_reader.specs.Octet.{number_width}
use Rattle.tlv_reader.specs.Tree.{complement}
use Rattle.tlv_reader.specs.Head.{head_at}
use Rattle.tlv_reader.specs.Walk.{headed}
use Rattle.tlv_reader.specs.Value.{signed_of, value_of, value_in}
use Rattle.tlv_reader.proofs.Picks.{pick-elim}
use Rattle.tlv_reader.proofs.ValueLaws.{each}
use Rattle.node_kinds.specs.Stored.{Sized}

-- two's complement of at most 64 bits
complement-small : (top v : ℕ) → top ≤ 18446744073709551615 → mag (complement top v) < 9223372036854775808
unfolding complement
complement-small top v h =
    go (leb v (top / 2)) refl
  where
    go : (b : Bool) → leb v (top / 2) ≡ b → mag (complement top v) < 9223372036854775808
    go true t = rw t (omega (arith, leb-true v (top / 2) t))
    go false t = rw t (omega (arith, leb-false v (top / 2) t))

top_small : (kind : ℕ) → kind < 4 → 256 ^ number_width kind - 1 ≤ 18446744073709551615
unfolding number_width
top_small = each (λ (k : ℕ). 256 ^ number_width k - 1 ≤ 18446744073709551615) 4 ((((tt, omega arith), omega arith), omega arith), omega arith)

signed-small : (kind n : ℕ) → kind < 4 → mag (signed_of kind n) < 9223372036854775808
unfolding signed_of
signed-small kind n l = complement-small (256 ^ number_width kind - 1) (n % 256 ^ number_width kind) (top_small kind l)

pub value-sized : (e : Element) → Sized (value_of e)
unfolding value_of
value-sized e =
    pick-elim Sized (ltb e.kind 4) _ _ (λ t. record { sfits = signed-small e.kind e.number (ltb-true e.kind 4 t) })
    (λ _. pick-elim Sized (ltb e.kind 8) _ _ (λ _. tt)
    (λ _. pick-elim Sized (eqb e.kind 8) _ _ (λ _. tt)
    (λ _. pick-elim Sized (eqb e.kind 9) _ _ (λ _. tt)
    (λ _. pick-elim Sized (eqb e.kind 10) _ _ (λ _. omega arith)
    (λ _. pick-elim Sized (ltb e.kind 12) _ _ (λ _. tt)
    (λ _. pick-elim Sized (ltb e.kind 16) _ _ (λ _. tt)
    (λ _. pick-elim Sized (eqb e.kind 20) _ _ (λ _. tt) (λ _. tt))))))))

pub value-in-sized : (s : List ℕ) (at : ℕ) → Sized (value_in s at)
unfolding value_in
value-in-sized s at = go (head_at s at)
  where
    go : (h : (Option Element)) → Sized (headed value.Other value_of h)
    go None = tt
    go (Some e) = value-sized e
