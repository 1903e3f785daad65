use mathlib.Core.Path.{◌≡◌, sym, ap, ◌∙◌}
use Prim.Native.Nat.{ℕ, ◌%◌}
use native.Mathlib.Omega.{arith}
use mir.Syntax.{w64}
use mir.ValLaws.{to_z-of_z}
use Rattle.tlv_reader.specs.Octet.{number_width}
use Rattle.tlv_reader.specs.Tree.{complement}
use Rattle.tlv_reader.specs.Value.{signed_of}
use Rattle.tlv_reader.proofs.signed_number.Goals as goal

pub returns-then-kind-eq0 : goal.returns-then-kind-eq0
unfolding signed_of number_width
returns-then-kind-eq0 c = to_z-of_z w64 c.signed.result (record { sfits = c.signed.type_inv }) ∙ c.signed.ensures ∙ sym (ap (λ (k : ℕ). signed_of k c.args.n) c.if-kind-eq0.true)

pub returns-then-kind-eq1 : goal.returns-then-kind-eq1
unfolding signed_of number_width
returns-then-kind-eq1 c = to_z-of_z w64 c.signed-then-kind-eq1.result (record { sfits = c.signed-then-kind-eq1.type_inv }) ∙ c.signed-then-kind-eq1.ensures ∙ sym (ap (λ (k : ℕ). signed_of k c.args.n) c.if-kind-eq1.true)

pub returns-then-kind-eq2 : goal.returns-then-kind-eq2
unfolding signed_of number_width
returns-then-kind-eq2 c = to_z-of_z w64 c.signed-then-kind-eq2.result (record { sfits = c.signed-then-kind-eq2.type_inv }) ∙ c.signed-then-kind-eq2.ensures ∙ sym (ap (λ (k : ℕ). signed_of k c.args.n) c.if-kind-eq2.true)

pub returns : goal.returns
unfolding signed_of number_width
returns c =
    let n = c.args.n in
    let k : c.args.kind ≡ 3 = omega (arith, c.if-kind-eq0.false, c.if-kind-eq1.false, c.if-kind-eq2.false) in
    let q : n % 18446744073709551616 ≡ n = omega arith in
    to_z-of_z w64 c.signed-2.result (record { sfits = c.signed-2.type_inv }) ∙ c.signed-2.ensures ∙ sym (ap (λ (k : ℕ). signed_of k n) k ∙ ap (complement 18446744073709551615) q)
