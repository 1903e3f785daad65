use mathlib.Core.Path.{◌≡◌, ap, ◌∙◌}
use Prim.Native.Nat.{ℕ, ◌+◌, ◌-◌}
use native.Mathlib.Omega.{arith}
use lib.ListN.{take}
use Rattle.base_octets.specs.Store.{store}
use borrow.Author.Rules.{rules}
use Rattle.server_replies.proofs.kept.resend.Goals as goal

pub returns : goal.returns
returns c = record { out_after = let a = c.args in let e : 0 + a.len - 0 ≡ a.len = omega arith in c.put_bytes.ensures.content ∙ ap (λ (n : ℕ). store a.out.now 0 (take n a.kept.now)) e; whole = search rules }
