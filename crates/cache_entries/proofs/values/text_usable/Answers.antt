use mathlib.Core.Path.{◌≡◌, ap, ◌∙◌}
use Prim.Native.Nat.{ℕ, ◌+◌, ◌-◌}
use native.Mathlib.Omega.{arith}
use borrow.Author.Tests.{le-leb, lt-leb}
use lib.ListN.{take, drop}
use Rattle.base_utf8.specs.WellFormed.{well_formed}
use Rattle.cache_entries.specs.Values.{inside_usable}
use Rattle.cache_entries.proofs.values.text_usable.Goals as goal

pub returns-then-s-len : goal.returns-then-s-len
unfolding inside_usable
returns-then-s-len c = rw (lt-leb _ _ c.if-s-len.true)

pub returns-then-s-len-2 : goal.returns-then-s-len-2
unfolding inside_usable
returns-then-s-len-2 c = rw (le-leb _ _ c.if-s-len.false, lt-leb _ _ c.if-s-len-2.true)

pub returns : goal.returns
unfolding inside_usable
returns c = let s = c.args.s.now in let a = c.args.start in let n = c.args.len in let q : (a + n) - a ≡ n = omega arith in c.valid.ensures ∙ rw (le-leb _ _ c.if-s-len.false, le-leb _ _ c.if-s-len-2.false) (ap (λ (m : ℕ). well_formed (take m (drop a s))) q)
