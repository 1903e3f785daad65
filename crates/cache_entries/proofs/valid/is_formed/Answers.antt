use mathlib.Core.Path.{◌≡◌, sym, ap, ◌∙◌}
use Prim.Native.Nat.{ℕ, ◌+◌, ◌-◌}
use native.Mathlib.Omega.{arith}
use lib.ListN.{take, drop}
use Rattle.base_utf8.specs.WellFormed.{well_formed}
use Rattle.base_utf8.proofs.Cuts.{cut-exactly}
use Rattle.cache_entries.proofs.FormLaws.{in_whole, form-whole, plain-part}
use Rattle.cache_entries.proofs.valid.is_formed.Goals as goal

pub overflow_add-end : goal.overflow_add-end
overflow_add-end c = omega (arith, c.requires.0, c.requires.1.0)

pub returns-then-form-eq-PLAIN : goal.returns-then-form-eq-PLAIN
returns-then-form-eq-PLAIN c = let a = c.args in let p = c.requires in sym (ap well_formed (sym (in_whole a.page.now a.whole.now a.start a.len p.1.1.0 c.if-end-whole.true)) ∙ plain-part a.whole.now a.start a.len (sym p.1.1.1 ∙ c.if-form-eq-PLAIN.true))

pub returns-then-form-eq-WHOLE : goal.returns-then-form-eq-WHOLE
returns-then-form-eq-WHOLE c = let a = c.args in let p = c.requires in c.is_cut_well.ensures ∙ sym (cut-exactly a.whole.now a.start a.len (form-whole a.whole.now (sym p.1.1.1 ∙ c.if-form-eq-WHOLE.true))) ∙ ap well_formed (in_whole a.page.now a.whole.now a.start a.len p.1.1.0 c.if-end-whole.true)

pub slice_bounds-valid-end : goal.slice_bounds-valid-end
slice_bounds-valid-end c = omega (arith, c.requires.0)

pub returns : goal.returns
returns c = let a = c.args in let q : (a.start + a.len) - a.start ≡ a.len = omega arith in c.valid.ensures ∙ ap (λ (m : ℕ). well_formed (take m (drop a.start a.page.now))) q
