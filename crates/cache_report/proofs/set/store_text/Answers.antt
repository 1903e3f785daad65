use mathlib.Core.Path.{◌≡◌, ap, ◌∙◌}
use Rattle.cache_report.specs.Entry.{text_stored}
use Rattle.cache_report.proofs.ItemLaws.{not-stored, text-kind}
use Prim.Native.Nat.{ℕ, ◌+◌, ◌-◌, ◌*◌}
use native.Mathlib.Omega.{arith}
use lib.ListN.{take, drop}
use Rattle.base_octets.specs.Store.{store}
use Rattle.cache_entries.proofs.ValueLaws.{text-inside, text-short}
use Rattle.cache_report.proofs.set.store_text.Goals as goal

pub returns-in_default : goal.returns-in_default
returns-in_default c = let a = c.args in not-stored a.s.now a.page.now a.place a.v c.in_default.not-Text

pub overflow_mul-place : goal.overflow_mul-place
overflow_mul-place c = let g = c.in-Text in omega (arith, c.requires.1.1.0 (text-kind g.start g.len g.is))

pub overflow_add-start : goal.overflow_add-start
overflow_add-start c = let g = c.in-Text in let h = text-inside c.args.s.now g.start g.len g.is c.requires.0 in omega (arith, h.few, h.before)

pub slice_bounds-put_bytes-end : goal.slice_bounds-put_bytes-end
slice_bounds-put_bytes-end c = let g = c.in-Text in let h = text-inside c.args.s.now g.start g.len g.is c.requires.0 in omega (arith, h.few, h.before)

pub put_bytes-requires : goal.put_bytes-requires
put_bytes-requires c = let g = c.in-Text in let p = c.requires in let h = text-inside c.args.s.now g.start g.len g.is p.0 in omega (arith, h.few, h.before, text-short g.start g.len g.is p.1.0, p.1.1.0 (text-kind g.start g.len g.is), p.1.1.1)

pub returns : goal.returns
unfolding text_stored
returns c = let a = c.args in let g = c.in-Text in let q : (g.start + g.len) - g.start ≡ g.len = omega arith in c.put_bytes.ensures.content ∙ ap (λ (n : ℕ). store a.page.now (200 * a.place) (take n (drop g.start a.s.now))) q ∙ rw g.is
