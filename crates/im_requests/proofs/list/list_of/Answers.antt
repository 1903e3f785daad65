use mathlib.Core.Path.{◌≡◌, sym, ap, ◌∙◌}
use mathlib.Core.Bool.{false}
use Prim.Native.Nat.{ℕ, ◌*◌, ◌-◌}
use lib.ListN.{replicate}
use Rattle.im_requests.specs.Message.{list_read}
use Rattle.im_requests.proofs.PassLaws.{list-other, list-deeper, list-in}
use Rattle.im_requests.proofs.list.list_of.Goals as goal

pub returns-then-e-ne-ARRAY : goal.returns-then-e-ne-ARRAY
returns-then-e-ne-ARRAY g c = let m = g.M.Member in let a = c.args in
    let z : c.fill.new.self ≡ replicate (m.limit * m.size) 0 = c.fill.ensures.after (λ y h. h) ∙ ap (λ (n : ℕ). replicate n 0) c.requires in
    (λ j. record { good = false; kept = record { count = 0; words = z j }; next = record { at = 0 } }) ∙ sym (ap (list_read m.limit m.size (λ x. m.words (m.held x)) a.kept.now) (list-other m.at a.left a.s.now a.e c.if-e-ne-ARRAY.true))

pub returns-then-left-eq0 : goal.returns-then-left-eq0
returns-then-left-eq0 g c = let m = g.M.Member in let a = c.args in
    let z : c.fill-then-left-eq0.new.self ≡ replicate (m.limit * m.size) 0 = c.fill-then-left-eq0.ensures.after (λ y h. h) ∙ ap (λ (n : ℕ). replicate n 0) c.requires in
    (λ j. record { good = false; kept = record { count = 0; words = z j }; next = record { at = 0 } }) ∙ sym (ap (list_read m.limit m.size (λ x. m.words (m.held x)) a.kept.now) (list-deeper m.at a.left a.s.now a.e c.if-left-eq0.true))

pub returns : goal.returns
returns g c = let m = g.M.Member in let a = c.args in
    c.list_from.ensures ∙ ap (list_read m.limit m.size (λ x. m.words (m.held x)) a.kept.now) (m.listed (a.left - 1) a.s.now a.e.next.at ∙ sym (list-in m.at a.left a.s.now a.e c.if-e-ne-ARRAY.false c.if-left-eq0.false))
