use Rattle.std.proofs.Common.{◌≡◌, ℕ, ◌-◌, ◌<◌, ◌≤◌, min, suc, List, length, get_or, ap, ◌∙◌, arith}
use Rattle.node_access.specs.declared.AccessEntry.{AccessEntry}
use Rattle.node_access.specs.declared.table.Access.{Access}
use Rattle.node_access.specs.Table.{with_entry}
use Rattle.node_access.proofs.SearchLaws.{reached, search-begin, search-step, search-end}
use Rattle.node_access.proofs.table.search.Goals as goal

pub loop-i-init : goal.loop-i-init
loop-i-init c =
    let a = c.args in
    c.begin-access.ensures ∙ search-begin a.count a.table.now a.subject a.w.now _ c.used-n.ensures

step_down : (n : ℕ) (es : List AccessEntry) (s : ℕ) (w : List ℕ) (i : ℕ) (d : AccessEntry) (a r : Access) → 0 < i → i ≤ min n (length es) → a ≡ reached n es s w i → r ≡ with_entry a (get_or es (i - 1) d) s w → r ≡ reached n es s w (i - 1)
step_down n es s w i d a r p h at is =
    let e : i ≡ suc (i - 1) = omega arith in
    is ∙ ap (λ (x : Access). with_entry x (get_or es (i - 1) d) s w) (at ∙ ap (reached n es s w) e) ∙ search-step n es s w (i - 1) d (omega arith)

pub loop-i-preserved : goal.loop-i-preserved
loop-i-preserved c =
    let a = c.args in
    let l = c.loop-i in
    step_down a.count a.table.now a.subject a.w.now l.i _ l.access _ c.loop-i-test.true (omega arith) l.invariant c.with_entry-access.ensures

pub returns : goal.returns
returns c =
    let a = c.args in
    let e : c.loop-i.i ≡ 0 = omega arith in
    c.loop-i.invariant ∙ ap (reached a.count a.table.now a.subject a.w.now) e ∙ search-end a.count a.table.now a.subject a.w.now
