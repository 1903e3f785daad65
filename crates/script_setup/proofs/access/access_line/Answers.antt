use mathlib.Core.Path.{◌≡◌, refl, sym, ◌∙◌}
use mathlib.Core.Bool.{Bool, true, false, not}
use Prim.Native.Nat.{ℕ}
use Rattle.std.specs.Prelude.{Some, None, Option, is_some, is_none}
use Rattle.script_setup.specs.Access.{access_at}
use Rattle.script_setup.proofs.access.access_line.Goals as goal

-- what `is_none` answers
unmarked : (o : Option ℕ) (b : Bool) → is_some o ≡ not b → b ≡ is_none o
unmarked (Some n) true e = cc
unmarked (Some n) false e = refl
unmarked None true e = refl
unmarked None false e = cc

pub returns-then-not-is_done : goal.returns-then-not-is_done
unfolding access_at
returns-then-not-is_done c =
    let p = c.read_number-privilege.ensures.value in
    let subject = c.read_marked-subject.ensures.value in
    let e = c.read_marked-endpoint.ensures.value in
    let k = c.read_marked-cluster.ensures.value in
    let d = c.is_done in
    rw (← p, ← subject, ← e, ← k, sym d.ensures ∙ c.if-not-is_done.true)

pub returns : goal.returns
unfolding access_at
returns c =
    let p = c.read_number-privilege.ensures.value in
    let subject = c.read_marked-subject.ensures.value in
    let e = c.read_marked-endpoint.ensures.value in
    let k = c.read_marked-cluster.ensures.value in
    let d = c.is_done in
    let none-1 = unmarked _ _ c.is_none.ensures in
    let none-2 = unmarked _ _ c.is_none-2.ensures in
    let none-3 = unmarked _ _ c.is_none-3.ensures in
    rw (c.with_entry-more.ensures, none-1, none-2, none-3, c.unwrap_or.ensures, c.unwrap_or-2.ensures, c.unwrap_or-3.ensures, ← p, ← subject, ← e, ← k, sym d.ensures ∙ c.if-not-is_done.false)
