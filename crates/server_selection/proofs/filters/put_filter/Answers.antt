use mathlib.Core.Path.{sym, ap, ◌∙◌}
use Prim.Native.Nat.{◌<◌, ◌+◌}
use native.Mathlib.Omega.{arith}
use lib.ListN.{set}
use Rattle.base_bounds.specs.Bounds.{cluster_limit}
use Rattle.server_selection.specs.Request.{filters_at}
use Rattle.server_selection.specs.Filters.{joined_at}
use Rattle.server_selection.proofs.PutLaws.{row_within}
use Rattle.server_selection.proofs.filters.put_filter.Goals as goal
use Rattle.server_selection.proofs.filters.put_filter.Goals.{In-Some}

pub returns-in_default : goal.returns-in_default
returns-in_default c = ap (joined_at _ _) (sym (sym c.row_of.ensures ∙ c.in_default.is))

-- the row that was found
here : (c : In-Some) → c.in-Some.k < cluster_limit
here c = row_within c.args.w.now c.args.f _ (sym c.row_of.ensures ∙ c.in-Some.is)

pub overflow_add-k : goal.overflow_add-k
overflow_add-k c = omega (arith, here (goal.at.overflow_add-k c).In-Some)

pub offset_bounds-row-k : goal.offset_bounds-row-k
offset_bounds-row-k c = omega (arith, here (goal.at.offset_bounds-row-k c).In-Some)

pub bounds-row-k : goal.bounds-row-k
bounds-row-k c = omega (arith, here (goal.at.bounds-row-k c).In-Some, c.requires)

pub overflow_add-row : goal.overflow_add-row
overflow_add-row c = omega (arith, here (goal.at.overflow_add-row c).In-Some)

pub offset_bounds-row-k-in-Some : goal.offset_bounds-row-k-in-Some
offset_bounds-row-k-in-Some c = omega (arith, here (goal.at.offset_bounds-row-k-in-Some c).In-Some)

pub bounds-row-k-in-Some : goal.bounds-row-k-in-Some
bounds-row-k-in-Some c = omega (arith, here (goal.at.bounds-row-k-in-Some c).In-Some, c.requires)

pub returns-in-Some : goal.returns-in-Some
returns-in-Some c =
    let a = c.args in
    ap (set a.row.now (filters_at + c.in-Some.k)) c.join.ensures
    ∙ ap (joined_at a.row.now a.f.version) (sym (sym c.row_of.ensures ∙ c.in-Some.is))
