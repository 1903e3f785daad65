use mathlib.Core.Path.{◌≡◌, ap, ◌∙◌}
use Prim.Native.Nat.{ℕ}
use native.Mathlib.Omega.{arith}
use lib.ListN.{length, take, drop, replicate, length-take, length-drop}
use Rattle.base_bounds.specs.Bounds.{cluster_limit}
use Rattle.base_octets.proofs.MidLaws.{store-mid}
use Rattle.node_schema.specs.Rows.{rows_from}
use Rattle.node_schema.proofs.RowLaws.{rows-length}
use Rattle.server_selection.specs.Request.{filters_at}
use Rattle.server_selection.specs.Filters.{unfiltered}
use Rattle.server_selection.proofs.PutLaws.{rows-same_word}
use Rattle.server_selection.proofs.filters.clear_filters.Goals as goal

pub returns : goal.returns
returns c =
    let row = c.args.row.now in
    let z = c.fill.ensures.after (λ y h. h) in
    let n : length (take cluster_limit (drop filters_at row)) ≡ cluster_limit = omega (arith, length-take cluster_limit (drop filters_at row), length-drop filters_at row) in
    store-mid row filters_at cluster_limit (rows_from (λ k. unfiltered) cluster_limit 0) c.fill.new.self (omega arith) (rows-length (λ (k : ℕ). unfiltered) cluster_limit 0)
    (z ∙ ap (λ (n : ℕ). replicate n unfiltered) n ∙ rows-same_word unfiltered cluster_limit 0)
