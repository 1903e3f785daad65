use mathlib.Core.Path.{ap, ap₂, ◌∙◌}
use Prim.Native.Nat.{ℕ, ◌-◌}
use native.Mathlib.Omega.{arith}
use lib.ListN.{take, drop}
use Rattle.server_values.specs.Valid.{shown_right}
use Rattle.server_values.proofs.ValidLaws.{rank-changed, rank-cut}
use Rattle.server_values.proofs.valid.rank_ok.Goals as goal

pub returns-then-mark-eq0 : goal.returns-then-mark-eq0
returns-then-mark-eq0 c =
    let a = c.args in
    c.part_ok.ensures
    ∙ ap₂ (λ (s n : ℕ). shown_right (take n (drop s a.defaults.now)) n) c.factory_start-start.ensures c.factory_length.ensures
    ∙ rank-cut a.w.now a.defaults.now a.edits.now a.rank a.mark c.if-mark-eq0.true

pub place_of-requires : goal.place_of-requires
place_of-requires c = omega (arith, c.requires c.if-mark-eq0.false)

pub returns : goal.returns
returns c =
    let a = c.args in
    c.part_ok-2.ensures
    ∙ ap (λ (s : ℕ). shown_right (take (a.mark - 1) (drop s a.edits.now)) (a.mark - 1)) c.place_of.ensures
    ∙ rank-changed a.w.now a.defaults.now a.edits.now a.rank a.mark c.if-mark-eq0.false
