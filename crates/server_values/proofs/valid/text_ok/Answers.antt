use mathlib.Core.Path.{◌≡◌, sym, ap, ap₂, ◌∙◌}
use mathlib.Core.Bool.{true}
use Prim.Native.Nat.{ℕ, ◌≤◌, ◌<◌}
use Rattle.node_schema.specs.Rows.{attribute_row, is_text}
use Rattle.server_values.specs.Values.{rank_text, rank_length, mark_of, mark_at}
use Rattle.server_values.specs.Valid.{mark_max, shown_right}
use Rattle.server_values.proofs.ValueLaws.{mark-ranked}
use Rattle.server_values.proofs.ValidLaws.{mark-large, text-null, text-there, shown-none, shown-text}
use Rattle.server_values.proofs.valid.text_ok.Goals as goal
use Rattle.server_values.proofs.valid.text_ok.Goals.{After-mark_of-mark, Else-not-is_text}

pub returns-then-not-is_text : goal.returns-then-not-is_text
returns-then-not-is_text c = let a = c.args in shown-none a.w.now a.defaults.now a.edits.now a.i a.null _ (sym c.is_text.ensures ∙ c.if-not-is_text.true)

-- the row is a text
text-here : (c : Else-not-is_text) → is_text (attribute_row c.args.w.now c.args.i) ≡ true
text-here c = sym c.is_text.ensures ∙ c.if-not-is_text.false

-- its mark was read
read : (c : After-mark_of-mark) → c.mark_of-mark.result ≡ mark_at c.args.w.now c.args.texts.now c.args.i
read c = c.mark_of-mark.ensures ∙ ap (mark_of c.args.texts.now) c.first_value-rank.ensures

pub returns-then-mark-gt-MARK_MAX : goal.returns-then-mark-gt-MARK_MAX
returns-then-mark-gt-MARK_MAX c =
    let a = c.args in
    let r = (attribute_row a.w.now a.i).first in
    let m = mark_at a.w.now a.texts.now a.i in
    let l : mark_max < m = rw (← read (goal.at.returns-then-mark-gt-MARK_MAX c).After-mark_of-mark) c.if-mark-gt-MARK_MAX.true in
    mark-large a.w.now a.defaults.now a.edits.now r m a.null l ∙ shown-text a.w.now a.defaults.now a.edits.now a.i a.null m (text-here (goal.at.returns-then-mark-gt-MARK_MAX c).Else-not-is_text)

pub returns-then-null : goal.returns-then-null
returns-then-null c =
    let a = c.args in
    let r = (attribute_row a.w.now a.i).first in
    let m = mark_at a.w.now a.texts.now a.i in
    let l : m ≤ mark_max = rw (← read (goal.at.returns-then-null c).After-mark_of-mark) c.if-mark-gt-MARK_MAX.false in
    text-null a.w.now a.defaults.now a.edits.now r m a.null l c.if-null.true ∙ shown-text a.w.now a.defaults.now a.edits.now a.i a.null m (text-here (goal.at.returns-then-null c).Else-not-is_text)

pub rank_ok-requires : goal.rank_ok-requires
rank_ok-requires c =
    λ n. mark-ranked c.args.texts.now _ (λ q. n (c.mark_of-mark.ensures ∙ q))

pub returns : goal.returns
returns c =
    let a = c.args in
    let w = a.w.now in
    let r = (attribute_row w a.i).first in
    let m = mark_at w a.texts.now a.i in
    let l : m ≤ mark_max = rw (← read (goal.at.returns c).After-mark_of-mark) c.if-mark-gt-MARK_MAX.false in
    c.rank_ok.ensures
    ∙ ap₂ (λ (k n : ℕ). shown_right (rank_text w a.defaults.now a.edits.now k n) (rank_length w k n)) c.first_value-rank.ensures (read (goal.at.returns c).After-mark_of-mark)
    ∙ text-there w a.defaults.now a.edits.now r m a.null l c.if-null.false
    ∙ shown-text w a.defaults.now a.edits.now a.i a.null m (text-here (goal.at.returns c).Else-not-is_text)
