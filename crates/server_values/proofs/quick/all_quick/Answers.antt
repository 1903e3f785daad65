use mathlib.Core.Path.{◌≡◌, refl, sym, ap, ◌∙◌}
use mathlib.Core.Bool.{Bool, true, false}
use mathlib.Core.List.{List}
use Prim.Native.Nat.{ℕ, ◌*◌, ◌/◌, ◌%◌}
use native.Mathlib.Omega.{arith}
use borrow.Author.Rules.{rules}
use lib.Dec.{eqb}
use lib.ListN.{get_or}
use Rattle.node_schema.specs.Layout.{half, text_size}
use Rattle.node_schema.specs.Rows.{factory_word, attribute_row, count_of_attributes, is_text}
use Rattle.node_schema.specs.Check.{every, count, rank as rank_of}
use Rattle.node_schema.proofs.CheckLaws.{every-at, every_more, rank-more, rank_same}
use Rattle.server_values.specs.Quick.{near, null_at, quick_at}
use Rattle.server_values.proofs.QuickLaws.{quick-rank, quick-word, quick-text, quick-number, quick-wrong, quick-done}
use Rattle.server_values.proofs.quick.all_quick.Goals as goal
use Rattle.server_values.proofs.quick.all_quick.Goals.{Else-is_text, Then-is_text, then-is_text+else-first_value-rank+else-words-i-ne0+else-not-is_near, else-is_text+else-not-number_ok}

pub loop-i-init : goal.loop-i-init
unfolding every count
loop-i-init c = (search rules, c.attribute_count-n.ensures, refl, refl)

-- what is asked of a text
asked : (w words : List ℕ) (nulls : List Bool) (texts : List ℕ) (len i : ℕ) {rank f : ℕ} → rank ≡ rank_of w i → is_text (attribute_row w i) ≡ true → (attribute_row w i).first ≡ rank → get_or words i 0 ≡ 0 → f ≡ factory_word w rank → near (f / half) (f % half) (get_or texts rank 0) len ≡ quick_at w words nulls texts len i
asked w words nulls texts len i {rank} r t q z e = ap (λ (f : ℕ). near (f / half) (f % half) (get_or texts rank 0) len) e ∙ quick-text w words nulls texts len i _ r t q z

-- the row is a text
text-here : (c : Then-is_text) → is_text (attribute_row c.args.w.now c.loop-i.i) ≡ true
text-here c = sym c.is_text.ensures ∙ c.if-is_text.true

-- and none
none_here : (c : Else-is_text) → is_text (attribute_row c.args.w.now c.loop-i.i) ≡ false
none_here c = sym c.is_text.ensures ∙ c.if-is_text.false

pub returns-then-first_value-rank : goal.returns-then-first_value-rank
returns-then-first_value-rank c =
    let a = c.args in
    let l = c.loop-i in
    quick-wrong a.w.now a.words.now a.nulls.now a.texts.now a.len a.size l.i (search rules)
    (quick-rank a.w.now a.words.now a.nulls.now a.texts.now a.len l.i _ l.invariant.2 (text-here (goal.at.returns-then-first_value-rank c).Then-is_text) (λ q. c.if-first_value-rank.true (c.first_value.ensures ∙ q)))

pub returns-then-words-i-ne0 : goal.returns-then-words-i-ne0
returns-then-words-i-ne0 c =
    let a = c.args in
    let l = c.loop-i in
    quick-wrong a.w.now a.words.now a.nulls.now a.texts.now a.len a.size l.i (search rules)
    (quick-word a.w.now a.words.now a.nulls.now a.texts.now a.len l.i _ l.invariant.2 (text-here (goal.at.returns-then-words-i-ne0 c).Then-is_text) (sym c.first_value.ensures ∙ c.if-first_value-rank.false) c.if-words-i-ne0.true)

-- what is asked of the text is what the row asks
pub returns-then-not-is_near : goal.returns-then-not-is_near
returns-then-not-is_near c =
    let a = c.args in
    let l = c.loop-i in
    let t = text-here (goal.at.returns-then-not-is_near c).Then-is_text in
    let f : c.first_value.result ≡ l.rank = c.if-first_value-rank.false in
    let e = asked a.w.now a.words.now a.nulls.now a.texts.now a.len l.i l.invariant.2 t (sym c.first_value.ensures ∙ f) c.if-words-i-ne0.false c.factory_at.ensures in
    quick-wrong a.w.now a.words.now a.nulls.now a.texts.now a.len a.size l.i (search rules) (sym (c.is_near.ensures ∙ e) ∙ c.if-not-is_near.true)

pub number_ok-requires : goal.number_ok-requires
number_ok-requires c =
    let a = c.args in
    (search rules, (none_here (goal.at.number_ok-requires c).Else-is_text, every-at (null_at a.w.now a.words.now a.nulls.now) (count_of_attributes a.w.now) c.requires _ (search rules)))

-- what is asked of the number is what the row asks
pub returns-then-not-number_ok : goal.returns-then-not-number_ok
returns-then-not-number_ok c =
    let a = c.args in
    let l = c.loop-i in
    let n = none_here (goal.at.returns-then-not-number_ok c).Else-is_text in
    quick-wrong a.w.now a.words.now a.nulls.now a.texts.now a.len a.size l.i (search rules)
    (sym (c.number_ok.ensures ∙ quick-number a.w.now a.words.now a.nulls.now a.texts.now a.len l.i n) ∙ c.if-not-number_ok.true)

pub loop-i-preserved : goal.loop-i-preserved
loop-i-preserved c =
    let a = c.args in
    let l = c.loop-i in
    let p = quick_at a.w.now a.words.now a.nulls.now a.texts.now a.len in
    elim c.if-is_text.branch [
      | then-is_text+else-first_value-rank+else-words-i-ne0+else-not-is_near b ↦
          (let t = sym c.is_text.ensures ∙ b.if-is_text.true in
          let e = asked a.w.now a.words.now a.nulls.now a.texts.now a.len l.i l.invariant.2 t (sym b.first_value.ensures ∙ b.if-first_value-rank.false) b.if-words-i-ne0.false b.factory_at.ensures in
          (omega arith, l.invariant.1, b.rank-is ∙ rank-more a.w.now l.i _ l.invariant.2 t, every_more p l.i l.invariant.3 (sym (b.is_near.ensures ∙ e) ∙ b.if-not-is_near.false)))
      | else-is_text+else-not-number_ok b ↦
          (let n = sym c.is_text.ensures ∙ b.if-is_text.false in
          let e = quick-number a.w.now a.words.now a.nulls.now a.texts.now a.len l.i n in
          (omega arith, l.invariant.1, b.rank-is ∙ rank_same a.w.now l.i _ l.invariant.2 n, every_more p l.i l.invariant.3 (sym (b.number_ok.ensures ∙ e) ∙ b.if-not-number_ok.false)))
    ]

pub returns : goal.returns
returns c =
    let a = c.args in
    let l = c.loop-i in
    let e : l.i ≡ count_of_attributes a.w.now = omega (arith, l.invariant.1) in
    ap (λ (k : ℕ). eqb a.size (text_size * k)) (l.invariant.2 ∙ ap (rank_of a.w.now) e)
    ∙ quick-done a.w.now a.words.now a.nulls.now a.texts.now a.len a.size (sym (ap (every (quick_at a.w.now a.words.now a.nulls.now a.texts.now a.len)) e) ∙ l.invariant.3) (omega (arith, l.invariant.0, e, l.invariant.2, ap (rank_of a.w.now) e))
