use mathlib.Core.Path.{◌≡◌, sym, ◌∙◌}
use Prim.Native.Nat.{◌-◌, ◌<◌}
use lib.ListN.{length, take, drop, get_or}
use Rattle.script_lines.proofs.NumberLaws.{signed-minus, signed-plain, word_some, word_first, word-rest, word-empty}
use Rattle.script_lines.specs.Numbers.{signed_at}
use borrow.Author.Rules.{rules}
use Rattle.script_lines.proofs.number.read_signed.Goals as goal
use Rattle.script_lines.proofs.number.read_signed.Goals.{then-start-end+else-line-start-eq45, else-start-end}

pub returns-then-line-start-eq45 : goal.returns-then-line-start-eq45
unfolding signed_at
returns-then-line-start-eq45 c =
    let a = c.args in
    let w = c.next_word-w in
    let line = a.line.now in
    let i = w.result.start in
    let j = w.result.end in
    let h = c.if-start-end.true in
    let k = w.ensures.word_within.ends in
    record { value = rw (← w.ensures.value, signed-minus w.result.next (take (j - i) (drop i line)) (word_some line i j h k) (word_first line i j h k ∙ c.if-line-start-eq45.true), word-rest line i j h k, ← c.decimal.ensures, ← c.at_most.ensures.value) c.negated.ensures.value; value_bound = c.negated.ensures.value_bound }

pub returns : goal.returns
unfolding signed_at
returns c =
    let a = c.args in
    let w = c.next_word-w in
    let line = a.line.now in
    let i = w.result.start in
    let j = w.result.end in
    let k = w.ensures.word_within.ends in
    let no : 0 < length (take (j - i) (drop i line)) → get_or (take (j - i) (drop i line)) 0 0 ≡ 45 → ⊥ = elim c.if-start-end.branch [ then-start-end+else-line-start-eq45 u ↦ λ p e. u.if-line-start-eq45.false (sym (word_first line i j u.if-start-end.true k) ∙ e) | else-start-end u ↦ λ p e. word-empty line i j u.if-start-end.false p ] in
    record { value = rw (← w.ensures.value, signed-plain w.result.next (take (j - i) (drop i line)) no, ← c.decimal-2.ensures) c.at_most-2.ensures.value; value_bound = search rules }
