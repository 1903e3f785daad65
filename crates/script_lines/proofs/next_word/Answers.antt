use mathlib.Core.Path.{sym, ◌∙◌}
use borrow.Author.Tests.{not-true, not-false, lt-ltb, le-ltb}
use Rattle.script_lines.proofs.WordLaws.{word_none, word-past, word-here, end-found, none_within}
use borrow.Author.Rules.{rules}
use Rattle.script_lines.proofs.next_word.Goals as goal

pub returns-then-not-s : goal.returns-then-not-s
returns-then-not-s c = let a = c.args in
    record { value = c.missing.ensures ∙ sym (word_none a.line.now a.s (not-true _ c.if-not-s.true)); word_within = rw c.missing.ensures (none_within _ _) }

pub returns-then-line-at : goal.returns-then-line-at
returns-then-line-at c = let a = c.args in
    record { value = c.missing-then-line-at.ensures ∙ sym (word-past a.line.now a.s (not-false _ c.if-not-s.false) c.if-line-at.true); word_within = rw c.missing-then-line-at.ensures (none_within _ _) }

pub returns-then-end-line : goal.returns-then-end-line
returns-then-end-line c = let a = c.args in let e = c.find-end.ensures.value ∙ end-found a.line.now a.s.at in
    record { value = rw (word-here a.line.now a.s (not-false _ c.if-not-s.false) c.if-line-at.false, ← e, lt-ltb _ _ c.if-end-line.true); word_within = search rules }

pub returns : goal.returns
returns c = let a = c.args in let e = c.find-end.ensures.value ∙ end-found a.line.now a.s.at in
    record { value = rw (word-here a.line.now a.s (not-false _ c.if-not-s.false) c.if-line-at.false, ← e, le-ltb _ _ c.if-end-line.false); word_within = search rules }
