use mathlib.Core.Path.{refl, sym, ◌∙◌}
use native.Mathlib.Omega.{arith}
use Rattle.node_schema.specs.Check.{every}
use Rattle.node_schema.proofs.CheckLaws.{every_more, every-fails, every-done}
use Rattle.cache_entries.specs.Entries.{held_of}
use Rattle.cache_entries.specs.Valid.{entry_right_at, entries_right}
use Rattle.cache_entries.proofs.valid.entries_ok.Goals as goal

pub loop-i-init : goal.loop-i-init
unfolding every
loop-i-init c = λ clusters order lengths primed. refl

pub returns-then-not-entry_ok : goal.returns-then-not-entry_ok
unfolding entries_right
returns-then-not-entry_ok c = let a = c.args in λ clusters order lengths primed. every-fails (entry_right_at (held_of clusters a.keys.now a.versions.now a.kinds.now a.words.now order lengths a.k a.n primed)) a.n c.loop-i.i c.loop-i-test.true (sym c.entry_ok.ensures ∙ c.if-not-entry_ok.true)

pub loop-i-preserved : goal.loop-i-preserved
loop-i-preserved c = let a = c.args in let l = c.loop-i in λ clusters order lengths primed. every_more (entry_right_at (held_of clusters a.keys.now a.versions.now a.kinds.now a.words.now order lengths a.k a.n primed)) _ (l.invariant clusters order lengths primed) (sym c.entry_ok.ensures ∙ c.if-not-entry_ok.false)

pub returns : goal.returns
unfolding entries_right
returns c = let a = c.args in λ clusters order lengths primed. every-done (entry_right_at (held_of clusters a.keys.now a.versions.now a.kinds.now a.words.now order lengths a.k a.n primed)) a.n c.loop-i.i (omega arith) c.loop-i-test.false (c.loop-i.invariant clusters order lengths primed)
