use mathlib.Core.Path.{refl, ap, ◌∙◌}
use Prim.Native.Nat.{ℕ}
use Rattle.cache_entries.specs.Coherent.{shared_in, coherent_at}
use Rattle.cache_entries.proofs.SharedLaws.{shares-say}
use Rattle.cache_entries.proofs.shared.coherent_at.Goals as goal

pub returns-then-not-primed : goal.returns-then-not-primed
unfolding coherent_at
returns-then-not-primed c = λ clusters kinds words order lengths m. rw c.if-not-primed.true refl

pub returns : goal.returns
unfolding coherent_at
returns c = let a = c.args in λ clusters kinds words order lengths m. c.shared_in.ensures ∙ ap (λ (so : ℕ). (shared_in so)) c.joined_at.ensures ∙ rw c.if-not-primed.false ((shares-say a.keys.now a.versions.now a.k a.n c.requires.1))
