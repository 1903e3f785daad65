use Rattle.std.specs.Prelude.{Option}
use Rattle.cache_ask.specs.Ask.{coherent_there, coherent_of, whole_read}
use Rattle.cache_entries.specs.declared.Cached.{Cached}
use Rattle.cache_state.specs.Words.{held_in}
use mathlib.Core.List.{List}
use Prim.Native.Nat.{ℕ}
use mathlib.Core.Path.{sym, ap, ◌∙◌}
use Rattle.cache_ask.proofs.whole_of.Goals as goal
use Rattle.cache_ask.proofs.whole_of.Goals.{Start}

-- what is held, of these columns
abbrev lent : Start → List ℕ → List ℕ → List ℕ → Cached
lent s kinds words lengths = held_in s.args.clusters.now s.args.keys.now s.args.versions.now kinds words s.args.order.now lengths s.args.t

pub returns-in_default : goal.returns-in_default
unfolding coherent_of
returns-in_default c = λ kinds words lengths. sym (ap (λ (f : (Option ℕ)). whole_read (coherent_there (lent (goal.at.returns-in_default c).Start kinds words lengths) f)) (sym c.find_cluster.ensures ∙ c.in_default.is))

pub returns-in-Some-coherent_at : goal.returns-in-Some-coherent_at
unfolding coherent_of
returns-in-Some-coherent_at c = let a = c.args in λ kinds words lengths. sym (ap (λ (f : (Option ℕ)). whole_read (coherent_there (lent (goal.at.returns-in-Some-coherent_at c).Start kinds words lengths) f)) (sym c.find_cluster.ensures ∙ c.in-Some.is) ∙ ap whole_read ((sym (c.coherent_at.ensures a.clusters.now kinds words a.order.now lengths a.t.cluster_count) ∙ c.in-Some-coherent_at.is)))

pub returns-in-None : goal.returns-in-None
unfolding coherent_of
returns-in-None c = let a = c.args in λ kinds words lengths. sym (ap (λ (f : (Option ℕ)). whole_read (coherent_there (lent (goal.at.returns-in-None c).Start kinds words lengths) f)) (sym c.find_cluster.ensures ∙ c.in-Some.is) ∙ ap whole_read ((sym (c.coherent_at.ensures a.clusters.now kinds words a.order.now lengths a.t.cluster_count) ∙ c.in-None.is)))
