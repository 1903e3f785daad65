use Rattle.cache_ask.proofs.AskLaws.{cluster-found}
use Rattle.cache_entries.specs.declared.Cached.{Cached}
use Rattle.cache_entries.specs.Entries.{in_cluster, path_at}
use Rattle.cache_state.specs.Words.{held_in}
use native.Mathlib.Omega.{arith}
use mathlib.Core.List.{List}
use Prim.Native.Nat.{ℕ}
use mathlib.Core.Path.{sym, ap, ◌∙◌}
use Rattle.cache_ask.proofs.path_at.Goals as goal
use Rattle.cache_ask.proofs.path_at.Goals.{Start}

-- what is held, of these columns
abbrev lent : Start → List ℕ → List ℕ → List ℕ → List ℕ → Cached
lent s versions kinds words lengths = held_in s.args.clusters.now s.args.keys.now versions kinds words s.args.order.now lengths s.args.t

pub returns-in_err-k : goal.returns-in_err-k
unfolding path_at
returns-in_err-k c = λ versions kinds words lengths. c.from_residual.ensures ∙ sym (ap (in_cluster (lent (goal.at.returns-in_err-k c).Start versions kinds words lengths) c.args.attribute) (sym c.find_cluster.ensures ∙ c.in_err-k.was))

pub overflow_mul-k : goal.overflow_mul-k
overflow_mul-k c = omega (arith, cluster-found c.args.clusters.now c.args.t.cluster_count _ _ c.requires.few-clusters (sym c.find_cluster.ensures ∙ c.in_ok-k.was))

pub overflow_add-k : goal.overflow_add-k
overflow_add-k c = omega (arith, cluster-found c.args.clusters.now c.args.t.cluster_count _ _ c.requires.few-clusters (sym c.find_cluster.ensures ∙ c.in_ok-k.was))

pub returns : goal.returns
unfolding path_at
returns c = λ versions kinds words lengths. c.find_entry.ensures ∙ sym (ap (in_cluster (lent (goal.at.returns c).Start versions kinds words lengths) c.args.attribute) (sym c.find_cluster.ensures ∙ c.in_ok-k.was))
