-- What a step counts: its changes, and how far they move a version.
use mathlib.Core.Path.{◌≡◌, refl, ◌∙◌, ap}
use mathlib.Core.Bool.{Bool}
use mathlib.Core.List.{List, [], ◌∷◌}
use Prim.Native.Nat.{ℕ, ◌+◌, ◌%◌, ◌^◌, ◌<◌}
use native.Mathlib.Omega.{arith}
use lib.Dec.{eqb, eqb→eq}
use Rattle.proof_protocol.specs.Model.{Cluster, Store, changed_in, stored_in, stores_of}
use Rattle.proof_protocol.specs.Steps.{join}
use Rattle.proof_protocol.specs.Claims.{holds, set_in, differing, moved, Counting}
use Rattle.proof_protocol.proofs.SmallLaws.{bool_cases, T_true, T_false}
use Rattle.proof_protocol.proofs.Inductive.{reach-inv}
use Rattle.proof_protocol.proofs.RunLaws.{visits-start, visits-grow}

pub moved_by : (first old new n : ℕ) → n < 2 ^ 32 → new ≡ old + n → n ≡ moved ((first + old) % 2 ^ 32) ((first + new) % 2 ^ 32)
moved_by first old new n few e = omega arith

module _ {Value : Type 0} where
  pub stored-changes : (clusters : ℕ → Cluster Value) (stores : List (Store Value)) (c : ℕ) → (stored_in clusters stores c).changes ≡ (clusters c).changes + stores_of c stores
  unfolding stored_in
  stored-changes clusters [] c = omega arith
  stored-changes clusters (w ∷ stores) c =
      stored-changes (changed_in clusters w) stores c
      ∙ bool_cases (eqb c w.cluster) (λ t. rw (T_true (eqb c w.cluster) t) (omega (arith, ap (λ (d : ℕ). (clusters d).changes) (eqb→eq c w.cluster t)))) (λ n. rw (T_false (eqb c w.cluster) n) refl)

  pub sets-stored : (same : Value → Value → Bool) (clusters : ℕ → Cluster Value) (sets : List (Store Value)) → set_in same clusters sets ≡ stored_in clusters (differing same clusters sets)
  unfolding set_in differing stored_in
  sets-stored same clusters [] = refl
  sets-stored same clusters (w ∷ sets) =
      bool_cases (holds same clusters w) (λ t. rw (T_true (holds same clusters w) t) (sets-stored same clusters sets)) (λ n. rw (T_false (holds same clusters w) n) (sets-stored same (changed_in clusters w) sets))

pub counting : Counting
counting =
    record {
      stores = λ Value clusters l c. stored-changes clusters l c;
      sets = λ Value same clusters l. sets-stored same clusters l;
      rises = λ Value node s t run c. (visits-grow node run s (visits-start node run)).rise c;
      told = λ Value node s t r run c n few e. rw ((reach-inv node r).clusters c, (reach-inv node (join r run)).clusters c) (moved_by (node.first_version c) (s.clusters c).changes (t.clusters c).changes n few e);
    }
