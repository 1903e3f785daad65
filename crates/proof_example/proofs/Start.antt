-- What the run begins with: the plan keeps the rules, and the pages have their sizes.
use mathlib.Core.Path.{◌≡◌}
use mathlib.Core.Bool.{true}
use mathlib.Core.List.{List, [], ◌∷◌}
use Prim.Native.Nat.{ℕ, zero, suc, ◌^◌, ◌<◌}
use native.Mathlib.Omega.{arith}
use borrow.Author.Tests.{ltb-true}
use lib.Dec.{ltb}
use lib.ListN.{get_or}
use Rattle.base_utf8.specs.Bytewise.{all_below}
use Rattle.node_schema.proofs.BoolLaws.{left, right}
use Rattle.proof_promises.specs.World.{Start}
use Rattle.proof_example.specs.Plan.{plan, edits, page}
use Rattle.proof_example.proofs.ServerCalls.{server-calls}
use Rattle.proof_example.proofs.CacheCalls.{cache-calls}

-- words below a bound, and 0 after the last
pub below_at : (n : ℕ) → 0 < n → (l : List ℕ) → all_below n l ≡ true → (k : ℕ) → get_or l k 0 < n
unfolding all_below
below_at n h [] b k = h
below_at n h (a ∷ l) b zero = ltb-true a n (left (ltb a n) (all_below n l) b)
below_at n h (a ∷ l) b (suc k) = below_at n h l (right (ltb a n) (all_below n l) b) k

unfoldable pub start : Start plan
start =
    record {
      edits = edits;
      page = page;
      accepts = server-calls.accepts;
      table-right = server-calls.table-right;
      words-fit = below_at (2 ^ 64) (omega arith) plan.words server-calls.words-fit;
      edits-size = server-calls.edits-size;
      page-size = cache-calls.page-size;
    }
