-- Every step keeps the invariant, so every state of a run has it.
use mathlib.Core.Path.{sym}
use mathlib.Core.Bool.{true, true≢false}
use mathlib.Core.List.Memᴰ
use native.Mathlib.Omega.{arith}
use Rattle.proof_protocol.specs.Model.{Node, System, start}
use Rattle.proof_protocol.specs.Steps.{Step, alters, begins_read, begins_write, serves, receives, none, then, Reach}
use Rattle.proof_protocol.proofs.VersionLaws.{counts-from}
use Rattle.proof_protocol.proofs.Invariant.{Inv}
use Rattle.proof_protocol.proofs.ChangeLaws.{stores-keep}
use Rattle.proof_protocol.proofs.ServeLaws.{serve-keeps}
use Rattle.proof_protocol.proofs.CacheLaws.{read_keeps, write_keeps, receive-keeps}

module _ {Value : Type 0} where
  start-inv : (node : Node Value) → Inv node (start node)
  start-inv node =
      record {
        clusters = λ c. counts-from (node.first_version c);
        parts = λ m i. absurd (Memᴰ.not-nil i);
        sent = λ m i. absurd (Memᴰ.not-nil i);
        chain = λ m i. absurd (Memᴰ.not-nil i);
        row =
            record {
              ahead = λ w i. absurd (Memᴰ.not-nil i);
              asked = λ e. absurd (true≢false (sym e));
              size = λ e. absurd (true≢false (sym e));
              turn = λ e. absurd (true≢false (sym e));
              some = λ e. absurd (true≢false (sym e));
              rise = λ c. omega arith;
              kept = λ m i. i;
            };
        cache =
            record {
              on = λ e i. absurd (Memᴰ.not-nil i);
              full = λ e. absurd (true≢false (sym e));
              bare = λ f i. absurd (Memᴰ.not-nil i);
              ids = λ u i. absurd (Memᴰ.not-nil i);
              own = λ u i. absurd (Memᴰ.not-nil i);
              at = λ e. absurd (true≢false (sym e));
            };
      }

  step_keeps : (node : Node Value) {s t : System Value} → Step node s t → Inv node s → Inv node t
  step_keeps node {s} (alters stores) h = stores-keep node s stores h
  step_keeps node {s} (begins_read filters w) h = read_keeps node s filters w h
  step_keeps node {s} begins_write h = write_keeps node s h
  step_keeps node {s} (serves m n stores i) h = serve-keeps node s m n stores i h
  step_keeps node {s} (receives m i) h = receive-keeps node s m i h

  pub reach-inv : (node : Node Value) {s : System Value} → Reach node s → Inv node s
  reach-inv node none = start-inv node
  reach-inv node (then run p) = step_keeps node p (reach-inv node run)
