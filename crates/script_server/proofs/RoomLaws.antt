-- What a call leaves in parts of a page and of a buffer, said of the whole ones.
use mathlib.Core.Path.{◌≡◌, ap, ◌∙◌}
use mathlib.Core.List.{List, ◌++◌}
use Prim.Native.Nat.{ℕ, min}
use lib.ListN.{length, take, drop}
use Rattle.server_writes.specs.Offer.{HeldValues}
use Rattle.server_replies.specs.Server.{ServerReaction}
use Rattle.script_lines.proofs.Fills.{take-clip, drop-clip}
use Rattle.script_server.specs.declared.ServerMemory.{ServerMemory}
use Rattle.script_server.specs.declared.ServerAnswered.{ServerAnswered}
use Rattle.script_server.specs.Replies.{Replies, RepliesIn, Changes, ChangesIn}

-- the reaction by the page of edits that is lent, and the buffer's length
pub in-room : (f : List ℕ → ℕ → ServerReaction) (m : ServerMemory) (size room : ℕ) {k n : ℕ} (edits : List ℕ) {new_edits : List ℕ} (old : List ℕ) {part : List ℕ} {r : ServerAnswered} → k ≡ min size (length edits) → n ≡ min room (length old) → Replies (f (take k edits) (length (take n old))) m new_edits (take n old) part r → RepliesIn size room (f (take size edits) (length (take room old))) m edits (new_edits ++ drop k edits) old (part ++ drop n old) r
in-room f m size room edits {new_edits} old {part} d e h =
    let g = rw (take-clip size edits d, take-clip room old e) at h in
    record {
      number = g.number;
      len = g.len;
      held = ap (λ (x : HeldValues). x.values) g.held;
      words = g.words;
      bytes = g.bytes;
      texts = ap (λ (l : List ℕ). new_edits ++ l) (drop-clip size edits d) ∙ ap (λ (x : HeldValues). x.edits ++ drop size edits) g.held;
      buffer = ap (λ (l : List ℕ). part ++ l) (drop-clip room old e) ∙ ap (λ (l : List ℕ). l ++ drop room old) g.buffer;
    }

pub in-page : (f : List ℕ → ServerReaction) (m : ServerMemory) (size : ℕ) {k : ℕ} (edits : List ℕ) {new_edits : List ℕ} {r : ServerAnswered} → k ≡ min size (length edits) → Changes (f (take k edits)) m new_edits r → ChangesIn size (f (take size edits)) m edits (new_edits ++ drop k edits) r
in-page f m size edits {new_edits} {r} d h =
    let g = rw (take-clip size edits d) at h in
    record {
      answer = rw (g.alters.code, g.silent);
      held = ap (λ (x : HeldValues). x.values) g.alters.held;
      texts = ap (λ (l : List ℕ). new_edits ++ l) (drop-clip size edits d) ∙ ap (λ (x : HeldValues). x.edits ++ drop size edits) g.alters.held;
      row = g.row;
      kept = g.kept;
    }
