-- ONLY ONE OUTCOME FITS a call of the server: with the same arguments and the same memory before, the answer and all that was lent are the same afterwards.
use mathlib.Core.Path.{◌≡◌, sym, ◌∙◌}
use mathlib.Core.List.{List, []}
use Prim.Native.Nat.{ℕ}
use Rattle.tlv_reader.specs.declared.Value.{Value}
use Rattle.server_replies.specs.Server.{Caller}
use Rattle.server.specs.declared.Outcome.{Outcome}
use Rattle.proof_one_outcome.specs.ServerCalls.{StartMemory, StartMeets, ChangeMemory, ChangeMeets, ReceiveMemory, ReceiveMeets}

-- A FRESH SERVER
pub one-start : (w defaults : List ℕ) (before : StartMemory) (r s : ℕ) (a b : StartMemory) → StartMeets w defaults before r a → StartMeets w defaults before s b → (r ≡ s) × (a ≡ b)
one-start w defaults m r s a b h k =
    let held = (h []).held ∙ sym (k []).held in (
      (h []).code ∙ sym (k []).code,
      λ i. record {
        words = (held i).words;
        nulls = (held i).nulls;
        texts = (held i).texts;
        versions = (held i).versions;
        row = ((h []).words ∙ sym (k []).words) i;
        kept = ((h []).bytes ∙ sym (k []).bytes) i;
      },
    )

-- A CHANGE made at the server itself
pub one-change : (w defaults row : List ℕ) (endpoint cluster attribute : ℕ) (new : Value) (src : List ℕ) (before : ChangeMemory) (r s : ℕ) (a b : ChangeMemory) → ChangeMeets w defaults row endpoint cluster attribute new src before r a → ChangeMeets w defaults row endpoint cluster attribute new src before s b → (r ≡ s) × (a ≡ b)
one-change w defaults row endpoint cluster attribute new src m r s a b h k =
    let held = (h []).held ∙ sym (k []).held in (
      (h []).code ∙ sym (k []).code,
      λ i. record {
        edits = (held i).edits;
        words = (held i).values.words;
        nulls = (held i).values.nulls;
        texts = (held i).values.texts;
        versions = (held i).values.versions;
      },
    )

-- A MESSAGE
pub one-reaction : (w defaults : List ℕ) (caller : Caller) (message : List ℕ) (before : ReceiveMemory) (r s : Outcome) (a b : ReceiveMemory) → ReceiveMeets w defaults caller message before r a → ReceiveMeets w defaults caller message before s b → (r ≡ s) × (a ≡ b)
one-reaction w defaults caller message m r s a b h k =
    let held = h.held ∙ sym k.held in (
      λ i. record { number = (h.number ∙ sym k.number) i; len = (h.len ∙ sym k.len) i },
      λ i. record {
        edits = (held i).edits;
        words = (held i).values.words;
        nulls = (held i).values.nulls;
        texts = (held i).values.texts;
        versions = (held i).values.versions;
        row = (h.words ∙ sym k.words) i;
        kept = (h.bytes ∙ sym k.bytes) i;
        out = (h.buffer ∙ sym k.buffer) i;
      },
    )
