-- EVERY CALL OF THE SERVER TAKES A STEP OF THE PROTOCOL, or leaves everything as it was.
use mathlib.Core.Path.{◌≡◌}
use mathlib.Core.Logic.{◌⊎◌}
use mathlib.Core.Bool.{true}
use mathlib.Core.List.{List, ◌∷◌, Memᴰ}
use Prim.Native.Nat.{ℕ, ◌*◌, ◌^◌, ◌≤◌, ◌<◌}
use lib.ListN.{length, get_or}
use Rattle.tlv_reader.specs.declared.Value.{Value}
use Rattle.tlv_reader.specs.Value.{Datum}
use Rattle.node_kinds.specs.Stored.{Sized}
use Rattle.node_schema.specs.Layout.{subject_word, text_size}
use Rattle.node_schema.specs.Check.{count_of_texts}
use Rattle.node_plan.specs.Check.{accepted}
use Rattle.node_access.specs.declared.Grants.{Grants}
use Rattle.im_exchange.specs.Rules.{max_turn}
use Rattle.server_replies.specs.Messages.{max_message}
use Rattle.server_replies.specs.Server.{Server, Caller}
use Rattle.server.specs.Receive.{received}
use Rattle.server.specs.Start.{started, altered_by}
use Rattle.server.specs.Valid.{Untouched}
use Rattle.proof_protocol.specs.Model as Model
use Rattle.proof_protocol.specs.Model.{Message, Node, System, Store, store_all, serve}
use Rattle.proof_refinement.specs.Terms.{node_of}
use Rattle.proof_refinement.specs.Bytes.{MessageAs}
use Rattle.proof_refinement.specs.Server.{ServerAs, Serves}
use Rattle.proof_server_steps.proofs.Standing.{Standing}
use Rattle.proof_server_steps.proofs.SentLaws.{server-still}
use Rattle.proof_server_steps.proofs.SilenceLaws.{other-still, small-still}
use Rattle.proof_server_steps.proofs.FreshLaws.{fresh-server}
use Rattle.proof_server_steps.proofs.ChangeLaws.{changed-as}
use Rattle.proof_server_steps.proofs.ServeLaws.{cache_of}
use Rattle.proof_server_steps.proofs.MessageLaws.{message-as}

-- start: the page of edits at the beginning
pub fresh-as : (w defaults start : List ℕ) (g : Grants) → accepted w defaults ≡ true → length start ≡ text_size * count_of_texts w → (sent : List (List ℕ)) →
    let begun = Model.start (node_of w defaults start g) in
    ServerAs (record { schema = w; defaults = defaults; state = (started w defaults start).state }) g sent begun.clusters begun.row
fresh-as w defaults start g h size sent = fresh-server w defaults h start size g sent

module _ (n : Server) (start : List ℕ) (g : Grants) (words-fit : (k : ℕ) → get_or n.schema k 0 < 2 ^ 64) (sys : System Datum) (sent : List (List ℕ)) (stands : ServerAs n g sent sys.clusters sys.row) where
  abbrev node : Node Datum
  node = node_of n.schema n.defaults start g

  abbrev here : Standing g sent
  here = record { server = n; system = sys; stands = stands }

  -- A MESSAGE that the cache has sent
  pub message-served : (sys.row.more ≡ true → sys.row.turn < max_turn) → (m : List ℕ) (u : Message) → MessageAs n.schema m u → Memᴰ m sent → (room : ℕ) → max_message ≤ room
      → (size : ℕ) × (stores : List (Store Datum)) × Serves n g sent (received n (cache_of n g) m room) sys (serve node sys u size stores)
  message-served turns m u h there room enough = message-as here words-fit start room enough turns m u h there

  -- A LOCAL CHANGE
  pub change-served : (e c a : ℕ) (src : List ℕ) (new : Value) → Sized new
      → (t : System Datum) × ((stores : List (Store Datum)) × (t ≡ store_all sys stores)) × Serves n g sent (altered_by n e c a src new) sys t
  change-served = changed-as here

  -- another subject: silence, or a refusal
  pub other-silent : (c : Caller) (m : List ℕ) (room : ℕ) → (c.subject ≡ get_or n.schema subject_word 0 → ⊥) → Untouched n.state (received n c m room)
  other-silent = other-still n

  pub too_small : (c : Caller) (m : List ℕ) (room : ℕ) → room < max_message → Untouched n.state (received n c m room)
  too_small = small-still n

  -- what was sent grows
  pub more-sent : (m : List ℕ) → ServerAs n g (m ∷ sent) sys.clusters sys.row
  more-sent m = server-still sent m n g sys.clusters sys.row stands
