-- WHAT A MESSAGE GETS, as a step of the protocol: silence, the kept reply again, or a part of a report.
use mathlib.Core.Path.{◌≡◌, refl, sym, subst}
use mathlib.Core.Bool.{Bool, true, false, cond}
use mathlib.Core.List.{List, [], ◌∷◌}
use Prim.Native.Nat.{ℕ, ◌+◌, ◌<◌}
use lib.ListN.{get_or}
use Rattle.tlv_reader.specs.Octet.{pick}
use Rattle.tlv_reader.specs.Value.{Datum}
use Rattle.im_envelope.specs.declared.Fields.{Fields}
use Rattle.node_schema.specs.Layout.{subject_word}
use Rattle.node_schema.specs.Rows.{count_of_clusters}
use Rattle.node_access.specs.declared.Grants.{Grants}
use Rattle.im_exchange.specs.declared.Step.TheVariants.{Silence, Repeat}
use Rattle.server_replies.specs.declared.ExchangeRow.{ExchangeRow}
use Rattle.server_replies.specs.Server.{Server, Caller, ServerReaction, with_row, with_state}
use Rattle.server.specs.Receive.{silence, replied, reacted, received}
use Rattle.server.specs.Valid.{ValidServer}
use Rattle.server.proofs.KeptLaws.{received-kept}
use Rattle.proof_protocol.specs.Model.{Message, Node, Part, Store, System, row_after, send, send_again, serve}
use Rattle.proof_protocol.specs.Claims.{moved}
use Rattle.proof_refinement.specs.Bytes.{silent}
use Rattle.proof_refinement.specs.Server.{RowAs, Serves}
use Rattle.im_exchange.specs.declared.Action.{Action}
use Rattle.proof_server_steps.proofs.Standing.{Standing}
use Rattle.proof_server_steps.proofs.StoreLaws.{unmoved}

-- the subject that a server serves, with an access table that keeps the rules
abbrev pub cache_of : Server → Grants → Caller
cache_of n g = record { subject = get_or n.schema subject_word 0; grants = g; table = true }

module _ {g : Grants} {sent : List (List ℕ)} (here : Standing g sent) where
  open here use {server as n, system as sys, stands}

  -- the protocol goes to t where the server reacts so
  abbrev pub Serving : System Datum → ServerReaction → Type 0
  Serving t r = Serves n g sent r sys t

  -- a step of the protocol with this message
  abbrev pub Served : Node Datum → Message → ServerReaction → Type 0
  Served node u r = (size : ℕ) × (stores : List (Store Datum)) × Serving (serve node sys u size stores) r

  abbrev pub Valid : ServerReaction → Type 0
  Valid r = ValidServer (with_state n r.state)

  -- no cluster has changed
  uncounted : (k : ℕ) → k < count_of_clusters n.schema → (sys.clusters k).changes ≡ (sys.clusters k).changes + moved (get_or n.state.values.versions k 0) (get_or n.state.values.versions k 0)
  uncounted = (unmoved n.schema n.defaults n.state.edits n.state.values sys stands.versions-fit stands.held).counted

  silent-as : Serving sys (silence n.state)
  silent-as =
      record { server = stands; made = []; reply-is = silent refl refl; parts = refl; cache = refl; messages = refl; counted = uncounted }

  again-as : Serving (send_again sys) (replied n.state)
  unfolding send_again
  again-as =
      record { server = stands; made = sys.row.kept; reply-is = stands.row.kept; parts = refl; cache = refl; messages = refl; counted = uncounted }

  -- A PART, kept in the row
  pub part-as : (x : ExchangeRow) (p : Part Datum) → ValidServer (with_state n (with_row n.state x)) → RowAs n.schema g sent x (row_after p) → Serving (send sys p) (replied (with_row n.state x))
  unfolding send
  part-as x p valid row =
      record {
        server = record { valid = valid; versions-fit = stands.versions-fit; held = stands.held; row = row };
        made = p ∷ [];
        reply-is = row.kept;
        parts = refl;
        cache = refl;
        messages = refl;
        counted = uncounted;
      }

  module _ (e : Fields) (payload : List ℕ) (action : Action) where
    pub silence-as : Serving sys (reacted n g e payload action Silence)
    unfolding reacted
    silence-as = silent-as

    -- the kept reply where the test holds
    pub repeat-as : (b : Bool) → Serving (cond b (send_again sys) sys) (reacted n g e payload action (pick b Repeat Silence))
    unfolding reacted
    repeat-as true = again-as
    repeat-as false = silent-as

  -- the server stays valid, so what it reacts with may be taken to be
  module _ (m : List ℕ) (room : ℕ) where
    abbrev pub reaction : ServerReaction
    reaction = received n (cache_of n g) m room

    pub reacted-as : (P : ServerReaction → Type 0) {r : ServerReaction} → reaction ≡ r → (Valid r → P r) → P reaction
    reacted-as P e f =
        subst P (sym e) (f (subst Valid e (received-kept n stands.valid (cache_of n g) m room)))
