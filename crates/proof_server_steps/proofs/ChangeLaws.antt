-- A LOCAL CHANGE, or an entry of a write, is one change of the protocol or none.
use mathlib.Core.Path.{◌≡◌, refl, sym, subst}
use mathlib.Core.Logic.{inl, inr}
use mathlib.Core.List.{List, []}
use Prim.Native.Nat.{ℕ, ◌<◌}
use lib.Dec.{eqb}
use Rattle.tlv_reader.specs.declared.Value.{Value}
use Rattle.tlv_reader.specs.Value.{Datum, datum_in}
use Rattle.node_kinds.specs.declared.Verdict.TheVariants.{Success}
use Rattle.node_kinds.specs.Stored.{Sized}
use Rattle.node_schema.specs.Rows.{attribute_row, count_of_attributes}
use Rattle.node_schema.proofs.RulesLaws.{well-formed-rules}
use Rattle.node_access.specs.declared.Grants.{Grants}
use Rattle.node_plan.specs.Attributes.{kind_of}
use Rattle.server_values.proofs.AcceptedLaws.{accepted}
use Rattle.server_selection.specs.declared.locate.Located.{Located}
use Rattle.server_selection.specs.declared.locate.Located.TheVariants.{Here}
use Rattle.server_selection.specs.Locate.{located}
use Rattle.server_selection.proofs.LocateLaws.{located_here}
use Rattle.server_writes.specs.Offer.{HeldValues, verdict_on, stored_in, by_place, changed}
use Rattle.server_writes.proofs.HeldLaws.{placed-holds}
use Rattle.server_replies.specs.Server.{ServerReaction, held_by}
use Rattle.server.specs.Start.{altered, altered_by}
use Rattle.server.proofs.StartLaws.{altered-right}
use Rattle.server.proofs.KeptLaws.{change-kept}
use Rattle.proof_protocol.specs.Model.{System, store_all}
use Rattle.proof_refinement.specs.Bytes.{silent}
use Rattle.proof_refinement.specs.Server.{Serves}
use Rattle.server.proofs.ServerLaws.{schema-of}
use Rattle.proof_server_steps.proofs.Standing.{Standing, right_of}
use Rattle.proof_server_steps.proofs.StoreLaws.{Stored, Holds, unmoved, stored-as}

-- the protocol has moved nothing but the clusters
pub record Beside (s t : System Datum) : Type 0 where
  pub row : t.row ≡ s.row
  pub cache : t.cache ≡ s.cache
  pub messages : t.messages ≡ s.messages
  pub parts : t.parts ≡ s.parts

pub stored-beside : (s t : System Datum) → Stored s t → Beside s t
unfolding store_all
stored-beside s t (stores, e) = subst (Beside s) (sym e) (record { row = refl; cache = refl; messages = refl; parts = refl })

module _ {g : Grants} {sent : List (List ℕ)} (here : Standing g sent) where
  open here use {server as n, system as sys, stands}

  -- what is held afterwards is what the protocol has, after one change or none
  abbrev pub Reached : HeldValues → Type 0
  Reached k = (t : System Datum) × Holds n.schema n.defaults n.state.values sys t k.values k.edits

  -- a value for the attribute that was found, if it was
  pub placed-as : (src : List ℕ) (new : Value) → Sized new → (l : Located) → ((i : ℕ) → l ≡ Here i → i < count_of_attributes n.schema) → Reached (by_place n.schema n.defaults (held_by n.state) src new l).held
  placed-as src new sized l there =
      placed-holds Reached n.schema n.defaults (held_by n.state) src new (sys, unmoved n.schema n.defaults n.state.edits n.state.values sys stands.versions-fit stands.held) l put
    where
      put : (i : ℕ) → l ≡ Here i → verdict_on n.schema i src new ≡ Success → Reached (stored_in n.schema n.defaults (held_by n.state) i src new)
      put i e f =
          stored-as n.schema n.defaults n.state.edits n.state.values sys stands.versions-fit stands.held i (datum_in src new)
          (record {
            rules = (well-formed-rules n.schema).0 (schema-of here.server (right_of here));
            whole = stands.valid.whole;
            right = (right_of here).values;
            there = there i e;
            accepted = accepted src (eqb (attribute_row n.schema i).nullable 1) (kind_of (attribute_row n.schema i)) new sized f;
          })

  -- A LOCAL CHANGE
  module _ (e c a : ℕ) (src : List ℕ) (new : Value) (sized : Sized new) where
    abbrev Steps : ServerReaction → Type 0
    Steps x = (t : System Datum) × Stored sys t × Serves n g sent x sys t

    abbrev made : HeldValues
    made = (changed n.schema n.defaults (held_by n.state) e c a src new).held

    reached : Reached made
    unfolding changed
    reached = placed-as src new sized (located n.schema e c a) (λ i q. (located_here n.schema e c a i q).0)

    altered-as : altered_by n e c a src new ≡ altered n.state (changed n.schema n.defaults (held_by n.state) e c a src new)
    altered-as = altered-right n e c a src new stands.valid.right

    pub changed-as : Steps (altered_by n e c a src new)
    changed-as =
        let (t, h) = reached in
        let valid = change-kept n stands.valid e c a src new sized in
        let b = stored-beside sys t h.stored in (
          t,
          h.stored,
          rw altered-as (record {
            server = record { valid = rw altered-as at valid; versions-fit = h.versions-fit; held = h.held; row = rw b.row stands.row };
            made = [];
            reply-is = silent refl refl;
            parts = b.parts;
            cache = b.cache;
            messages = b.messages;
            counted = h.counted;
          }),
        )
