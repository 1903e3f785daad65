-- What a right server keeps to, rule by rule.
use mathlib.Core.Path.{◌≡◌, refl}
use mathlib.Core.Bool.{Bool, true, false, ◌&&◌}
use Rattle.node_schema.specs.Check as Schema
use Rattle.node_schema.proofs.BoolLaws.{both, left, right}
use Rattle.node_plan.specs.Check.{numbers_right, texts_right, accepted}
use Rattle.server_values.specs.Valid.{held_right, values_right}
use Rattle.server_replies.specs.Server.{Server}
use Rattle.server_replies.specs.Row.{row_right}
use Rattle.server.specs.State.{server_right}

-- the plan's tests and the others, those of the values taken together
grouped : (a b c d e f : Bool) → (((a && b) && (c && d)) && (e && f)) ≡ (a && ((b && (c && (d && e))) && f))
grouped false b c d e f = refl
grouped true false c d e f = refl
grouped true true false d e f = refl
grouped true true true false e f = refl
grouped true true true true e f = refl

pub record RightServer (s : Server) : Type 0 where
  pub plan : accepted s.schema s.defaults ≡ true
  pub values : values_right s.schema s.defaults s.state.edits s.state.values ≡ true
  pub row : row_right s.state.row ≡ true

module _ (s : Server) where
  pub server-right : server_right s ≡ true → RightServer s
  unfolding server_right
  server-right h =
      let t₀ = accepted s.schema s.defaults in
      let t₁ = values_right s.schema s.defaults s.state.edits s.state.values in
      let t₂ = row_right s.state.row in
      let h₁ = right t₀ (t₁ && t₂) h in
      record { plan = left t₀ (t₁ && t₂) h; values = left t₁ t₂ h₁; row = right t₁ t₂ h₁ }

  -- as the code tests it: ranks, first values, factory texts and values together
  pub as-tested : server_right s ≡ (Schema.columns_right s.schema && ((Schema.ranks_right s.schema && (numbers_right s.schema && (texts_right s.schema s.defaults && held_right s.schema s.defaults s.state.edits s.state.values.words s.state.values.nulls s.state.values.texts))) && row_right s.state.row))
  unfolding server_right accepted Schema.well_formed values_right
  as-tested =
      grouped (Schema.columns_right s.schema) (Schema.ranks_right s.schema) (numbers_right s.schema) (texts_right s.schema s.defaults) (held_right s.schema s.defaults s.state.edits s.state.values.words s.state.values.nulls s.state.values.texts) (row_right s.state.row)

  pub right-server : RightServer s → server_right s ≡ true
  unfolding server_right
  right-server r = both _ _ r.plan (both _ _ r.values r.row)

  -- the schema by itself
  module _ (r : RightServer s) where
    pub schema-of : Schema.well_formed s.schema ≡ true
    unfolding accepted
    schema-of = left (Schema.well_formed s.schema) _ r.plan
