-- A FRESH SERVER is valid: it keeps every rule of refusal 2, whatever its page of edits has.
use mathlib.Core.Path.{◌≡◌, refl, ap}
use mathlib.Core.Bool.{Bool, true}
use mathlib.Core.List.{List}
use Prim.Native.Nat.{ℕ, ◌*◌}
use native.Mathlib.Omega.{arith}
use lib.ListN.{length}
use Rattle.tlv_reader.specs.Octet.{pick}
use Rattle.node_schema.specs.Layout.{text_size}
use Rattle.node_schema.specs.Check.{count_of_texts}
use Rattle.node_plan.specs.Check.{accepted, done, schema_refused, checked}
use Rattle.node_plan.specs.Rules.{SchemaRules}
use Rattle.node_plan.proofs.RulesLaws.{check_done}
use Rattle.server_values.specs.Fresh.{fresh_values}
use Rattle.server_values.proofs.FreshLaws.{fresh-right, fresh-whole}
use Rattle.server_replies.specs.Server.{Server}
use Rattle.server_replies.specs.Row.{row_right, served_right, standing_in}
use Rattle.server_replies.proofs.RowLaws.{right-row, kept-none}
use Rattle.server.specs.Start.{fresh_row, started}
use Rattle.server.proofs.ServerLaws.{RightServer, right-server}
use Rattle.server.specs.Valid.{ValidServer}

pub fresh-row-right : row_right fresh_row ≡ true
unfolding fresh_row standing_in served_right
fresh-row-right =
    right-row fresh_row
    (record { exchange = omega arith; turn = omega arith; next = omega arith; closed = omega arith; asked = omega arith; phase = refl; path = omega arith; index = omega arith; sent = refl; kept = kept-none; served = refl })

module _ (w defaults : List ℕ) (h : accepted w defaults ≡ true) where
  -- a server with this page of edits
  abbrev fresh : List ℕ → Server
  fresh edits = record { schema = w; defaults = defaults; state = (started w defaults edits).state }

  abbrev made : List ℕ → Server
  made edits = record { schema = w; defaults = defaults; state = record { values = fresh_values w; edits = edits; row = fresh_row } }

  fresh-made : (edits : List ℕ) → fresh edits ≡ made edits
  unfolding started
  fresh-made edits = rw h

  fresh-rules : SchemaRules w defaults
  unfolding checked
  fresh-rules = (check_done w defaults).0 (ap (λ (b : Bool). pick b done schema_refused) h)

  pub fresh-valid : (edits : List ℕ) → length edits ≡ text_size * count_of_texts w → ValidServer (record { schema = w; defaults = defaults; state = (started w defaults edits).state })
  fresh-valid edits size =
      let r : RightServer (made edits) = record {
        plan = h;
        values = fresh-right w defaults fresh-rules edits size;
        row = fresh-row-right;
      } in
      rw (fresh-made edits) (record { whole = fresh-whole w; right = right-server (made edits) r })
