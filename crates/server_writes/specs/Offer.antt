-- A value offered to an attribute (RULES 5.14), and a local change (RULES 6.9).
use Rattle.std.specs.Prelude.{Bool, List, ℕ, eqb}
use Rattle.tlv_reader.specs.declared.Value.{Value}
use Rattle.tlv_reader.specs.Value.{datum_in}
use Rattle.node_kinds.specs.declared.Verdict.{Verdict}
use Rattle.node_kinds.specs.declared.Verdict.TheVariants.{Success, ConstraintError, InvalidDataType}
use Rattle.node_kinds.specs.Limits.{status_code, judged_in}
use Rattle.node_schema.specs.Rows.{attribute_row}
use Rattle.node_plan.specs.Attributes.{kind_of}
use Rattle.server_values.specs.declared.Values.{Values}
use Rattle.server_values.specs.Values.{values_of}
use Rattle.server_values.specs.Change.{stored_values, stored_edits}
use Rattle.server_selection.specs.declared.locate.Located.{Located}
use Rattle.server_selection.specs.declared.locate.Located.TheVariants.{Here, Refused}
use Rattle.server_selection.specs.Locate.{located}

-- what storing moves: the values and the page of edits
pub record HeldValues : Type 0 where
  pub values : Values
  pub edits : List ℕ

-- the same, of arrays that are lent
abbrev pub held_of : List ℕ → List Bool → List ℕ → List ℕ → List ℕ → HeldValues
held_of words nulls texts versions edits = record { values = values_of words nulls texts versions; edits = edits }

-- the status that a value gets, and what is held afterwards
pub record StoreOutcome : Type 0 where
  pub code : ℕ
  pub held : HeldValues

abbrev pub refused : HeldValues → ℕ → StoreOutcome
refused h code = record { code = code; held = h }

-- 8D, 87 or 00 (RULES 5.14)
abbrev pub by_verdict : HeldValues → HeldValues → Verdict → StoreOutcome
by_verdict h next Success = record { code = status_code Success; held = next }
by_verdict h next ConstraintError = refused h (status_code ConstraintError)
by_verdict h next InvalidDataType = refused h (status_code InvalidDataType)

abbrev pub stored_in : List ℕ → List ℕ → HeldValues → ℕ → List ℕ → Value → HeldValues
stored_in w defaults h i src new =
    record {
      values = stored_values w defaults h.edits h.values i (datum_in src new);
      edits = stored_edits w defaults h.edits h.values i (datum_in src new);
    }

abbrev pub verdict_on : List ℕ → ℕ → List ℕ → Value → Verdict
verdict_on w i src new = judged_in src (kind_of (attribute_row w i)) (eqb (attribute_row w i).nullable 1) new

-- a value offered to attribute i
unfoldable pub offered : List ℕ → List ℕ → HeldValues → ℕ → List ℕ → Value → StoreOutcome
offered w defaults h i src new = by_verdict h (stored_in w defaults h i src new) (verdict_on w i src new)

abbrev pub by_place : List ℕ → List ℕ → HeldValues → List ℕ → Value → Located → StoreOutcome
by_place w defaults h src new (Here i) = offered w defaults h i src new
by_place w defaults h src new (Refused code) = refused h code

-- A LOCAL CHANGE (RULES 6.9)
unfoldable pub changed : List ℕ → List ℕ → HeldValues → ℕ → ℕ → ℕ → List ℕ → Value → StoreOutcome
changed w defaults h e c a src new = by_place w defaults h src new (located w e c a)
