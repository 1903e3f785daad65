-- What the laws of storing take for granted: arrays of their lengths, values that keep the rules, and a value that its attribute accepts.
use Rattle.std.specs.Prelude.{◌≡◌, Bool, true, List, ℕ, ◌≤◌, ◌<◌, eqb, length}
use Rattle.base_bounds.specs.Bounds.{attribute_limit, cluster_limit}
use Rattle.base_utf8.specs.WellFormed.{well_formed}
use Rattle.tlv_reader.specs.Value.{Datum}
use Rattle.node_kinds.specs.declared.Kind.{Kind}
use Rattle.node_kinds.specs.Limits.{is_null}
use Rattle.node_kinds.specs.Stored.{held}
use Rattle.node_schema.specs.Layout.{text_limit, text_size}
use Rattle.node_schema.specs.Rows.{attribute_row, count_of_attributes}
use Rattle.node_schema.specs.Rules.{Rules}
use Rattle.node_plan.specs.Attributes.{kind_of}
use Rattle.server_values.specs.declared.Values.{Values}
use Rattle.server_values.specs.Values.{held_datum}
use Rattle.server_values.specs.Change.{text_of, word_for}
use Rattle.server_values.specs.Valid.{values_right}

-- the arrays of what is held have their lengths, as those of the code do
pub record Whole (v : Values) : Type 0 where
  pub words : length v.words ≡ attribute_limit
  pub nulls : length v.nulls ≡ attribute_limit
  pub texts : length v.texts ≡ text_limit
  pub versions : length v.versions ≡ cluster_limit

-- a value that an attribute of this kind accepts
pub record Accepted (k : Kind) (nullable : Bool) (d : Datum) : Type 0 where
  -- the limits allow what it is stored as
  pub within : held k nullable (word_for d) (is_null d) ≡ true
  -- and that means this value
  pub back : held_datum k (word_for d) (is_null d) (text_of d) ≡ d
  pub size : length (text_of d) ≤ text_size
  pub valid : well_formed (text_of d) ≡ true

-- a value to be stored in attribute i, and what it is stored in
pub record Storing (w defaults edits : List ℕ) (v : Values) (i : ℕ) (d : Datum) : Type 0 where
  pub rules : Rules w
  pub whole : Whole v
  pub right : values_right w defaults edits v ≡ true
  pub there : i < count_of_attributes w
  pub accepted : Accepted (kind_of (attribute_row w i)) (eqb (attribute_row w i).nullable 1) d
