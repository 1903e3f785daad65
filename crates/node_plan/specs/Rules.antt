-- The rules of a plan (RULES 2), over the schema as a list of typed attributes and the page of defaults.
use Rattle.std.specs.Prelude.{◌≡◌, true, false, List, ℕ, ◌+◌, ◌^◌, ◌≤◌, ◌<◌, length, take, drop}
use Rattle.base_bounds.specs.Bounds.{text_bytes_limit}
use Rattle.base_utf8.specs.WellFormed.{well_formed}
use Rattle.node_kinds.specs.Float.{range_ok}
use Rattle.node_kinds.specs.Stored.{held}
use Rattle.node_schema.specs.Rows.{AttributeRow, attributes, factory_start, factory_length}
use Rattle.node_schema.specs.Check.{count_of_texts}
use Rattle.node_schema.specs.Rules.{Each, Rules}
use Rattle.node_plan.specs.declared.Attribute.{Attribute}
use Rattle.node_plan.specs.Attributes.{float_code, attributes_of}

-- RULES 2.22: the limits allow the first value; of a text here its length, at most 200
abbrev pub FirstAllowed : Attribute → Type 0
FirstAllowed x = held x.kind x.nullable x.first false ≡ true

-- RULES 2.8: a float's three values, each of 32 bits. It is over the words: a typed attribute's floats are numbers, whatever the bits were
pub record FloatRules (a : AttributeRow) : Type 0 where
  pub low : a.low < 2 ^ 32
  pub high : a.high < 2 ^ 32
  pub first : a.first < 2 ^ 32
  pub range : range_ok a.low a.high a.first ≡ true

-- RULES 2.23: a factory text lies in the factory page, and keeps the limits of a text (RULES 2.6)
pub record FactoryRules (page : List ℕ) (start len : ℕ) : Type 0 where
  pub inside : start + len ≤ length page
  pub size : len ≤ text_bytes_limit
  pub valid : well_formed (take len (drop start page)) ≡ true

pub record SchemaRules (w page : List ℕ) : Type 0 where
  -- counts, order, widths, kinds and privileges
  pub structure : Rules w
  pub firsts : Each FirstAllowed (attributes_of w)
  pub floats : Each (λ a. a.kind ≡ float_code → FloatRules a) (attributes w)
  -- of each rank, and so of each text (proofs/RulesLaws: factory-rules)
  pub texts : (r : ℕ) → r < count_of_texts w → FactoryRules page (factory_start w r) (factory_length w r)
