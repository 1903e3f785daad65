-- The check answers 0 exactly if the rules hold, else 11; and what an accepted schema gives.
use mathlib.Core.Path.{◌≡◌, refl, ap}
use mathlib.Core.Bool.{Bool, true, false}
use mathlib.Core.List.{List}
use mathlib.Core.Logic.{◌↔◌}
use Prim.Native.Nat.{ℕ, ◌<◌}
use native.Mathlib.Omega.{arith}
use Rattle.tlv_reader.specs.Octet.{pick}
use Rattle.node_kinds.specs.declared.Kind.TheVariants.{Text}
use Rattle.node_schema.specs.Rows.{attribute_row, count_of_attributes, factory_start, factory_length}
use Rattle.node_schema.specs.Check as Schema
use Rattle.node_schema.specs.Rules.{Rules}
use Rattle.node_schema.proofs.BoolLaws.{both, left, right, by-test}
use Rattle.node_schema.proofs.CheckLaws.{every-at, every-all}
use Rattle.node_schema.proofs.RowLaws.{each_of, each_all}
use Rattle.node_schema.proofs.RulesLaws.{well-formed-rules}
use Rattle.node_schema.proofs.TextLaws.{text-inside}
use Rattle.node_plan.specs.Attributes.{float_code, typed, attribute_of}
use Rattle.node_plan.specs.Check.{number_right, factory_right, numbers_right, texts_right, accepted, done, schema_refused, checked}
use Rattle.node_plan.specs.Rules.{FirstAllowed, FloatRules, FactoryRules, SchemaRules}
use Rattle.node_plan.proofs.FirstLaws.{text-code, to-float-rules, to-allowed, from-allowed, to-factory, from-factory}

module _ (w page : List ℕ) where
  -- the rules of attribute i
  module _ (rules : SchemaRules w page) (i : ℕ) (below : i < count_of_attributes w) where
    -- its first value is one that its limits allow: a server that starts with it is valid
    pub first-held : FirstAllowed (attribute_of w i)
    first-held = each_of (attribute_of w) FirstAllowed (count_of_attributes w) 0 rules.firsts i (omega arith) (omega arith)

    pub float-rules : (attribute_row w i).kind ≡ float_code → FloatRules (attribute_row w i)
    float-rules =
        each_of (attribute_row w) (λ a. a.kind ≡ float_code → FloatRules a) (count_of_attributes w) 0 rules.floats i (omega arith) (omega arith)

    -- of a text, by its rank
    pub factory-rules : (attribute_of w i).kind ≡ Text → FactoryRules page (attribute_of w i).text (attribute_of w i).len
    unfolding typed
    factory-rules k =
        let e = text-code (attribute_row w i) k in
        rw e (rules.texts (attribute_row w i).first (text-inside w rules.structure i below (rw e)))

  to-schema-rules : accepted w page ≡ true → SchemaRules w page
  unfolding accepted numbers_right texts_right
  to-schema-rules h =
      let h₁ = right (Schema.well_formed w) _ h in
      let m = count_of_attributes w in
      let structure : Rules w = (well-formed-rules w).0 (left _ _ h) in
      let number = every-at (λ i. number_right (attribute_row w i)) m (left _ _ h₁) in
      let text = every-at (λ r. factory_right page (factory_start w r) (factory_length w r)) (Schema.count_of_texts w) (right (numbers_right w) _ h₁) in
      let factory : (r : ℕ) → r < Schema.count_of_texts w → FactoryRules page (factory_start w r) (factory_length w r) = λ r l. to-factory page _ _ (text r l) in
      record {
        structure = structure;
        firsts = each_all (attribute_of w) FirstAllowed m 0
            (λ i l u. to-allowed (attribute_row w i) w (number i (omega arith)) (λ e. (factory (attribute_row w i).first (text-inside w structure i (omega arith) (rw e))).size));
        floats = each_all (attribute_row w) (λ a. a.kind ≡ float_code → FloatRules a) m 0 (λ i l u. to-float-rules (attribute_row w i) (number i (omega arith)));
        texts = factory;
      }

  from-schema-rules : SchemaRules w page → accepted w page ≡ true
  unfolding accepted numbers_right texts_right
  from-schema-rules r =
      let m = count_of_attributes w in
      both _ _ ((well-formed-rules w).1 r.structure)
      (both _ _
      (every-all (λ i. number_right (attribute_row w i)) m (λ i l. from-allowed (attribute_row w i) w (first-held r i l) (float-rules r i l)))
      (every-all (λ k. factory_right page (factory_start w k) (factory_length w k)) (Schema.count_of_texts w) (λ k l. from-factory page _ _ (r.texts k l))))

  answer-done : (b : Bool) → pick b done schema_refused ≡ done → b ≡ true
  answer-done true h = refl
  answer-done false h = absurd (omega arith)

  -- the theorem: the check answers 0 exactly if the rules hold
  pub check_done : (checked w page ≡ done) ↔ SchemaRules w page
  unfolding checked
  check_done =
      (λ h. to-schema-rules (answer-done (accepted w page) h), λ r. ap (λ (b : Bool). pick b done schema_refused) (from-schema-rules r))

  -- and 11 exactly if some rule is broken
  pub check-refused : (checked w page ≡ schema_refused) ↔ (SchemaRules w page → ⊥)
  unfolding checked
  check-refused = (
    λ h r. let z : pick (accepted w page) done schema_refused ≡ done = ap (λ (b : Bool). pick b done schema_refused) (from-schema-rules r) in omega arith,
    λ n. by-test (accepted w page) (λ t. absurd (n (to-schema-rules t))) (λ t. rw t),
  )
