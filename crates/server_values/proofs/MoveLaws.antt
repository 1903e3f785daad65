-- What storing a value moves: the value, the text and the version of its cluster where it is a change, and nothing where it is none (`nothing-moves`).
use mathlib.Core.Path.{◌≡◌, sym, ◌∙◌}
use mathlib.Core.List.{List}
use mathlib.Core.Bool.{true, false, true≢false}
use mathlib.Core.Logic.{◌↔◌}
use Prim.Native.Nat.{ℕ, ◌^◌, ◌<◌}
use native.Mathlib.Omega.{arith}
use lib.Dec.{eqb}
use lib.ListN.{get_or}
use lib.Seq.{get_or-set_same, get_or-set_other}
use Rattle.tlv_reader.specs.Value.{Datum}
use Rattle.node_kinds.specs.Stored.{next_version}
use Rattle.node_schema.specs.Rows.{attribute_row, count_of_attributes}
use Rattle.node_schema.proofs.BoolLaws.{by-test}
use Rattle.node_plan.specs.Attributes.{kind_of}
use Rattle.server_values.specs.declared.Values.{Values}
use Rattle.server_values.specs.Values.{shown_of, datum_at, version_at}
use Rattle.server_values.specs.Change.{changes, set_at, edits_set, stored_values, stored_edits}
use Rattle.server_values.proofs.ExactLaws.{means, same-held, exactly}
use Rattle.server_values.proofs.ValidLaws.{right-at, limits-at}
use Rattle.server_values.specs.Storing.{Storing}
use Rattle.server_values.proofs.StoreLaws.{cluster-room, word_set, null-set, shown-set, datum-stays}

module _ (w defaults edits : List ℕ) (v : Values) (i : ℕ) (d : Datum) where
  -- other clusters keep their versions
  pub version-stays : (k : ℕ) → (k ≡ (attribute_row w i).index_of_cluster → ⊥) → get_or (stored_values w defaults edits v i d).versions k 0 ≡ get_or v.versions k 0
  unfolding stored_values set_at
  version-stays k n =
      by-test (changes w defaults edits v i d) (λ c. rw c (get_or-set_other v.versions (attribute_row w i).index_of_cluster k _ 0 n)) (λ c. rw c)

  module _ (s : Storing w defaults edits v i d) where
    -- a change adds one to the version of the attribute's cluster
    pub version-raised : changes w defaults edits v i d ≡ true → version_at w (stored_values w defaults edits v i d) i ≡ next_version (version_at w v i)
    unfolding stored_values set_at
    version-raised c =
        rw c (get_or-set_same v.versions (attribute_row w i).index_of_cluster _ 0 (omega (arith, s.whole.versions, cluster-room w defaults edits v i d s)))

    -- a change is exactly a difference of values
    pub change-exactly : get_or v.words i 0 < 2 ^ 64 → (changes w defaults edits v i d ≡ false) ↔ (datum_at w defaults edits v i ≡ d)
    unfolding changes datum_at
    change-exactly f =
        exactly (kind_of (attribute_row w i)) (eqb (attribute_row w i).nullable 1) (get_or v.words i 0) (shown_of w defaults edits v i) (get_or v.nulls i false) d f
        (limits-at w defaults edits v i (right-at w defaults edits v s.right i s.there)) s.accepted

    pub change-differs : get_or v.words i 0 < 2 ^ 64 → (changes w defaults edits v i d ≡ true) ↔ (datum_at w defaults edits v i ≡ d → ⊥)
    change-differs f =
        let x = change-exactly f in
        (λ c e. true≢false (sym c ∙ x.1 e), λ n. by-test (changes w defaults edits v i d) (λ c. c) (λ c. absurd (n (x.0 c))))

    -- in either case the attribute holds the value then
    datum-set : datum_at w defaults (edits_set w edits i d) (set_at w v i d) i ≡ d
    unfolding datum_at
    datum-set =
        let e = shown-set w defaults edits v i d s in
        rw (word_set w defaults edits v i d s, null-set w defaults edits v i d s)
        (means (kind_of (attribute_row w i)) (eqb (attribute_row w i).nullable 1) d s.accepted _ e)

    datum-same : changes w defaults edits v i d ≡ false → datum_at w defaults edits v i ≡ d
    unfolding changes datum_at
    datum-same =
        same-held (kind_of (attribute_row w i)) (eqb (attribute_row w i).nullable 1) (get_or v.words i 0) (shown_of w defaults edits v i)
        (get_or v.nulls i false) d s.accepted

    pub stored-datum : datum_at w defaults (stored_edits w defaults edits v i d) (stored_values w defaults edits v i d) i ≡ d
    unfolding stored_edits stored_values
    stored-datum = by-test (changes w defaults edits v i d) (λ c. rw c datum-set) (λ c. rw c (datum-same c))

    -- and every other attribute what it held
    pub other-datum : (j : ℕ) → (j ≡ i → ⊥) → j < count_of_attributes w → datum_at w defaults (stored_edits w defaults edits v i d) (stored_values w defaults edits v i d) j ≡ datum_at w defaults edits v j
    unfolding stored_edits stored_values
    other-datum j n l = by-test (changes w defaults edits v i d) (λ c. rw c (datum-stays w defaults edits v i d s j n l)) (λ c. rw c)
