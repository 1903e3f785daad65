-- The block of an attribute's value, as the code puts it together.
use mathlib.Core.Path.{◌≡◌, ap, ◌∙◌}
use mathlib.Core.Bool.{Bool, true, false}
use mathlib.Core.List.{List}
use Prim.Native.Nat.{ℕ, ◌^◌, ◌<◌}
use native.Mathlib.Omega.{arith}
use lib.ListN.{length, get_or}
use Rattle.base_bounds.specs.Bounds.{cluster_limit}
use Rattle.tlv_reader.specs.declared.Value.{Value}
use Rattle.tlv_reader.specs.Value.{datum_in}
use Rattle.tlv_writer.specs.Element.{InPage}
use Rattle.im_writer.specs.Block.{Block}
use Rattle.node_schema.specs.Rows.{cluster_row, attribute_row, count_of_attributes}
use Rattle.node_schema.specs.Rules.{path, path_at}
use Rattle.node_schema.specs.Check.{well_formed}
use Rattle.node_schema.proofs.IndexLaws.{to-index}
use Rattle.node_plan.specs.Attributes.{kind_of}
use Rattle.server_values.specs.declared.Values.{Values}
use Rattle.server_values.specs.Values.{mark_at, text_at, value_at, held_datum, datum_at, version_at}
use Rattle.server_values.proofs.ValueLaws.{value-shown, value-in-page}
use Rattle.server_selection.proofs.AskedLaws.{cluster-of, path-of}
use Rattle.server_report.specs.Blocks.{value_block}

-- a value lies in the text that is shown of it
pub value-inside : (w : List ℕ) (i word : ℕ) (is_null : Bool) (shown : List ℕ) {x : Value} → x ≡ value_at w i word is_null (length shown) → InPage shown x
value-inside w i word is_null shown e = rw e (value-in-page w i word is_null shown)

module _ (w : List ℕ) (right : well_formed w ≡ true) (i : ℕ) (l : i < count_of_attributes w) where
  -- its cluster is one of the schema's
  pub cluster-within : {k : ℕ} → k ≡ (attribute_row w i).index_of_cluster → k < cluster_limit
  cluster-within q = omega (arith, q, cluster-of w right i l)

  -- an endpoint has 16 bits
  pub endpoint-fits : {k e : ℕ} → k ≡ (attribute_row w i).index_of_cluster → e ≡ (cluster_row w k).endpoint → e < 2 ^ 16
  endpoint-fits {k} q r = omega (arith, r, (to-index w right).path_below k (omega (arith, q, cluster-of w right i l)))

  module _ (v : Values) (defaults edits : List ℕ) where
    pub value-block : {k version e c a : ℕ} {shown : List ℕ} {x : Value} →
        k ≡ (attribute_row w i).index_of_cluster → version ≡ get_or v.versions k 0 → e ≡ (cluster_row w k).endpoint → c ≡ (cluster_row w k).cluster → a ≡ (attribute_row w i).id →
        shown ≡ text_at w defaults edits i (mark_at w v.texts i) → x ≡ value_at w i (get_or v.words i 0) (get_or v.nulls i false) (length shown) →
        Block.value version e c a (datum_in shown x) ≡ value_block w v defaults edits i
    unfolding value_block datum_at
    value-block {k} {version} {e} {c} {a} {shown} {x} q n r s t u y =
        let p : path e c a ≡ path_at w i = path-of w right i l q r s t in
        let m : version ≡ version_at w v i = n ∙ ap (λ (j : ℕ). get_or v.versions j 0) q in
        let d : datum_in shown x ≡ datum_at w defaults edits v i = ap (datum_in shown) y ∙ value-shown w i (get_or v.words i 0) (get_or v.nulls i false) shown ∙ ap (held_datum (kind_of (attribute_row w i)) (get_or v.words i 0) (get_or v.nulls i false)) u in
        λ j. Block.value (m j) (p j).endpoint (p j).cluster (p j).attribute (d j)
