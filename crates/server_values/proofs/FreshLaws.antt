-- A fresh server: its words and versions are filled in one by one, and it keeps the rules.
use mathlib.Core.Path.{◌≡◌, refl, sym, ap, ◌∙◌}
use mathlib.Core.List.{List}
use mathlib.Core.Bool.{true, false}
use Prim.Native.Nat.{ℕ, ◌+◌, ◌*◌, ◌-◌, ◌≤◌, ◌<◌}
use native.Mathlib.Omega.{arith}
use borrow.Author.Tests.{eq-eqb}
use lib.ListN.{length, get_or, set, take, drop, get_or-replicate, replicate, length-replicate, length-append}
use Rattle.base_bounds.specs.Bounds.{cluster_limit, attribute_limit}
use Rattle.node_schema.specs.Layout.{text_limit, text_size}
use Rattle.node_schema.specs.Rows.{cluster_row, attribute_row, count_of_clusters, count_of_attributes, is_text, factory_start, factory_length, rows_from, filled}
use Rattle.node_schema.specs.Check.{count_of_texts}
use Rattle.node_schema.proofs.BoolLaws.{by-test}
use Rattle.node_schema.proofs.RowLaws.{rows-length, fill_step, filled_at}
use Rattle.node_schema.proofs.TextLaws.{text-inside}
use Rattle.node_plan.specs.Attributes.{typed}
use Rattle.node_plan.specs.Rules.{FactoryRules, SchemaRules}
use Rattle.node_plan.proofs.RulesLaws.{first-held}
use Rattle.server_values.specs.Values.{mark_at}
use Rattle.server_values.specs.Fresh.{start_word, fresh_values}
use Rattle.server_values.specs.Valid.{text_right, values_right}
use Rattle.server_values.proofs.ValueLaws.{mark-there, part_length}
use Rattle.server_values.specs.Storing.{Whole}
use Rattle.server_values.proofs.ValidLaws.{within_limits, whole-text, rank-cut, text-there, number-right, text-within, text-right, right_at, right-all}

module _ (f : ℕ → ℕ) (n : ℕ) (l : List ℕ) (i : ℕ) (filling : l ≡ filled 0 f n i) where
  -- a turn of the loop
  pub filled_more : (x : ℕ) → x ≡ f i → i < n → set l i x ≡ filled 0 f n (i + 1)
  filled_more x e h = rw (filling, e) (fill_step 0 f n i h)

  -- and its end
  pub filled-whole : (m : ℕ) → i ≤ m → m ≤ i → (t : ℕ) → m ≡ t → l ≡ filled 0 f n t
  filled-whole m a b t e = let q : i ≡ t = omega arith in filling ∙ ap (filled 0 f n) q

module _ (w page : List ℕ) (rules : SchemaRules w page) (edits : List ℕ) where
  module _ (i : ℕ) (below : i < count_of_attributes w) where
    fresh-word : get_or (fresh_values w).words i 0 ≡ start_word (attribute_row w i)
    unfolding fresh_values
    fresh-word = filled_at 0 (λ k. start_word (attribute_row w k)) attribute_limit (count_of_attributes w) i 0 below

    fresh-null : get_or (fresh_values w).nulls i false ≡ false
    unfolding fresh_values
    fresh-null = get_or-replicate attribute_limit i false false (omega (arith, below))

    number-within : is_text (attribute_row w i) ≡ false → within_limits w i (attribute_row w i).first false ≡ true
    unfolding typed
    number-within t = let h = first-held w page rules i below in rw t at h

    module _ (t : is_text (attribute_row w i) ≡ true) where
      fresh-mark : mark_at w (fresh_values w).texts i ≡ 0
      unfolding fresh_values
      fresh-mark =
          let l : (attribute_row w i).first < text_limit = omega (arith, text-inside w rules.structure i below t, rules.structure.text_number) in
          mark-there (replicate text_limit 0) (attribute_row w i).first l ∙ get_or-replicate text_limit (attribute_row w i).first 0 0 l

      -- a factory text is shown whole
      factory-right : text_right w page edits (attribute_row w i).first false 0 ≡ true
      factory-right =
          let k = (attribute_row w i).first in
          let start = factory_start w k in
          let len = factory_length w k in
          let r : FactoryRules page start len = rules.texts k (text-inside w rules.structure i below t) in
          sym (text-there w page edits k 0 false (omega arith) refl) ∙ sym (rank-cut w page edits k 0 refl)
          ∙ sym (whole-text (take len (drop start page)) len r.size (eq-eqb (length (take len (drop start page))) len (part_length page start len r.inside))) ∙ r.valid

      text-fresh : right_at w page edits (fresh_values w) i ≡ true
      text-fresh =
          rw (fresh-word, fresh-null, fresh-mark, t)
          (sym (text-right w page edits i 0 false 0 t (text-within w page edits i 0 false 0 t refl refl) refl) ∙ factory-right)

    number-fresh : is_text (attribute_row w i) ≡ false → right_at w page edits (fresh_values w) i ≡ true
    number-fresh t =
        rw (fresh-word, fresh-null, t)
        (sym (number-right w page edits i (attribute_row w i).first false (mark_at w (fresh_values w).texts i) t) ∙ number-within t)

    fresh-right-at : right_at w page edits (fresh_values w) i ≡ true
    fresh-right-at = by-test (is_text (attribute_row w i)) text-fresh number-fresh

  -- a fresh server keeps the rules, whatever its page of edits has
  pub fresh-right : length edits ≡ text_size * count_of_texts w → values_right w page edits (fresh_values w) ≡ true
  fresh-right s = right-all w page edits (fresh_values w) s fresh-right-at

-- its arrays have their lengths
filled-length : (f : ℕ → ℕ) (n i : ℕ) → i ≤ n → length (filled 0 f n i) ≡ n
filled-length f n i h = length-append (rows_from f i 0) (replicate (n - i) 0) ∙ rw (rows-length f i 0, length-replicate {A = ℕ} (n - i) 0) (omega arith)

pub fresh-whole : (w : List ℕ) → Whole (fresh_values w)
unfolding fresh_values
fresh-whole w =
    record {
      words = filled-length (λ i. start_word (attribute_row w i)) attribute_limit (count_of_attributes w) (omega arith);
      nulls = length-replicate attribute_limit false;
      texts = length-replicate {A = ℕ} text_limit 0;
      versions = filled-length (λ i. (cluster_row w i).version) cluster_limit (count_of_clusters w) (omega arith);
    }

-- each cluster has the version that the schema gives
pub fresh-version : (w : List ℕ) (k : ℕ) → k < count_of_clusters w → get_or (fresh_values w).versions k 0 ≡ (cluster_row w k).version
unfolding fresh_values
fresh-version w k l = filled_at 0 (λ i. (cluster_row w i).version) cluster_limit (count_of_clusters w) k 0 l
