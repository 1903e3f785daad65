-- What stands at a place of a path: its tests one by one, an index that it gives is one of the schema's attributes, a status an octet.
use mathlib.Core.Path.{◌≡◌, refl, sym, ap, ◌∙◌}
use mathlib.Core.Bool.{Bool, true, false}
use mathlib.Core.List.{List}
use Prim.Native.Nat.{ℕ, ◌<◌, ◌^◌}
use native.Mathlib.Omega.{arith}
use lib.Dec.{eqb}
use lib.ListN.{get_or}
use Rattle.tlv_reader.specs.Octet.{pick}
use Rattle.im_blocks.proofs.BlockLaws.{never}
use Rattle.node_schema.specs.Rows.{attribute_row, count_of_attributes}
use Rattle.node_schema.specs.Rules.{path_at}
use Rattle.node_access.specs.declared.Grants.{Grants}
use Rattle.node_access.specs.Access.{is_granted}
use Rattle.server_selection.specs.declared.asked.Asked.{Asked}
use Rattle.server_selection.specs.declared.items.Item.{Item}
use Rattle.server_selection.specs.declared.items.Item.TheVariants.{Value, Status, Nothing}
use Rattle.server_selection.specs.declared.locate.Located.{Located}
use Rattle.server_selection.specs.declared.locate.Located.TheVariants.{Here, Refused}
use Rattle.server_selection.specs.Status.{unsupported_read, unsupported_access}
use Rattle.server_selection.specs.Locate.{located}
use Rattle.server_selection.specs.Asked.{asks_for, concrete}
use Rattle.server_selection.specs.declared.reach.Use.TheVariants.{Read}
use Rattle.server_selection.specs.Reach.{allowed, reached}
use Rattle.server_selection.specs.Items.{found_item, read_item, silent, concrete_item, wildcard_item, span, item_at}
use Rattle.server_selection.proofs.LocateLaws.{located_here}
use Rattle.server_selection.proofs.ReachLaws.{allowed-here, reached-here, Octet, reached-octet}

-- what a read makes of an attribute that it may use
module _ (w : List ℕ) (skips : List Bool) where
  -- with its cluster as the code has it
  pub found_here : {l : Located} {i k : ℕ} {b : Bool} → l ≡ Here i → k ≡ (attribute_row w i).index_of_cluster → get_or skips k false ≡ b → found_item w skips l ≡ pick b Nothing (Value i)
  found_here e c h = ap (found_item w skips) e ∙ rw (← c, h)

  -- an index is that attribute's
  found-index : (j : ℕ) (l : Located) → found_item w skips l ≡ Value j → l ≡ Here j
  found-index j (Here i) h = go (get_or skips (attribute_row w i).index_of_cluster false) h
    where
      go : (b : Bool) → pick b Nothing (Value i) ≡ Value j → Here i ≡ Here j
      go true q = never (cc)
      go false q = cc
  found-index j (Refused code) h = never (cc)

  -- a status is the refusal's
  found-code : (code : ℕ) (l : Located) → Octet l → found_item w skips l ≡ Status code → code < 2 ^ 8
  found-code code (Here i) o h = go (get_or skips (attribute_row w i).index_of_cluster false) h
    where
      go : (b : Bool) → pick b Nothing (Value i) ≡ Status code → code < 2 ^ 8
      go true q = never (cc)
      go false q = never (cc)
  found-code code (Refused s) o h = let e : s ≡ code = cc in omega arith

module _ (w : List ℕ) (g : Grants) (skips : List Bool) where
  -- attribute i, test by test: 8F, 7E, the filters, else its value
  pub read-tests : (i : ℕ) → read_item w g skips i ≡ pick (eqb (attribute_row w i).read 0) (Status unsupported_read) (pick (is_granted g (attribute_row w i).index_of_cluster (attribute_row w i).read) (pick (get_or skips (attribute_row w i).index_of_cluster false) Nothing (Value i)) (Status unsupported_access))
  unfolding read_item allowed
  read-tests i = go (eqb (attribute_row w i).read 0) (is_granted g (attribute_row w i).index_of_cluster (attribute_row w i).read)
    where
      go : (a b : Bool) → found_item w skips (pick a (Refused unsupported_read) (pick b (Here i) (Refused unsupported_access))) ≡ pick a (Status unsupported_read) (pick b (pick (get_or skips (attribute_row w i).index_of_cluster false) Nothing (Value i)) (Status unsupported_access))
      go true b = refl
      go false true = refl
      go false false = refl

  -- a wildcard has nothing of a cluster that the filters skip
  pub wildcard-skipped : (p : Asked) (i : ℕ) {k : ℕ} → k ≡ (attribute_row w i).index_of_cluster → get_or skips k false ≡ true → wildcard_item w g skips p i ≡ Nothing
  unfolding wildcard_item
  wildcard-skipped p i {k} c h =
      let s : get_or skips (attribute_row w i).index_of_cluster false ≡ true = ap (λ (n : ℕ). get_or skips n false) (sym c) ∙ h in
      rw (read-tests i, s) (go (asks_for p (path_at w i)) (eqb (attribute_row w i).read 0) (is_granted g (attribute_row w i).index_of_cluster (attribute_row w i).read))
    where
      go : (x a b : Bool) → pick x (silent (pick a (Status unsupported_read) (pick b Nothing (Status unsupported_access)))) Nothing ≡ Nothing
      go false a b = refl
      go true true b = refl
      go true false true = refl
      go true false false = refl

  -- a concrete path: the attribute that it names as a read finds it, or the status of a path that names none
  module _ (p : Asked) where
    pub concrete-here : (i : ℕ) → located w p.endpoint p.cluster p.attribute ≡ Here i → concrete_item w g skips p ≡ read_item w g skips i
    unfolding concrete_item reached read_item
    concrete-here i h = rw h

    pub concrete-refused : (code : ℕ) → located w p.endpoint p.cluster p.attribute ≡ Refused code → concrete_item w g skips p ≡ Status code
    unfolding concrete_item reached
    concrete-refused code h = rw h

  -- ---- an index that is found is one of the schema's attributes

  read-index : (i j : ℕ) → read_item w g skips i ≡ Value j → i ≡ j
  unfolding read_item
  read-index i j h = (allowed-here Read w g i j (found-index w skips j (allowed Read w g i) h)).0

  pub wildcard-index : (p : Asked) (i j : ℕ) → wildcard_item w g skips p i ≡ Value j → i ≡ j
  unfolding wildcard_item
  wildcard-index p i j h = go (asks_for p (path_at w i)) (read_item w g skips i) (read-index i j) h
    where
      go : (b : Bool) (x : Item) → (x ≡ Value j → i ≡ j) → pick b (silent x) Nothing ≡ Value j → i ≡ j
      go true (Value k) f q = f q
      go true (Status code) f q = never (cc)
      go true Nothing f q = never (cc)
      go false x f q = never (cc)

  pub item-index : (p : Asked) (i j : ℕ) → i < span w p → item_at w g skips p i ≡ Value j → j < count_of_attributes w
  unfolding item_at span concrete_item
  item-index p i j l h = by_form (concrete p) l h
    where
      by_form : (b : Bool) → i < pick b 1 (count_of_attributes w) → pick b (concrete_item w g skips p) (wildcard_item w g skips p i) ≡ Value j → j < count_of_attributes w
      by_form true l q = (located_here w p.endpoint p.cluster p.attribute j (reached-here Read w g p.endpoint p.cluster p.attribute j (found-index w skips j (reached Read w g p.endpoint p.cluster p.attribute) q))).0
      by_form false l q = omega (arith, wildcard-index p i j q)

  -- ---- a status that a path gets is an octet

  pub item-code : (code : ℕ) (p : Asked) (i : ℕ) → item_at w g skips p i ≡ Status code → code < 2 ^ 8
  unfolding item_at concrete_item wildcard_item
  item-code code p i h = by_form (concrete p) h
    where
      begins-none : (b : Bool) (x : Item) → pick b (silent x) Nothing ≡ Status code → code < 2 ^ 8
      begins-none true (Value j) q = never (cc)
      begins-none true (Status c) q = never (cc)
      begins-none true Nothing q = never (cc)
      begins-none false x q = never (cc)

      by_form : (b : Bool) → pick b (concrete_item w g skips p) (wildcard_item w g skips p i) ≡ Status code → code < 2 ^ 8
      by_form true q = found-code w skips code (reached Read w g p.endpoint p.cluster p.attribute) (reached-octet w Read g p.endpoint p.cluster p.attribute) q
      by_form false q = begins-none (asks_for p (path_at w i)) (read_item w g skips i) q
