-- The order of members does not matter, and members that are not listed are as if absent (RULES 4.6, 4.10).
use Rattle.std.specs.Prelude.{Some, None, Option}
use mathlib.Core.Path.{◌≡◌, refl, sym, ap, ◌∙◌}
use mathlib.Core.Bool.{Bool, true, false}
use mathlib.Core.List.{List}
use Prim.Native.Nat.{ℕ, ◌<◌, ◌≤◌}
use native.Mathlib.Omega.{arith}
use borrow.Author.Tests.{eqb-true, eqb-false, le-ltb, lt-ltb, ltb-true, ltb-false}
use lib.ListN.{length, get_or, set, replicate, length-set}
use lib.Seq.{get_or-set_same, get_or-set_other, set_comm}
use lib.Dec.{ltb, eqb}
use Rattle.tlv_reader.specs.Octet.{pick}
use Rattle.tlv_reader.specs.Tree.{Tag, Tree, Trees, tag_of_tree}
use Rattle.tlv_reader.specs.Tree.Tree.{container}
use Rattle.tlv_reader.specs.Tree.Trees.{more}
use Rattle.tlv_reader.specs.Decode.{bind_o, fold_t}
use Rattle.im_members.specs.Fields.{Slot, free, put_t, slot_t, field_m, fields_t, inside_t}
use Rattle.im_members.specs.Fields.Slot.{absent, present}
use Rattle.im_members.specs.Order.{Reordered}
use Rattle.im_members.specs.Order.Reordered.{same, swap, skip, both}

-- a view of what putting does
data Put (xs : List Slot) (i : ℕ) (t : Tree) : Option (List Slot) → Type 0 where
  kept : 10 ≤ i → Put xs i t (Some xs)
  stored : i < 10 → get_or xs i absent ≡ absent → Put xs i t (Some (set xs i (present t)))
  twice : (u : Tree) → i < 10 → get_or xs i absent ≡ present u → Put xs i t None

put_view : (xs : List Slot) (i : ℕ) (t : Tree) → Put xs i t (put_t xs i t)
unfolding put_t
put_view xs i t = go (ltb i 10) refl (get_or xs i absent) refl
  where
    go : (b : Bool) → ltb i 10 ≡ b → (z : Slot) → get_or xs i absent ≡ z → Put xs i t (pick b (free z (Some (set xs i (present t))) None) (Some xs))
    go true e absent q = stored (ltb-true i 10 e) q
    go true e (present u) q = twice u (ltb-true i 10 e) q
    go false e z q = kept (ltb-false i 10 e)

module _ (xs : List Slot) (i : ℕ) (t : Tree) where
  put-kept : 10 ≤ i → put_t xs i t ≡ Some xs
  unfolding put_t
  put-kept l = simp (le-ltb i 10 l)

  put-stored : i < 10 → get_or xs i absent ≡ absent → put_t xs i t ≡ Some (set xs i (present t))
  unfolding put_t
  put-stored l e = simp (lt-ltb i 10 l, e)

  put-twice : (u : Tree) → i < 10 → get_or xs i absent ≡ present u → put_t xs i t ≡ None
  unfolding put_t
  put-twice u l e = simp (lt-ltb i 10 l, e)

-- two places that hold different things are different
apart : (xs : List Slot) (i j : ℕ) (u : Tree) → get_or xs i absent ≡ absent → get_or xs j absent ≡ present u → i ≡ j → ⊥
apart xs i j u w z e = let q : absent ≡ present u = sym w ∙ ap (λ (k : ℕ). get_or xs k absent) e ∙ z in let c : ◌≡◌ {A = ℕ} 0 1 = cc in omega arith

-- two members that are both put
put_two : (xs : List Slot) → length xs ≡ 10 → (i j : ℕ) (a b : Tree) → i < 10 → get_or xs i absent ≡ absent → j < 10 → get_or xs j absent ≡ absent → put_t (set xs i (present a)) j b ≡ put_t (set xs j (present b)) i a
put_two xs len i j a b l w m z = go (eqb i j) refl
  where
    go : (c : Bool) → eqb i j ≡ c → put_t (set xs i (present a)) j b ≡ put_t (set xs j (present b)) i a
    go true e =
        let q = eqb-true i j e in
        put-twice (set xs i (present a)) j b a m (ap (λ (k : ℕ). get_or (set xs i (present a)) k absent) (sym q) ∙ get_or-set_same xs i (present a) absent (omega arith))
        ∙ sym (put-twice (set xs j (present b)) i a b l (ap (λ (k : ℕ). get_or (set xs j (present b)) k absent) q ∙ get_or-set_same xs j (present b) absent (omega arith)))
    go false e =
        let q = eqb-false i j e in
        put-stored (set xs i (present a)) j b m (get_or-set_other xs i j (present a) absent (λ x. q (sym x)) ∙ z)
        ∙ ap Some (set_comm xs i j (present a) (present b) q)
        ∙ sym (put-stored (set xs j (present b)) i a l (get_or-set_other xs j i (present b) absent q ∙ w))

-- two members may be put in either order
put-swap : (xs : List Slot) → length xs ≡ 10 → (i j : ℕ) (a b : Tree) → bind_o (put_t xs i a) (λ y. put_t y j b) ≡ bind_o (put_t xs j b) (λ y. put_t y i a)
put-swap xs len i j a b = go (put_t xs i a) refl (put_view xs i a) (put_t xs j b) refl (put_view xs j b)
  where
    go : (o : Option (List Slot)) → put_t xs i a ≡ o → Put xs i a o → (p : Option (List Slot)) → put_t xs j b ≡ p → Put xs j b p → bind_o o (λ y. put_t y j b) ≡ bind_o p (λ y. put_t y i a)
    go o e (kept l) p f (kept m) = f ∙ sym e
    go o e (kept l) p f (stored m z) = f ∙ sym (put-kept (set xs j (present b)) i a l)
    go o e (kept l) p f (twice u m z) = f
    go o e (stored l w) p f (kept m) = put-kept (set xs i (present a)) j b m ∙ sym e
    go o e (stored l w) p f (stored m z) = put_two xs len i j a b l w m z
    go o e (stored l w) p f (twice u m z) = put-twice (set xs i (present a)) j b u m (get_or-set_other xs i j (present a) absent (λ x. apart xs i j u w z (sym x)) ∙ z)
    go o e (twice u l w) p f (kept m) = sym e
    go o e (twice u l w) p f (stored m z) = sym (put-twice (set xs j (present b)) i a u l (get_or-set_other xs j i (present b) absent (λ x. apart xs j i u z w (sym x)) ∙ w))
    go o e (twice u l w) p f (twice v m z) = refl

bind_assoc : {A B C : Type 0} (o : Option A) (f : A → Option B) (g : B → Option C) → bind_o (bind_o o f) g ≡ bind_o o (λ x. bind_o (f x) g)
bind_assoc (Some x) f g = refl
bind_assoc None f g = refl

-- putting keeps the number of places
Long : Option (List Slot) → Type 0
Long None = Unit {0}
Long (Some xs) = length xs ≡ 10

put-long : (xs : List Slot) (i : ℕ) (t : Tree) → length xs ≡ 10 → Long (put_t xs i t)
unfolding Long
put-long xs i t len = go (put_t xs i t) (put_view xs i t)
  where
    go : (o : Option (List Slot)) → Put xs i t o → Long o
    go o (kept l) = len
    go o (stored l w) = length-set xs i (present t) ∙ len
    go o (twice u l w) = tt

module _ (listed : List Bool) where
  -- THE LAW: the order does not matter
  reorder : {ts us : Trees} → Reordered ts us → (xs : List Slot) → length xs ≡ 10 → fold_t (field_m listed) xs ts ≡ fold_t (field_m listed) xs us
  unfolding fold_t field_m Long
  reorder (same ts) xs len = refl
  reorder (swap a b ts) xs len =
      sym (bind_assoc (field_m listed xs a) (λ y. field_m listed y b) (λ y. fold_t (field_m listed) y ts))
      ∙ ap (λ o. bind_o o (λ y. fold_t (field_m listed) y ts)) (put-swap xs len (slot_t listed (tag_of_tree a)) (slot_t listed (tag_of_tree b)) a b)
      ∙ bind_assoc (field_m listed xs b) (λ y. field_m listed y a) (λ y. fold_t (field_m listed) y ts)
  reorder (skip t {ts} {us} r) xs len = go (put_t xs (slot_t listed (tag_of_tree t)) t) (put-long xs (slot_t listed (tag_of_tree t)) t len) (λ y l. reorder r y l)
    where
      go : (o : Option (List Slot)) → Long o → ((y : List Slot) → length y ≡ 10 → fold_t (field_m listed) y ts ≡ fold_t (field_m listed) y us) → bind_o o (λ y. fold_t (field_m listed) y ts) ≡ bind_o o (λ y. fold_t (field_m listed) y us)
      go None l k = refl
      go (Some y) l k = k y l
  reorder (both r q) xs len = reorder r xs len ∙ reorder q xs len

  pub any_order : {ts us : Trees} → Reordered ts us → fields_t listed ts ≡ fields_t listed us
  unfolding fields_t
  any_order r = reorder r (replicate 10 absent) refl

  -- a member that is not listed, in front (and so, by any_order, anywhere), is as if absent
  pub unlisted : (t : Tree) (ts : Trees) → 10 ≤ slot_t listed (tag_of_tree t) → fields_t listed (more t ts) ≡ fields_t listed ts
  unfolding fields_t fold_t field_m
  unlisted t ts l = simp (put-kept (replicate 10 absent) (slot_t listed (tag_of_tree t)) t l)

  -- THE LAWS for what any schema makes of a container of a type
  module _ {A : Type 0} (G : List Slot → Option A) (kind : ℕ) (tag : Tag) (k : ℕ) where
    pub inside-any-order : {ts us : Trees} → Reordered ts us → bind_o (inside_t kind listed (container tag k ts)) G ≡ bind_o (inside_t kind listed (container tag k us)) G
    unfolding inside_t
    inside-any-order r = ap (λ o. bind_o (pick (eqb k kind) o None) G) (any_order r)

    pub inside-unlisted : (t : Tree) (ts : Trees) → 10 ≤ slot_t listed (tag_of_tree t) → bind_o (inside_t kind listed (container tag k (more t ts))) G ≡ bind_o (inside_t kind listed (container tag k ts)) G
    unfolding inside_t
    inside-unlisted t ts l = ap (λ o. bind_o (pick (eqb k kind) o None) G) (unlisted t ts l)
