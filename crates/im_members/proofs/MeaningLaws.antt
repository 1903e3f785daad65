-- THE LAWS: what is read in the bytes is the meaning of the tree that they spell.
use Rattle.std.specs.Prelude.{Some, None, Option}
use mathlib.Core.Path.{◌≡◌, refl, sym, ap, subst, ◌∙◌}
use mathlib.Core.Bool.{Bool, true, false}
use mathlib.Core.List.{List, [], ◌∷◌, ◌++◌, map}
use Prim.Native.Nat.{ℕ, zero, suc, ◌+◌, ◌-◌, ◌/◌, ◌%◌, ◌≤◌}
use native.Mathlib.Omega.{arith}
use native.Mathlib.Numerals.{add-one}
use borrow.Author.Tests.{eq-eqb, ne_eqb, eqb-true, ltb-true}
use lib.ListN.{length, get_or, set, replicate, get_or-map}
use lib.Dec.{ltb, eqb}
use Rattle.base_octets.specs.Number.{Bytes}
use Rattle.tlv_reader.specs.declared.Element.{Element}
use Rattle.tlv_reader.specs.Octet.{pick, structure, list}
use Rattle.tlv_reader.specs.Tree.{Tag, Tree, Trees, depth, tag_of, tag_of_tree, Spells}
use Rattle.tlv_reader.specs.Tree.Tag.{anonymous, context, common, implicit, full}
use Rattle.tlv_reader.specs.Tree.Tree.{container}
use Rattle.tlv_reader.specs.Head.{head_at}
use Rattle.tlv_reader.specs.Walk.{Got, map_g, bind_g, headed}
use Rattle.tlv_reader.specs.Walk.Got.{got, bad}
use Rattle.tlv_reader.specs.Decode.{place, bind_o, trees_from, tree_by, tree_of, trees_at, tree_at}
use Rattle.tlv_reader.proofs.Picks.{choose-elim}
use Rattle.tlv_reader.proofs.TreeLaws.{passed, end-of-tree, fold_law, tree-at}
use Rattle.tlv_reader.proofs.Completeness.{tree-back}
use Rattle.tlv_reader.proofs.Soundness.{Spelled, SpelledG, tree-sound}
use Rattle.im_members.specs.Fields.{place_of, slot_of, put_at, put_end, field_step, fields_from, fields_at, inside_by, inside_at, Slot, free, put_t, slot_t, field_m, fields_t, inside_t, or_none, slot_in}
use Rattle.im_members.specs.Fields.Slot.{absent, present}

-- a tree's tag is its head's
abbrev TagIs : Tag → Got Tree → Type 0
TagIs x bad = Unit {0}
TagIs x (got t n) = tag_of_tree t ≡ x

map-tag : (tag : Tag) (k : ℕ) (g : Got Trees) → TagIs tag (map_g (container tag k) g)
map-tag tag k bad = tt
map-tag tag k (got ts n) = refl

by-tag : (s : List ℕ) (inner : ℕ → ℕ → Got Trees) (e : Element) → TagIs (tag_of e.form e.tag) (tree_by s inner e)
unfolding tree_by
by-tag s inner e =
    choose-elim (TagIs (tag_of e.form e.tag)) (ltb e.kind structure) _ _ (λ _. refl)
    (λ _. choose-elim (TagIs (tag_of e.form e.tag)) (ltb list e.kind) _ _ (λ _. tt) (λ _. map-tag (tag_of e.form e.tag) e.kind (inner e.kind e.next.at)))

tree-tag : (d : ℕ) (s : List ℕ) (e : Element) → TagIs (tag_of e.form e.tag) (tree_of d s e)
unfolding tree_of
tree-tag zero s e = by-tag s (λ k n. bad) e
tree-tag (suc d) s e = by-tag s (λ k n. trees_from (tree_of d s) (length s) s k n) e

slot-tag : (listed : List Bool) (f n : ℕ) → slot_of listed f n ≡ slot_t listed (tag_of f n)
unfolding slot_of tag_of
slot-tag listed f n = go (eqb f 0) refl (eqb f 1) refl
  where
    rest : (a b : Bool) → slot_t listed (pick a (common n) (pick b (implicit n) (full (n % 65536) (n / 65536 % 65536) (n / 4294967296)))) ≡ 10
    rest true b = refl
    rest false true = refl
    rest false false = refl

    go : (a : Bool) → eqb f 0 ≡ a → (b : Bool) → eqb f 1 ≡ b → pick b (place_of listed n) 10 ≡ slot_t listed (pick a anonymous (pick b (context n) (pick (ltb f 4) (common n) (pick (ltb f 6) (implicit n) (full (n % 65536) (n / 65536 % 65536) (n / 4294967296))))))
    go true e true q = absurd (omega (arith, eqb-true f 0 e, eqb-true f 1 q))
    go true e false q = refl
    go false e true q = refl
    go false e false q = sym (rest (ltb f 4) (ltb f 6))

map-set : {A B : Type 0} (f : A → B) (l : List A) (i : ℕ) (y : A) → map f (set l i y) ≡ set (map f l) i (f y)
map-set f [] i y = refl
map-set f (x ∷ l) zero y = refl
map-set f (x ∷ l) (suc i) y = ap (λ r. f x ∷ r) (map-set f l i y)

-- a member that is put by its place is put by its tree
put-law : (d : ℕ) (s : List ℕ) (seen : List ℕ) (i at n : ℕ) (t : Tree) → tree_at d s at ≡ got t n → map_g (map (slot_in d s)) (put_at seen i at n) ≡ place (put_t (map (slot_in d s) seen) i t) n
unfolding put_at put_t slot_in
put-law d s seen i at n t e = go (ltb i 10) (get_or seen i 0) refl
  where
    p : slot_in d s (at + 1) ≡ present t
    p = rw add-one (ap (λ (g : Got Tree). present (or_none g)) e)

    here : (v : ℕ) → get_or seen i 0 ≡ v → get_or (map (slot_in d s) seen) i absent ≡ slot_in d s v
    here v q = get_or-map (slot_in d s) seen i 0 ∙ ap (slot_in d s) q

    go : (a : Bool) (v : ℕ) → get_or seen i 0 ≡ v → map_g (map (slot_in d s)) (pick a (pick (eqb (get_or seen i 0) 0) (got (set seen i (at + 1)) n) bad) (got seen n)) ≡ place (pick a (free (get_or (map (slot_in d s) seen) i absent) (Some (set (map (slot_in d s) seen) i (present t))) None) (Some (map (slot_in d s) seen))) n
    go false v q = refl
    go true zero q = rw (here zero q) (rw q (ap (λ (l : List Slot). got l n) (map-set (slot_in d s) seen i (at + 1) ∙ ap (set (map (slot_in d s) seen) i) p)))
    go true (suc v) q = rw (here (suc v) q) (rw q (rw (ne_eqb (suc v) 0 (λ z. omega arith)) refl))

step-law : (d : ℕ) (s : List ℕ) (listed : List Bool) (seen : List ℕ) (at : ℕ) (e : Element) → head_at s at ≡ Some e → map_g (map (slot_in d s)) (field_step d s listed seen at e) ≡ bind_g (tree_of d s e) (λ t n. place (field_m listed (map (slot_in d s) seen) t) n)
unfolding field_step field_m
step-law d s listed seen at e h = rw (end-of-tree d s e) (go (tree_of d s e) refl (tree-tag d s e))
  where
    go : (g : Got Tree) → tree_of d s e ≡ g → TagIs (tag_of e.form e.tag) g → map_g (map (slot_in d s)) (put_end seen (slot_of listed e.form e.tag) at (passed g)) ≡ bind_g g (λ t n. place (field_m listed (map (slot_in d s) seen) t) n)
    go bad q x = refl
    go (got t n) q x = put-law d s seen (slot_of listed e.form e.tag) at n t (tree-at d s 0 at h ∙ q) ∙ ap (λ (i : ℕ). place (put_t (map (slot_in d s) seen) i t) n) (slot-tag listed e.form e.tag ∙ ap (slot_t listed) (sym x))

-- THE LAW of the listed members
pub fields-law : (d : ℕ) (s : List ℕ) (kind : ℕ) (listed : List Bool) (at : ℕ) → map_g (map (slot_in d s)) (fields_at d s kind listed at) ≡ bind_g (trees_at d s kind at) (λ ts n. place (fields_t listed ts) n)
unfolding fields_at fields_from fields_t trees_at slot_in
fields-law d s kind listed at = fold_law (map (slot_in d s)) (field_m listed) (field_step d s listed) (tree_of d s) s kind (λ seen p e h. step-law d s listed seen p e h) (length s) (replicate 10 0) at

-- ---- binding

bind-nothing : {A B : Type 0} (f : A → Option B) (g : Got A) → ((a : A) → f a ≡ None) → bind_g g (λ a n. place (f a) n) ≡ bad
bind-nothing f bad e = refl
bind-nothing f (got a n) e = ap (λ o. place o n) (e a)

bind-map : {A B C : Type 0} (f : A → B) (k : B → ℕ → Got C) (g : Got A) → bind_g (map_g f g) k ≡ bind_g g (λ a n. k (f a) n)
bind-map f k bad = refl
bind-map f k (got a n) = refl

bind-same : {A B : Type 0} (f f' : A → Option B) (g : Got A) → ((a : A) → f a ≡ f' a) → bind_g g (λ a n. place (f a) n) ≡ bind_g g (λ a n. place (f' a) n)
bind-same f f' bad e = refl
bind-same f f' (got a n) e = ap (λ o. place o n) (e a)

bind-place : {A B : Type 0} (G : A → Option B) (o : Option A) (n : ℕ) → bind_g (place o n) (λ a k. place (G a) k) ≡ place (bind_o o G) n
bind-place G None n = refl
bind-place G (Some a) n = refl

bind-bind : {A B C : Type 0} (f : A → Option B) (G : B → Option C) (g : Got A) → bind_g (bind_g g (λ a n. place (f a) n)) (λ b n. place (G b) n) ≡ bind_g g (λ a n. place (bind_o (f a) G) n)
bind-bind f G bad = refl
bind-bind f G (got a n) = bind-place G (f a) n

-- ---- the container that stands at a position

module _ (kind : ℕ) (lo : structure ≤ kind) (hi : kind ≤ list) (listed : List Bool) where
  inside-by : (α : List ℕ → List Slot) (s : List ℕ) (inner : ℕ → Got (List ℕ)) (inner' : ℕ → ℕ → Got Trees) → ((n : ℕ) → map_g α (inner n) ≡ bind_g (inner' kind n) (λ ts n. place (fields_t listed ts) n)) → (e : Element) → map_g α (inside_by kind inner e) ≡ bind_g (tree_by s inner' e) (λ t n. place (inside_t kind listed t) n)
  unfolding tree_by inside_t
  inside-by α s inner inner' q e =
      let R : Got Tree → Type 0 = λ g. map_g α (pick (eqb e.kind kind) (inner e.next.at) bad) ≡ bind_g g (λ t n. place (inside_t kind listed t) n) in
      choose-elim R (ltb e.kind structure) _ _ (λ l. (let m = ltb-true e.kind structure l in simp (ne_eqb e.kind kind (λ z. omega arith))))
      (λ l. choose-elim R (ltb list e.kind) _ _ (λ z. (let w = ltb-true list e.kind z in simp (ne_eqb e.kind kind (λ y. omega arith)))) (λ z. go (eqb e.kind kind) refl))
    where
      go : (a : Bool) → eqb e.kind kind ≡ a → map_g α (pick (eqb e.kind kind) (inner e.next.at) bad) ≡ bind_g (map_g (container (tag_of e.form e.tag) e.kind) (inner' e.kind e.next.at)) (λ t n. place (inside_t kind listed t) n)
      go true z = rw (eqb-true e.kind kind z) (rw (eq-eqb kind kind refl) (q e.next.at ∙ sym (bind-map (container (tag_of e.form e.tag) kind) (λ t n. place (inside_t kind listed t) n) (inner' kind e.next.at) ∙ simp (eq-eqb kind kind refl))))
      go false z = rw z (sym (bind-map (container (tag_of e.form e.tag) e.kind) (λ t n. place (inside_t kind listed t) n) (inner' e.kind e.next.at) ∙ bind-nothing (λ ts. inside_t kind listed (container (tag_of e.form e.tag) e.kind ts)) (inner' e.kind e.next.at) (λ ts. simp z)))

  inside-bad : (α : List ℕ → List Slot) (e : Element) → map_g α (inside_by kind (λ n. bad) e) ≡ bad
  inside-bad α e = go (eqb e.kind kind)
    where
      go : (a : Bool) → map_g α (pick a bad bad) ≡ bad
      go true = refl
      go false = refl

  headed-deep : (s : List ℕ) (h : (Option Element)) → bad ≡ bind_g (headed bad (tree_of 0 s) h) (λ t n. place (inside_t kind listed t) n)
  unfolding tree_of
  headed-deep s None = refl
  headed-deep s (Some e) = sym (inside-bad (map (slot_in 0 s)) e) ∙ inside-by (map (slot_in 0 s)) s (λ n. bad) (λ k n. bad) (λ n. refl) e

  headed-in : (d : ℕ) (s : List ℕ) (h : (Option Element)) → map_g (map (slot_in d s)) (headed bad (inside_by kind (λ n. fields_at d s kind listed n)) h) ≡ bind_g (headed bad (tree_of (suc d) s) h) (λ t n. place (inside_t kind listed t) n)
  unfolding tree_of trees_at
  headed-in d s None = refl
  headed-in d s (Some e) = inside-by (map (slot_in d s)) s (λ n. fields_at d s kind listed n) (λ k n. trees_from (tree_of d s) (length s) s k n) (λ n. fields-law d s kind listed n) e

  pub inside-law : (d : ℕ) (s : List ℕ) (at : ℕ) → map_g (map (slot_in (d - 1) s)) (inside_at kind d s listed at) ≡ bind_g (tree_at d s at) (λ t n. place (inside_t kind listed t) n)
  unfolding inside_at tree_at
  inside-law zero s at = headed-deep s (head_at s at)
  inside-law (suc d) s at = let p : suc d - 1 ≡ d = omega arith in rw p (headed-in d s (head_at s at))

  -- THE LAW of a schema: it is enough that what it makes of the places is what it makes of the trees there
  pub schema-law : {A : Type 0} (d : ℕ) (s : List ℕ) (F : List ℕ → Option A) (G : List Slot → Option A) → ((xs : List ℕ) → F xs ≡ G (map (slot_in (d - 1) s) xs)) → (at : ℕ) → bind_g (inside_at kind d s listed at) (λ xs n. place (F xs) n) ≡ bind_g (tree_at d s at) (λ t n. place (bind_o (inside_t kind listed t) G) n)
  schema-law d s F G e at =
      bind-same F (λ xs. G (map (slot_in (d - 1) s) xs)) (inside_at kind d s listed at) e
      ∙ sym (bind-map (map (slot_in (d - 1) s)) (λ ys n. place (G ys) n) (inside_at kind d s listed at))
      ∙ ap (λ g. bind_g g (λ ys n. place (G ys) n)) (inside-law d s at)
      ∙ bind-bind (inside_t kind listed) G (tree_at d s at)

-- what a slot holds is what stands at its place
pub at_place : (d : ℕ) (s : List ℕ) (xs : List ℕ) (i : ℕ) → get_or (map (slot_in d s) xs) i absent ≡ slot_in d s (get_or xs i 0)
unfolding slot_in
at_place d s xs i = get_or-map (slot_in d s) xs i 0

-- ---- for any reader that is the meaning of a tree

module _ {A : Type 0} (d : ℕ) (s : List ℕ) (read : ℕ → Got A) (means : Tree → Option A) (law : (at : ℕ) → read at ≡ bind_g (tree_at d s at) (λ t n. place (means t) n)) where
  -- any legal spelling is read to its meaning
  pub reader-back : (t : Tree) (at : ℕ) (p q bs : List ℕ) → Spells t bs → depth t ≤ d → s ≡ p ++ (bs ++ q) → at ≡ length p → read at ≡ place (means t) (at + length bs)
  reader-back t at p q bs w h es ea = law at ∙ ap (λ g. bind_g g (λ u n. place (means u) n)) (tree-back t d s at p q bs w h es ea)

  -- what a reader accepts is a tree that the bytes spell, with that meaning
  pub reader-sound : Bytes s → (at n : ℕ) (a : A) → read at ≡ got a n → (t : Tree) × (Spelled d s at t n) × (means t ≡ Some a)
  reader-sound hs at n a e = go (tree_at d s at) (tree-sound d s hs at) (sym (law at) ∙ e)
    where
      put : (t : Tree) (m : ℕ) → Spelled d s at t m → (o : Option A) → means t ≡ o → place o m ≡ got a n → (t : Tree) × (Spelled d s at t n) × (means t ≡ Some a)
      put t m w None q e = absurd (let z : ◌≡◌ {A = ℕ} 0 1 = cc in omega arith)
      put t m w (Some b) q e = (t, subst (λ (k : ℕ). Spelled d s at t k) (let z : m ≡ n = cc in z) w, cc)

      go : (g : Got Tree) → SpelledG d s at g → bind_g g (λ t m. place (means t) m) ≡ got a n → (t : Tree) × (Spelled d s at t n) × (means t ≡ Some a)
      go bad w e = absurd (let z : ◌≡◌ {A = ℕ} 0 1 = cc in omega arith)
      go (got t m) w e = put t m w (means t) refl e
