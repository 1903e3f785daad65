-- An array at a position: THE LAW that what is read is the meaning of its tree.
use Rattle.std.specs.Prelude.{Some, None, Option}
use mathlib.Core.Path.{◌≡◌, refl, sym, ap, ◌∙◌}
use mathlib.Core.Bool.{Bool, true, false}
use mathlib.Core.List.{List, [], ◌∷◌, map}
use Prim.Native.Nat.{ℕ, suc}
use native.Mathlib.Omega.{arith}
use borrow.Author.Tests.{ne_eqb, eqb-true, ltb-true}
use lib.ListN.{length}
use lib.Dec.{ltb, eqb}
use Rattle.tlv_reader.specs.declared.Element.{Element}
use Rattle.tlv_reader.specs.Octet.{pick, structure, array, list}
use Rattle.tlv_reader.specs.Tree.{Tree, Trees, tag_of}
use Rattle.tlv_reader.specs.Tree.Tree.{container}
use Rattle.tlv_reader.specs.Head.{head_at}
use Rattle.tlv_reader.specs.Walk.{Got, map_g, bind_g, headed, fold_at}
use Rattle.tlv_reader.specs.Walk.Got.{got, bad}
use Rattle.tlv_reader.specs.Decode.{place, fold_t, trees_from, tree_by, tree_of, trees_at, tree_at}
use Rattle.tlv_reader.proofs.Picks.{choose-elim}
use Rattle.im_members.specs.Array.{each_step, each_t}
use Rattle.im_members.proofs.ArrayLaws.{each-law, plain}
use Rattle.im_requests.specs.Message.{snoc, list_t, list_at}

map_snoc : {A B : Type 0} (β : A → B) (l : List A) (a : A) → map β (snoc l a) ≡ snoc (map β l) (β a)
map_snoc β [] a = refl
map_snoc β (x ∷ l) a = ap (λ r. β x ∷ r) (map_snoc β l a)

bind-map : {A B C : Type 0} (f : A → B) (k : B → ℕ → Got C) (g : Got A) → bind_g (map_g f g) k ≡ bind_g g (λ a n. k (f a) n)
bind-map f k bad = refl
bind-map f k (got a n) = refl

bind-nothing : {A B : Type 0} (f : A → Option B) (g : Got A) → ((a : A) → f a ≡ None) → bind_g g (λ a n. place (f a) n) ≡ bad
bind-nothing f bad e = refl
bind-nothing f (got a n) e = ap (λ o. place o n) (e a)

module _ {A B : Type 0} (β : A → B) (means : Tree → Option B) where
  by-list : (s : List ℕ) (inner : ℕ → Got (List A)) (inner' : ℕ → ℕ → Got Trees) → ((n : ℕ) → map_g (map β) (inner n) ≡ bind_g (inner' array n) (λ ts n. place (fold_t (each_t snoc means) [] ts) n)) → (e : Element) → map_g (map β) (pick (eqb e.kind array) (inner e.next.at) bad) ≡ bind_g (tree_by s inner' e) (λ t n. place (list_t means t) n)
  unfolding tree_by
  by-list s inner inner' q e =
      let R : Got Tree → Type 0 = λ g. map_g (map β) (pick (eqb e.kind array) (inner e.next.at) bad) ≡ bind_g g (λ t n. place (list_t means t) n) in
      choose-elim R (ltb e.kind structure) _ _ (λ l. (let m = ltb-true e.kind structure l in simp (ne_eqb e.kind array (λ z. omega arith))))
      (λ l. choose-elim R (ltb list e.kind) _ _ (λ z. (let w = ltb-true list e.kind z in simp (ne_eqb e.kind array (λ y. omega arith)))) (λ z. go (eqb e.kind array) refl))
    where
      go : (a : Bool) → eqb e.kind array ≡ a → map_g (map β) (pick (eqb e.kind array) (inner e.next.at) bad) ≡ bind_g (map_g (container (tag_of e.form e.tag) e.kind) (inner' e.kind e.next.at)) (λ t n. place (list_t means t) n)
      go true z =
          rw (eqb-true e.kind array z)
          (q e.next.at ∙ sym (bind-map (container (tag_of e.form e.tag) array) (λ t n. place (list_t means t) n) (inner' array e.next.at)))
      go false z = rw z (sym (bind-map (container (tag_of e.form e.tag) e.kind) (λ t n. place (list_t means t) n) (inner' e.kind e.next.at) ∙ bind-nothing (λ ts. list_t means (container (tag_of e.form e.tag) e.kind ts)) (inner' e.kind e.next.at) (λ ts. simp z)))

  module _ (read : ℕ → List ℕ → ℕ → Got A) (d : ℕ) (s : List ℕ) (law : (at : ℕ) → map_g β (read d s at) ≡ bind_g (tree_at d s at) (λ t n. place (means t) n)) where
    headed-list : (h : (Option Element)) → map_g (map β) (headed bad (λ e. pick (eqb e.kind array) (fold_at (each_step snoc (read d s)) (length s) s array [] e.next.at) bad) h) ≡ bind_g (headed bad (tree_of (suc d) s) h) (λ t n. place (list_t means t) n)
    unfolding tree_of trees_at
    headed-list None = refl
    headed-list (Some e) = by-list s (λ n. fold_at (each_step snoc (read d s)) (length s) s array [] n) (λ k n. trees_from (tree_of d s) (length s) s k n) (λ n. each-law β d s (read d s) means law snoc (map β) snoc (map_snoc β) [] array n) e

    pub list_law : (at : ℕ) → map_g (map β) (list_at read (suc d) s at) ≡ bind_g (tree_at (suc d) s at) (λ t n. place (list_t means t) n)
    unfolding list_at tree_at
    list_law at = headed-list (head_at s at)

-- for a reader that is itself the meaning
map-id : {A : Type 0} (l : List A) → map (λ x. x) l ≡ l
map-id [] = refl
map-id (x ∷ l) = ap (λ r. x ∷ r) (map-id l)

same-list : {A : Type 0} (g : Got (List A)) → map_g (map (λ x. x)) g ≡ g
same-list bad = refl
same-list (got l n) = ap (λ r. got r n) (map-id l)

pub list-plain : {A : Type 0} (read : ℕ → List ℕ → ℕ → Got A) (means : Tree → Option A) (d : ℕ) (s : List ℕ) → ((at : ℕ) → read d s at ≡ bind_g (tree_at d s at) (λ t n. place (means t) n)) → (at : ℕ) → list_at read (suc d) s at ≡ bind_g (tree_at (suc d) s at) (λ t n. place (list_t means t) n)
list-plain read means d s law at = sym (same-list (list_at read (suc d) s at)) ∙ list_law (λ x. x) means read d s (plain d s (read d s) means law) at
