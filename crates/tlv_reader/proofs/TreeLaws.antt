-- The tree at a position: the equation with no bound, THE LAW that lifts what a step does to a member to the members, and that
-- the walk ends where the tree does.
use Rattle.std.specs.Prelude.{Some, None, Option}
use mathlib.Core.Path.{◌≡◌, refl, sym, ap, subst, ◌∙◌}
use mathlib.Core.Bool.{true}
use mathlib.Core.List.{List}
use Prim.Native.Nat.{ℕ, zero, suc, ◌+◌, ◌<◌, ◌≤◌}
use native.Mathlib.Omega.{arith}
use borrow.Author.Tests.{eq-eqb, ne_eqb, le-ltb, lt-ltb}
use lib.ListN.{length, take, drop}
use lib.Dec.{ltb, eqb}
use Rattle.tlv_reader.specs.declared.Element.{Element}
use Rattle.tlv_reader.specs.Octet.{structure, list, end_of_container}
use Rattle.tlv_reader.specs.Tree.{Tree, Trees, tag_of, primitive_of}
use Rattle.tlv_reader.specs.Tree.Tree.{primitive, container}
use Rattle.tlv_reader.specs.Tree.Trees.{none, more}
use Rattle.tlv_reader.specs.Head.{head_at}
use Rattle.tlv_reader.specs.Walk.{Got, map_g, bind_g, allowed_in, fold_by, fold_at, element_by, element_end, members_end, headed, element_at}
use Rattle.tlv_reader.specs.Walk.Got.{got, bad}
use Rattle.tlv_reader.specs.Decode.{trees_by, trees_from, tree_by, tree_of, trees_at, tree_at, place, bind_o, fold_t}
use Rattle.tlv_reader.proofs.Picks.{choose-elim, choose-two}
use Rattle.tlv_reader.proofs.HeadLaws.{Onward, head-onward, no-head}
use Rattle.tlv_reader.proofs.FoldLaws.{Ahead, ahead-from, ahead-map, ahead-bind, bind-same, Forward}

-- ---- the law of the fold

bind-map : {A B C : Type 0} (f : A → B) (k : B → ℕ → Got C) (g : Got A) → bind_g (map_g f g) k ≡ bind_g g (λ a n. k (f a) n)
bind-map f k bad = refl
bind-map f k (got a n) = refl

bind-bad : {A B : Type 0} (g : Got A) → ◌≡◌ {A = Got B} (bind_g g (λ a n. bad)) bad
bind-bad bad = refl
bind-bad (got a n) = refl

module _ {S T : Type 0} (α : S → T) (m : T → Tree → Option T) where
  bind-law : (x : S) (g : Got S) (h : Got Tree) (rest : S → ℕ → Got S) (rest' : ℕ → Got Trees) → map_g α g ≡ bind_g h (λ t n. place (m (α x) t) n) → ((y : S) (n : ℕ) → map_g α (rest y n) ≡ bind_g (rest' n) (λ ts k. place (fold_t m (α y) ts) k)) → map_g α (bind_g g rest) ≡ bind_g (bind_g h (λ t n. map_g (more t) (rest' n))) (λ ts k. place (fold_t m (α x) ts) k)
  unfolding fold_t
  bind-law x bad bad rest rest' e r = refl
  bind-law x (got y n) bad rest rest' e r = absurd (let z : ◌≡◌ {A = ℕ} 0 1 = cc in omega arith)
  bind-law x g (got t n) rest rest' e r = go g (m (α x) t) e ∙ sym (bind-map (more t) (λ ts k. place (fold_t m (α x) ts) k) (rest' n))
    where
      go : (g : Got S) (o : Option T) → map_g α g ≡ place o n → map_g α (bind_g g rest) ≡ bind_g (rest' n) (λ ts k. place (bind_o o (λ y. fold_t m y ts)) k)
      go bad None e = sym (bind-bad (rest' n))
      go bad (Some z) e = absurd (let z : ◌≡◌ {A = ℕ} 0 1 = cc in omega arith)
      go (got y p) None e = absurd (let z : ◌≡◌ {A = ℕ} 0 1 = cc in omega arith)
      go (got y p) (Some z) e = let ey : α y ≡ z = cc in let ep : p ≡ n = cc in r y p ∙ rw (ey, ep) refl

  by-law : (kind : ℕ) (x : S) (here : Element → Got S) (here' : Element → Got Tree) (rest : S → ℕ → Got S) (rest' : ℕ → Got Trees) (h : (Option Element)) → ((e : Element) → h ≡ Some e → map_g α (here e) ≡ bind_g (here' e) (λ t n. place (m (α x) t) n)) → ((y : S) (n : ℕ) → map_g α (rest y n) ≡ bind_g (rest' n) (λ ts k. place (fold_t m (α y) ts) k)) → map_g α (fold_by kind x here rest h) ≡ bind_g (trees_by kind here' rest' h) (λ ts n. place (fold_t m (α x) ts) n)
  unfolding fold_by trees_by fold_t
  by-law kind x here here' rest rest' None q r = refl
  by-law kind x here here' rest rest' (Some e) q r =
      let G : Got Trees → Got T = λ g. bind_g g (λ ts n. place (fold_t m (α x) ts) n) in
      choose-two (map_g α) G (eqb e.kind end_of_container) _ _ _ _ refl
      (choose-two (map_g α) G (allowed_in kind e.form) _ _ _ _ (bind-law x (here e) (here' e) rest rest' (q e refl) r) refl)

  -- THE LAW: a step that does to a member what m does to its tree does to the members what m does to their trees
  pub fold_law : (step : S → ℕ → Element → Got S) (el : Element → Got Tree) (s : List ℕ) (kind : ℕ) → ((x : S) (at : ℕ) (e : Element) → head_at s at ≡ Some e → map_g α (step x at e) ≡ bind_g (el e) (λ t n. place (m (α x) t) n)) → (f : ℕ) (x : S) (at : ℕ) → map_g α (fold_at step f s kind x at) ≡ bind_g (trees_from el f s kind at) (λ ts n. place (fold_t m (α x) ts) n)
  unfolding fold_at trees_from
  fold_law step el s kind q zero x at = refl
  fold_law step el s kind q (suc f) x at =
      by-law kind x (step x at) el (λ y n. fold_at step f s kind y n) (λ n. trees_from el f s kind n) (head_at s at) (q x at) (λ y n. fold_law step el s kind q f y n)

-- ---- the walk ends where the tree does

abbrev pub passed : {A : Type 0} → Got A → Got (Unit {0})
passed bad = bad
passed (got a n) = got tt n

passed-map : {A B : Type 0} (f : A → B) (g : Got A) → passed (map_g f g) ≡ passed g
passed-map f bad = refl
passed-map f (got a n) = refl

passed-unit : (g : Got (Unit {0})) → map_g (λ x. tt) g ≡ g
passed-unit bad = refl
passed-unit (got x n) = refl

as-bind : {A : Type 0} (g : Got A) → passed g ≡ bind_g g (λ a n. place (Some tt) n)
as-bind bad = refl
as-bind (got a n) = refl

abbrev skip : Unit {0} → Tree → Option (Unit {0})
skip x t = Some tt

skip_all : (ts : Trees) → fold_t skip tt ts ≡ Some tt
unfolding fold_t
skip_all none = refl
skip_all (more t ts) = skip_all ts

bind-skip : (g : Got Trees) → bind_g g (λ ts n. place (fold_t skip tt ts) n) ≡ passed g
bind-skip bad = refl
bind-skip (got ts n) = ap (λ (o : Option (Unit {0})). place o n) (skip_all ts)

by-passed : (s : List ℕ) (inner : ℕ → ℕ → Got (Unit {0})) (inner' : ℕ → ℕ → Got Trees) (e : Element) → ((k n : ℕ) → inner k n ≡ passed (inner' k n)) → element_by inner e ≡ passed (tree_by s inner' e)
unfolding element_by tree_by
by-passed s inner inner' e q =
    choose-two (λ g. g) passed (ltb e.kind structure) _ _ _ _ refl
    (choose-two (λ g. g) passed (ltb list e.kind) _ _ _ _ refl (q e.kind e.next.at ∙ sym (passed-map (container (tag_of e.form e.tag) e.kind) (inner' e.kind e.next.at))))

members-passed : (d : ℕ) (s : List ℕ) → ((e : Element) → element_end d s e ≡ passed (tree_of d s e)) → (kind at : ℕ) → fold_at (λ x p e. element_end d s e) (length s) s kind tt at ≡ passed (trees_from (tree_of d s) (length s) s kind at)
members-passed d s q kind at =
    sym (passed-unit (fold_at (λ x p e. element_end d s e) (length s) s kind tt at))
    ∙ fold_law (λ x. tt) skip (λ x p e. element_end d s e) (tree_of d s) s kind (λ x p e h. passed-unit (element_end d s e) ∙ q e ∙ as-bind (tree_of d s e)) (length s) tt at
    ∙ bind-skip (trees_from (tree_of d s) (length s) s kind at)

pub end-of-tree : (d : ℕ) (s : List ℕ) (e : Element) → element_end d s e ≡ passed (tree_of d s e)
unfolding element_end tree_of
end-of-tree zero s e = by-passed s (λ k n. bad) (λ k n. bad) e (λ k n. refl)
end-of-tree (suc d) s e =
    by-passed s (λ k n. fold_at (λ x p m. element_end d s m) (length s) s k tt n) (λ k n. trees_from (tree_of d s) (length s) s k n) e (λ k n. members-passed d s (end-of-tree d s) k n)

pub end-of-trees : (d : ℕ) (s : List ℕ) (kind at : ℕ) → members_end d s kind at ≡ passed (trees_at d s kind at)
unfolding members_end trees_at
end-of-trees d s kind at = members-passed d s (end-of-tree d s) kind at

headed-passed : (d : ℕ) (s : List ℕ) (h : (Option Element)) → headed bad (element_end d s) h ≡ passed (headed bad (tree_of d s) h)
headed-passed d s None = refl
headed-passed d s (Some e) = end-of-tree d s e

pub end-at-tree : (d : ℕ) (s : List ℕ) (at : ℕ) → element_at d s at ≡ passed (tree_at d s at)
unfolding element_at tree_at
end-at-tree d s at = headed-passed d s (head_at s at)

-- ---- the trees of the members, with no bound

by-trees-ahead : (at n kind : ℕ) (here : Element → Got Tree) (rest : ℕ → Got Trees) (h : (Option Element)) → Onward at n h → ((e : Element) → h ≡ Some e → Ahead at n (here e)) → ((p : ℕ) → Ahead p n (rest p)) → Ahead at n (trees_by kind here rest h)
unfolding trees_by
by-trees-ahead at n kind here rest None o w r = tt
by-trees-ahead at n kind here rest (Some e) o w r =
    choose-elim (Ahead at n) (eqb e.kind end_of_container) _ _ (λ _. o)
    (λ _. choose-elim (Ahead at n) (allowed_in kind e.form) _ _ (λ _. ahead-bind at n (here e) (λ t p. map_g (more t) (rest p)) (w e refl) (λ t p. ahead-map p n (more t) (rest p) (r p))) (λ _. tt))

trees-ahead : (el : Element → Got Tree) (s : List ℕ) → Forward s (λ p e. el e) → (f kind at : ℕ) → Ahead at (length s) (trees_from el f s kind at)
unfolding trees_from
trees-ahead el s h zero kind at = tt
trees-ahead el s h (suc f) kind at = by-trees-ahead at (length s) kind el (λ n. trees_from el f s kind n) (head_at s at) (head-onward s at) (h at) (λ p. trees-ahead el s h f kind p)

by-tree-ahead : (s : List ℕ) (at n : ℕ) (inner : ℕ → ℕ → Got Trees) (e : Element) → Onward at n (Some e) → ((k p : ℕ) → Ahead p n (inner k p)) → Ahead at n (tree_by s inner e)
unfolding tree_by
by-tree-ahead s at n inner e o r =
    choose-elim (Ahead at n) (ltb e.kind structure) _ _ (λ _. o)
    (λ _. choose-elim (Ahead at n) (ltb list e.kind) _ _ (λ _. tt)
    (λ _. ahead-map at n (container (tag_of e.form e.tag) e.kind) (inner e.kind e.next.at) (ahead-from at e.next.at n (inner e.kind e.next.at) o.0 (r e.kind e.next.at))))

pub tree-forward : (d : ℕ) (s : List ℕ) → Forward s (λ p e. tree_of d s e)
unfolding tree_of
tree-forward zero s p e h = by-tree-ahead s p (length s) (λ k n. bad) e (subst (Onward p (length s)) h (head-onward s p)) (λ k q. tt)
tree-forward (suc d) s p e h =
    by-tree-ahead s p (length s) (λ k n. trees_from (tree_of d s) (length s) s k n) e (subst (Onward p (length s)) h (head-onward s p))
    (λ k q. trees-ahead (tree_of d s) s (tree-forward d s) (length s) k q)

by-trees-same : (at n kind : ℕ) (here : Element → Got Tree) (rest rest' : ℕ → Got Trees) (h : (Option Element)) → ((e : Element) → h ≡ Some e → Ahead at n (here e)) → ((p : ℕ) → at < p → rest p ≡ rest' p) → trees_by kind here rest h ≡ trees_by kind here rest' h
unfolding trees_by
by-trees-same at n kind here rest rest' None w q = refl
by-trees-same at n kind here rest rest' (Some e) w q =
    simp (bind-same at n (here e) (λ t p. map_g (more t) (rest p)) (λ t p. map_g (more t) (rest' p)) (w e refl) (λ t p l. ap (map_g (more t)) (q p l)))

trees-fuel : (el : Element → Got Tree) (s : List ℕ) → Forward s (λ p e. el e) → (f g kind at : ℕ) → length s ≤ at + f → length s ≤ at + g → trees_from el f s kind at ≡ trees_from el g s kind at
unfolding trees_from trees_by
trees-fuel el s h zero zero kind at a b = refl
trees-fuel el s h zero (suc g) kind at a b = simp (no-head s at (omega arith))
trees-fuel el s h (suc f) zero kind at a b = simp (no-head s at (omega arith))
trees-fuel el s h (suc f) (suc g) kind at a b =
    by-trees-same at (length s) kind el (λ n. trees_from el f s kind n) (λ n. trees_from el g s kind n) (head_at s at) (h at)
    (λ p l. trees-fuel el s h f g kind p (omega arith) (omega arith))

-- THE EQUATION of the members' trees
pub trees-unroll : (d : ℕ) (s : List ℕ) (kind at : ℕ) → trees_at d s kind at ≡ trees_by kind (tree_of d s) (λ n. trees_at d s kind n) (head_at s at)
unfolding trees_at trees_from
trees-unroll d s kind at = trees-fuel (tree_of d s) s (tree-forward d s) (length s) (suc (length s)) kind at (omega arith) (omega arith)

-- ---- case by case

module _ (d : ℕ) (s : List ℕ) (e : Element) where
  pub tree-primitive : e.kind < structure → tree_of d s e ≡ got (primitive (tag_of e.form e.tag) (primitive_of e.kind e.number (take e.number (drop e.body s)))) e.next.at
  unfolding tree_by tree_of
  tree-primitive l =
      elim d as (λ f. tree_of f s e ≡ got (primitive (tag_of e.form e.tag) (primitive_of e.kind e.number (take e.number (drop e.body s)))) e.next.at)
      [ zero ↦ simp (lt-ltb _ _ l) | suc f ↦ simp (lt-ltb _ _ l) ]

  pub tree-container : structure ≤ e.kind → e.kind ≤ list → tree_of (suc d) s e ≡ map_g (container (tag_of e.form e.tag) e.kind) (trees_at d s e.kind e.next.at)
  unfolding tree_by tree_of trees_at
  tree-container l u = simp (le-ltb _ _ l, le-ltb _ _ u)

module _ (d : ℕ) (s : List ℕ) (kind at : ℕ) {e : Element} (h : head_at s at ≡ Some e) where
  pub trees-ended : e.kind ≡ end_of_container → trees_at d s kind at ≡ got none e.next.at
  unfolding trees_by
  trees-ended q = trees-unroll d s kind at ∙ simp (h, eq-eqb _ _ q)

  pub trees-more : {t : Tree} {n : ℕ} → (e.kind ≡ end_of_container → ⊥) → allowed_in kind e.form ≡ true → tree_of d s e ≡ got t n → trees_at d s kind at ≡ map_g (more t) (trees_at d s kind n)
  unfolding trees_by
  trees-more q a w = trees-unroll d s kind at ∙ simp (h, ne_eqb _ _ q, a, w)

  pub tree-at : tree_at d s at ≡ tree_of d s e
  unfolding tree_at
  tree-at = simp h

-- a tree stands inside the message
pub tree-inside : (d : ℕ) (s : List ℕ) (at : ℕ) {t : Tree} {n : ℕ} → tree_at d s at ≡ got t n → at < length s
unfolding tree_at
tree-inside d s at q = go (head_at s at) refl q
  where
    go : {t : Tree} {n : ℕ} (h : (Option Element)) → head_at s at ≡ h → headed bad (tree_of d s) h ≡ got t n → at < length s
    go None e w = absurd (let z : ◌≡◌ {A = ℕ} 0 1 = cc in omega arith)
    go (Some e) h w = let o = subst (Onward at (length s)) h (head-onward s at) in omega arith
