-- Members that a schema reads, and arrays of them: a reader of one makes a reader of all.
use Rattle.std.specs.Prelude.{Some, None, Option}
use mathlib.Core.Path.{◌≡◌, refl, sym, ap, ◌∙◌}
use mathlib.Core.Bool.{Bool, true, false}
use mathlib.Core.List.{List, map}
use Prim.Native.Nat.{ℕ, zero, suc, ◌-◌, ◌<◌, ◌≤◌}
use native.Mathlib.Omega.{arith}
use borrow.Author.Tests.{eq-eqb, ne_eqb}
use lib.ListN.{length, get_or}
use Rattle.tlv_reader.specs.declared.Element.{Element}
use Rattle.tlv_reader.specs.Octet.{end_of_container}
use Rattle.tlv_reader.specs.Tree.{Tree}
use Rattle.tlv_reader.specs.Tree.Tag.{anonymous}
use Rattle.tlv_reader.specs.Tree.Tree.{container}
use Rattle.tlv_reader.specs.Tree.Trees.{none}
use Rattle.tlv_reader.specs.Head.{head_at}
use Rattle.tlv_reader.specs.Walk.{Got, map_g, bind_g, allowed_in, fold_at}
use Rattle.tlv_reader.specs.Walk.Got.{got, bad}
use Rattle.tlv_reader.specs.Decode.{place, bind_o, fold_t, tree_of, trees_at, tree_at}
use Rattle.tlv_reader.proofs.FoldLaws.{Ahead, Forward, fold-none, fold-ends, fold-barred, fold-breaks, fold_on}
use Rattle.tlv_reader.proofs.TreeLaws.{fold_law, tree-forward, tree-at}
use Rattle.im_members.specs.Fields.{or_none, slot_in}
use Rattle.im_members.specs.Fields.Slot.{absent}
use Rattle.im_members.specs.Scalar.{number_in, flag_in, wide_in, number_t, flag_t, wide_t}
use Rattle.im_members.specs.Array.{opt_of, map_o, required_in, required_t, optional_in, each_step, each_t}
use Rattle.im_members.proofs.ScalarLaws.{number-law, flag-law, wide-law}
use Rattle.im_members.proofs.MeaningLaws.{at_place}

-- ---- scalars in the slots of a schema

module _ (d : ℕ) (s : List ℕ) (xs : List ℕ) where
  pub number-here : (most : ℕ) (nullable : Bool) (i : ℕ) → number_in most nullable s (get_or xs i 0) ≡ number_t most nullable (get_or (map (slot_in d s) xs) i absent)
  number-here most nullable i = number-law most nullable d s (get_or xs i 0) ∙ ap (number_t most nullable) (sym (at_place d s xs i))

  pub flag-here : (i : ℕ) → flag_in s (get_or xs i 0) ≡ flag_t (get_or (map (slot_in d s) xs) i absent)
  flag-here i = flag-law d s (get_or xs i 0) ∙ ap flag_t (sym (at_place d s xs i))

  pub wide-here : (i : ℕ) → wide_in s (get_or xs i 0) ≡ wide_t (get_or (map (slot_in d s) xs) i absent)
  wide-here i = wide-law d s (get_or xs i 0) ∙ ap wide_t (sym (at_place d s xs i))

-- ---- for any reader whose answer, seen through β, is the meaning of a tree

map_same : {A : Type 0} (g : Got A) → map_g (λ x. x) g ≡ g
map_same bad = refl
map_same (got a n) = refl

opt_same : {A : Type 0} (o : Option A) → map_o (λ x. x) o ≡ o
opt_same None = refl
opt_same (Some a) = refl

module _ {A B : Type 0} (β : A → B) (d : ℕ) (s : List ℕ) (read : ℕ → Got A) (means : Tree → Option B) (law : (at : ℕ) → map_g β (read at) ≡ bind_g (tree_at d s at) (λ t n. place (means t) n)) where
  module _ (no : means (container anonymous end_of_container none) ≡ None) where
    opt-map : (g : Got A) → map_o β (opt_of g) ≡ opt_of (map_g β g)
    opt-map bad = refl
    opt-map (got a n) = refl

    opt-law : (g : Got Tree) → opt_of (bind_g g (λ t n. place (means t) n)) ≡ means (or_none g)
    opt-law bad = sym no
    opt-law (got t n) = go (means t)
      where
        go : (o : Option B) → opt_of (place o n) ≡ o
        go (Some a) = refl
        go None = refl

    pub member-mapped : (p : ℕ) → map_o β (opt_of (read p)) ≡ means (or_none (tree_at d s p))
    member-mapped p = opt-map (read p) ∙ ap opt_of (law p) ∙ opt-law (tree_at d s p)

    pub required-mapped : (p : ℕ) → map_o β (required_in read p) ≡ required_t means (slot_in d s p)
    unfolding required_in required_t slot_in
    required-mapped zero = refl
    required-mapped (suc p) = let e : suc p - 1 ≡ p = omega arith in rw (ne_eqb (suc p) 0 (λ z. omega arith), e) (member-mapped p)

  unmapped : (at : ℕ) (g : Got A) → Ahead at (length s) (map_g β g) → Ahead at (length s) g
  unmapped at bad h = tt
  unmapped at (got a n) h = h

  put-ahead : (at : ℕ) (o : Option B) (n : ℕ) → (at < n) × (n ≤ length s) → Ahead at (length s) (place o n)
  put-ahead at (Some a) n h = h
  put-ahead at None n h = tt

  pub reader-forward : Forward s (λ at e. read at)
  reader-forward at e h = unmapped at (read at) (rw (law at, tree-at d s 0 at h) (go (tree_of d s e) (tree-forward d s at e h)))
    where
      go : (g : Got Tree) → Ahead at (length s) g → Ahead at (length s) (bind_g g (λ t n. place (means t) n))
      go bad o = tt
      go (got t n) o = put-ahead at (means t) n o

  module _ {S : Type 0} (add : S → A → S) where
    each-forward : (x : S) → Forward s (each_step add read x)
    unfolding each_step
    each-forward x at e h = go (read at) (reader-forward at e h)
      where
        go : (g : Got A) → Ahead at (length s) g → Ahead at (length s) (map_g (add x) g)
        go bad o = tt
        go (got a n) o = o

    module _ {T : Type 0} (α : S → T) (add' : T → B → T) (same : (x : S) (a : A) → α (add x a) ≡ add' (α x) (β a)) where
      each_step_lem : (x : S) (at : ℕ) (e : Element) → head_at s at ≡ Some e → map_g α (each_step add read x at e) ≡ bind_g (tree_of d s e) (λ t n. place (each_t add' means (α x) t) n)
      unfolding each_step each_t
      each_step_lem x at e h = through (read at) ∙ ap (map_g (add' (α x))) (law at ∙ ap (λ g. bind_g g (λ t n. place (means t) n)) (tree-at d s 0 at h)) ∙ go (tree_of d s e)
        where
          through : (g : Got A) → map_g α (map_g (add x) g) ≡ map_g (add' (α x)) (map_g β g)
          through bad = refl
          through (got a n) = ap (λ (y : T). got y n) (same x a)

          put : (o : Option B) (n : ℕ) → map_g (add' (α x)) (place o n) ≡ place (bind_o o (λ a. Some (add' (α x) a))) n
          put (Some a) n = refl
          put None n = refl

          go : (g : Got Tree) → map_g (add' (α x)) (bind_g g (λ t n. place (means t) n)) ≡ bind_g g (λ t n. place (bind_o (means t) (λ a. Some (add' (α x) a))) n)
          go bad = refl
          go (got t n) = put (means t) n

      -- THE LAW of an array
      pub each-law : (x : S) (kind at : ℕ) → map_g α (fold_at (each_step add read) (length s) s kind x at) ≡ bind_g (trees_at d s kind at) (λ ts n. place (fold_t (each_t add' means) (α x) ts) n)
      unfolding trees_at
      each-law x kind at = fold_law α (each_t add' means) (each_step add read) (tree_of d s) s kind each_step_lem (length s) x at

    -- for the code, case by case
    module _ (kind : ℕ) (x : S) (at : ℕ) where
      pub each_none : head_at s at ≡ None → fold_at (each_step add read) (length s) s kind x at ≡ bad
      each_none = fold-none (each_step add read) s each-forward kind x at

      module _ {e : Element} (h : head_at s at ≡ Some e) where
        pub each-ends : e.kind ≡ end_of_container → fold_at (each_step add read) (length s) s kind x at ≡ got x e.next.at
        each-ends = fold-ends (each_step add read) s each-forward kind x at h

        pub each-barred : (e.kind ≡ end_of_container → ⊥) → allowed_in kind e.form ≡ false → fold_at (each_step add read) (length s) s kind x at ≡ bad
        each-barred = fold-barred (each_step add read) s each-forward kind x at h

        pub each-breaks : (e.kind ≡ end_of_container → ⊥) → allowed_in kind e.form ≡ true → read at ≡ bad → fold_at (each_step add read) (length s) s kind x at ≡ bad
        unfolding each_step
        each-breaks q a w = fold-breaks (each_step add read) s each-forward kind x at h q a (simp w)

        pub each_on : {a : A} {n : ℕ} → (e.kind ≡ end_of_container → ⊥) → allowed_in kind e.form ≡ true → read at ≡ got a n → fold_at (each_step add read) (length s) s kind x at ≡ fold_at (each_step add read) (length s) s kind (add x a) n
        unfolding each_step
        each_on q b w = fold_on (each_step add read) s each-forward kind x at h q b (simp w)

-- ---- for a reader that is itself the meaning of a tree

module _ {A : Type 0} (d : ℕ) (s : List ℕ) (read : ℕ → Got A) (means : Tree → Option A) (law : (at : ℕ) → read at ≡ bind_g (tree_at d s at) (λ t n. place (means t) n)) where
  pub plain : (at : ℕ) → map_g (λ x. x) (read at) ≡ bind_g (tree_at d s at) (λ t n. place (means t) n)
  plain at = map_same (read at) ∙ law at

  pub required-here : means (container anonymous end_of_container none) ≡ None → (xs : List ℕ) (i : ℕ) → required_in read (get_or xs i 0) ≡ required_t means (get_or (map (slot_in d s) xs) i absent)
  required-here z xs i = sym (opt_same (required_in read (get_or xs i 0))) ∙ required-mapped (λ x. x) d s read means plain z (get_or xs i 0) ∙ ap (required_t means) (sym (at_place d s xs i))

-- ---- for the code: a member at a place

pub required-none : {A : Type 0} (read : ℕ → Got A) (p : ℕ) → p ≡ 0 → required_in read p ≡ None
unfolding required_in
required-none read p e = simp (eq-eqb p 0 e)

pub required-some : {A : Type 0} (read : ℕ → Got A) (p : ℕ) {g : Got A} → (p ≡ 0 → ⊥) → read (p - 1) ≡ g → required_in read p ≡ opt_of g
unfolding required_in
required-some read p n e = simp (ne_eqb p 0 n, e)

pub optional-none : {A : Type 0} (a : A) (read : ℕ → Got A) (p : ℕ) → p ≡ 0 → optional_in a read p ≡ Some a
unfolding optional_in
optional-none a read p e = simp (eq-eqb p 0 e)

pub optional-some : {A : Type 0} (a : A) (read : ℕ → Got A) (p : ℕ) {g : Got A} → (p ≡ 0 → ⊥) → read (p - 1) ≡ g → optional_in a read p ≡ opt_of g
unfolding optional_in
optional-some a read p n e = simp (ne_eqb p 0 n, e)
