-- The tree that stands at a position: what joins the walk of the code to the relation of spellings.
use Rattle.std.specs.Prelude.{ℕ, zero, suc, List, length, take, drop, ltb, eqb, Some, None, Option}
use Rattle.tlv_reader.specs.declared.Element.{Element}
use Rattle.tlv_reader.specs.Octet.{structure, list, end_of_container}
use Rattle.tlv_reader.specs.Tree.{Tree, Trees, tag_of, primitive_of}
use Rattle.tlv_reader.specs.Tree.Tree.{primitive, container}
use Rattle.tlv_reader.specs.Tree.Trees.{none, more}
use Rattle.tlv_reader.specs.Head.{head_at}
use Rattle.tlv_reader.specs.Walk.{Got, map_g, bind_g, choose, allowed_in, headed}
use Rattle.tlv_reader.specs.Walk.Got.{got, bad}

-- the trees of a container's members
unfoldable pub trees_by : ℕ → (Element → Got Tree) → (ℕ → Got Trees) → Option Element → Got Trees
trees_by kind here rest None = bad
trees_by kind here rest (Some e) =
    choose (eqb e.kind end_of_container) (λ _. got none e.next.at)
    (λ _. choose (allowed_in kind e.form) (λ _. bind_g (here e) (λ t n. map_g (more t) (rest n))) (λ _. bad))

unfoldable pub trees_from : (Element → Got Tree) → ℕ → List ℕ → ℕ → ℕ → Got Trees
trees_from el zero s kind at = bad
trees_from el (suc f) s kind at = trees_by kind el (λ n. trees_from el f s kind n) (head_at s at)

-- the tree of the element with this head
unfoldable pub tree_by : List ℕ → (ℕ → ℕ → Got Trees) → Element → Got Tree
tree_by s inner e =
    choose (ltb e.kind structure)
    (λ _. got (primitive (tag_of e.form e.tag) (primitive_of e.kind e.number (take e.number (drop e.body s)))) e.next.at)
    (λ _. choose (ltb list e.kind) (λ _. bad) (λ _. map_g (container (tag_of e.form e.tag) e.kind) (inner e.kind e.next.at)))

unfoldable pub tree_of : ℕ → List ℕ → Element → Got Tree
tree_of zero s e = tree_by s (λ k n. bad) e
tree_of (suc d) s e = tree_by s (λ k n. trees_from (tree_of d s) (length s) s k n) e

unfoldable pub trees_at : ℕ → List ℕ → ℕ → ℕ → Got Trees
trees_at d s kind at = trees_from (tree_of d s) (length s) s kind at

unfoldable pub tree_at : ℕ → List ℕ → ℕ → Got Tree
tree_at d s at = headed bad (tree_of d s) (head_at s at)

abbrev pub place : {A : Type 0} → Option A → ℕ → Got A
place (Some x) n = got x n
place None n = bad

abbrev pub bind_o : {A B : Type 0} → Option A → (A → Option B) → Option B
bind_o (Some x) f = f x
bind_o None f = None

-- the fold over members that are trees, for a step that may refuse
unfoldable pub fold_t : {S : Type 0} → (S → Tree → Option S) → S → Trees → Option S
fold_t m x none = Some x
fold_t m x (more t ts) = bind_o (m x t) (λ y. fold_t m y ts)
