-- What the reader accepts is exactly what spells a tree: at a position, and as a whole message.
use Rattle.std.specs.Prelude.{Some, None, Option}
use mathlib.Core.Path.{◌≡◌, refl, sym, ap, subst, ◌∙◌}
use mathlib.Core.Logic.{◌↔◌}
use mathlib.Core.Bool.{Bool, true, false}
use mathlib.Core.List.{List, [], ◌++◌, append-nil}
use Prim.Native.Nat.{ℕ, ◌+◌, ◌<◌}
use native.Mathlib.Omega.{arith}
use borrow.Author.Tests.{eqb-true, eq-eqb, ltb-false}
use lib.ListN.{length, take, drop, take-append-drop}
use lib.Seq.{drop-length, length-take-le}
use lib.Dec.{ltb, eqb}
use Rattle.base_bounds.specs.Bounds.{depth_limit}
use Rattle.base_octets.specs.Number.{Bytes}
use Rattle.tlv_reader.specs.declared.Element.{Element}
use Rattle.tlv_reader.specs.Octet.{pick, structure}
use Rattle.tlv_reader.specs.Tree.{Tag, Tree, Trees, tag_of, tagged, Spells, SpellsMessage, SpellsAt}
use Rattle.tlv_reader.specs.Tree.Tag.{anonymous}
use Rattle.tlv_reader.specs.Tree.Tree.{container}
use Rattle.tlv_reader.specs.Head.{head_at, element_of}
use Rattle.tlv_reader.specs.Walk.{Got, element_at, map_g, headed, element_end, ends_at, is_message}
use Rattle.tlv_reader.specs.Walk.Got.{got, bad}
use Rattle.tlv_reader.specs.Decode.{tree_of, trees_at, tree_at}
use Rattle.tlv_reader.proofs.WalkLaws.{message-is}
use Rattle.tlv_reader.proofs.TreeLaws.{passed, end-of-tree, end-at-tree, tree-container, tree-at, tree-inside}
use Rattle.tlv_reader.proofs.Completeness.{container-head, tagged-form, tree-back}
use Rattle.tlv_reader.proofs.Soundness.{Spelled, SpelledG, tree-sound}

-- a tag form that gives no tag is 0
no-tag : (f n : ℕ) → anonymous ≡ tag_of f n → f ≡ 0
no-tag f n e = let z : ltb 0 f ≡ false = sym (ap tagged e ∙ tagged-form f n) in omega (arith, ltb-false 0 f z)

-- ---- spelled, so accepted

pub message-accepted : (ts : Trees) (s : List ℕ) → SpellsMessage ts s → is_message s ≡ true
unfolding Spells
message-accepted ts s m =
    let w = m.spells in
    let whole : s ≡ [] ++ (s ++ []) = sym (append-nil s) in
    let h = container-head s 0 [] [] w whole refl in
    let back : tree_at depth_limit s 0 ≡ got (container anonymous structure ts) (0 + length s) = tree-back (container anonymous structure ts) depth_limit s 0 [] [] s m.spells m.within whole refl in
    let e = element_of w.form structure w.label 0 _ _ in
    let t : tree_of depth_limit s e ≡ got (container anonymous structure ts) (0 + length s) = sym (tree-at depth_limit s 0 0 h) ∙ back in
    let q : element_end depth_limit s e ≡ got tt (0 + length s) = end-of-tree depth_limit s e ∙ ap passed t in
    message-is s h (no-tag w.form w.label w.is-tag) refl ∙ ap (ends_at (length s)) q ∙ eq-eqb (0 + length s) (length s) (omega arith)

-- ---- accepted, so spelled

-- what an accepted message's head says
pub record Accepted (s : List ℕ) : Type 0 where
  pub e : Element
  pub reads : head_at s 0 ≡ Some e
  pub untagged : e.form ≡ 0
  pub structured : e.kind ≡ structure
  pub ends : element_end depth_limit s e ≡ got tt (length s)

end-there : (n : ℕ) (g : Got (Unit {0})) → ends_at n g ≡ true → g ≡ got tt n
end-there n bad q = absurd (let z : ◌≡◌ {A = ℕ} 0 1 = ap (λ (b : Bool). pick b 1 0) q in omega arith)
end-there n (got x m) q = ap (got tt) (eqb-true m n q)

never : {A : Type 0} → false ≡ true → A
never q = absurd (let z : ◌≡◌ {A = ℕ} 0 1 = ap (λ (b : Bool). pick b 1 0) q in omega arith)

accepted-head : (s : List ℕ) (h : (Option Element)) → head_at s 0 ≡ h → headed false (λ e. pick (eqb e.form 0) (pick (eqb e.kind structure) (ends_at (length s) (element_end depth_limit s e)) false) false) h ≡ true → Accepted s
accepted-head s None q a = never a
accepted-head s (Some e) q a = form (eqb e.form 0) refl a
  where
    kind : e.form ≡ 0 → (b : Bool) → eqb e.kind structure ≡ b → pick b (ends_at (length s) (element_end depth_limit s e)) false ≡ true → Accepted s
    kind f true k a = record { e = e; reads = q; untagged = f; structured = eqb-true e.kind structure k; ends = end-there (length s) (element_end depth_limit s e) a }
    kind f false k a = never a

    form : (b : Bool) → eqb e.form 0 ≡ b → pick b (pick (eqb e.kind structure) (ends_at (length s) (element_end depth_limit s e)) false) false ≡ true → Accepted s
    form true f a = kind (eqb-true e.form 0 f) (eqb e.kind structure) refl a
    form false f a = never a

pub accepted : (s : List ℕ) → is_message s ≡ true → Accepted s
unfolding is_message
accepted s q = accepted-head s (head_at s 0) refl q

tag-none : (f n : ℕ) → f ≡ 0 → tag_of f n ≡ anonymous
unfolding tag_of
tag-none f n e = simp (eq-eqb f 0 e)

-- the trees of an accepted message's members
pub record Members (s : List ℕ) : Type 0 where
  pub members : Trees
  pub reads : tree_at depth_limit s 0 ≡ got (container anonymous structure members) (length s)

members-of : (tag : Tag) (kind n : ℕ) (g : Got Trees) → tag ≡ anonymous → kind ≡ structure → passed (map_g (container tag kind) g) ≡ got tt n → (ts : Trees) × (map_g (container tag kind) g ≡ got (container anonymous structure ts) n)
members-of tag kind n bad t k q = absurd (let z : ◌≡◌ {A = ℕ} 0 1 = cc in omega arith)
members-of tag kind n (got ts m) t k q = (ts, (let e : m ≡ n = cc in cc))

pub message-members : (s : List ℕ) → is_message s ≡ true → Members s
message-members s q =
    let a = accepted s q in
    let e = a.e in
    let c = tree-container 9 s e (omega (arith, a.structured)) (omega (arith, a.structured)) in
    let p = sym (ap passed c) ∙ sym (end-of-tree depth_limit s e) ∙ a.ends in
    let m = members-of (tag_of e.form e.tag) e.kind (length s) (trees_at 9 s e.kind e.next.at) (tag-none e.form e.tag a.untagged) a.structured p in
    record { members = m.0; reads = tree-at depth_limit s 0 0 a.reads ∙ c ∙ m.1 }

pub message-spelled : (s : List ℕ) → Bytes s → is_message s ≡ true → (ts : Trees) × SpellsMessage ts s
message-spelled s hs q =
    let m = message-members s q in
    let w : Spelled depth_limit s 0 (container anonymous structure m.members) (length s) = subst (SpelledG depth_limit s 0) m.reads (tree-sound depth_limit s hs 0) in
    let whole : s ≡ w.bytes = w.splits ∙ rw (drop-length s) (append-nil w.bytes) in
    (m.members, record { spells = subst (Spells (container anonymous structure m.members)) (sym whole) w.spells; within = w.within })

-- THE LAW: the reader accepts exactly the spellings of a message
pub message-exact : (s : List ℕ) → Bytes s → is_message s ≡ true ↔ ((ts : Trees) × SpellsMessage ts s)
message-exact s hs = (message-spelled s hs, λ m. message-accepted m.0 s m.1)

element-spelled : (d : ℕ) (s : List ℕ) → Bytes s → (at n : ℕ) → element_at d s at ≡ got tt n → SpellsAt d s at n
element-spelled d s hs at n q = go (tree_at d s at) refl (tree-sound d s hs at)
  where
    fact : (t : Tree) (m : ℕ) → tree_at d s at ≡ got t m → Spelled d s at t m → m ≡ n → SpellsAt d s at n
    fact t m e w mn =
        let l : at < length s = tree-inside d s at e in
        record {
          tree = t;
          before = take at s;
          bytes = w.bytes;
          after = drop m s;
          spells = w.spells;
          within = w.within;
          whole = sym (take-append-drop at s) ∙ ap (λ (r : List ℕ). take at s ++ r) w.splits;
          starts = sym (length-take-le at s (omega arith));
          ends = sym mn ∙ w.is-end;
        }

    go : (g : Got Tree) → tree_at d s at ≡ g → SpelledG d s at g → SpellsAt d s at n
    go bad e w = absurd (let z : got tt n ≡ bad = sym q ∙ end-at-tree d s at ∙ ap passed e in let y : ◌≡◌ {A = ℕ} 0 1 = cc in omega arith)
    go (got t m) e w = fact t m e w (let z : got tt n ≡ got tt m = sym q ∙ end-at-tree d s at ∙ ap passed e in cc)

element-accepted : (d : ℕ) (s : List ℕ) (at n : ℕ) → SpellsAt d s at n → element_at d s at ≡ got tt n
element-accepted d s at n w =
    end-at-tree d s at ∙ ap passed (tree-back w.tree d s at w.before w.after w.bytes w.spells w.within w.whole w.starts) ∙ ap (got tt) (sym w.ends)

-- and, at a position, exactly the spellings of some tree that nests at most so deep
pub element-exact : (d : ℕ) (s : List ℕ) → Bytes s → (at n : ℕ) → element_at d s at ≡ got tt n ↔ SpellsAt d s at n
element-exact d s hs at n = (element-spelled d s hs at n, element-accepted d s at n)
