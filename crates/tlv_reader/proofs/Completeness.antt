-- Whatever spells a tree, not too deep, is read as that tree, whatever stands before and after.
use Rattle.std.specs.Prelude.{Some, None}
use mathlib.Core.Path.{◌≡◌, refl, sym, ap, ◌∙◌}
use mathlib.Core.Bool.{Bool, true, false, not}
use mathlib.Core.List.{List, [], ◌∷◌, ◌++◌, append_assoc, append-nil}
use Prim.Native.Nat.{ℕ, zero, suc, ◌+◌, ◌-◌, ◌*◌, ◌/◌, ◌%◌, ◌^◌, ◌<◌, ◌≤◌}
use native.Mathlib.Omega.{arith}
use native.Mathlib.Nat.{one-le-pow}
use borrow.Author.Tests.{eqb-true, eqb-false, lt-ltb, le-ltb}
use lib.ListN.{length, get_or, take, drop, length-append}
use lib.Seq.{take_at, drop_at, get_or-append_seam}
use lib.Dec.{ltb, eqb}
use Rattle.base_octets.specs.Number.{bytes_of, number_at}
use Rattle.base_octets.proofs.NumberLaws.{length-bytes, number-here}
use Rattle.tlv_reader.specs.declared.Element.{Element}
use Rattle.tlv_reader.specs.Octet.{pick, tag_width, number_width, is_string, head_octets, structure, end_of_container}
use Rattle.tlv_reader.specs.Tree.{Tag, Primitive, Tree, Trees, depth, depths, tag_of, scalar_of, primitive_of, tag_of_tree, tagged, stands, SpellsPrimitive, Opens, Spells, SpellsAll}
use Rattle.tlv_reader.specs.Tree.Tag.{anonymous, context, common, implicit, full}
use Rattle.tlv_reader.specs.Tree.Primitive.{text, octets}
use Rattle.tlv_reader.specs.Tree.Tree.{primitive, container}
use Rattle.tlv_reader.specs.Tree.Trees.{none, more}
use Rattle.tlv_reader.specs.Head.{head_at, closed_at, element_of}
use Rattle.tlv_reader.specs.Walk.{map_g, allowed_in}
use Rattle.tlv_reader.specs.Walk.Got.{got}
use Rattle.tlv_reader.specs.Decode.{trees_at, tree_at}
use Rattle.tlv_reader.proofs.TreeLaws.{tree-primitive, tree-container, trees-ended, trees-more, tree-at}

-- ---- a head that is written is read again, wherever it stands

pub head-length : (f k t n : ℕ) → length (head_octets f k t n) ≡ 1 + tag_width f + number_width k
unfolding head_octets
head-length f k t n = let e = length-append (bytes_of (tag_width f) t) (bytes_of (number_width k) n) in omega (arith, length-bytes (tag_width f) t, length-bytes (number_width k) n)

-- the two numbers of a head that stands after p
tag-here : (p r : List ℕ) (c w n : ℕ) → n < 256 ^ w → number_at w (p ++ (c ∷ (bytes_of w n ++ r))) (length p + 1) ≡ n
tag-here p r c w n h =
    rw (← (append_assoc p (c ∷ []) (bytes_of w n ++ r))) (number-here (p ++ (c ∷ [])) r w n (length p + 1) (length-append p (c ∷ [])) h)

number-after : (p t r : List ℕ) (c k w n : ℕ) → length t ≡ k → n < 256 ^ w → number_at w (p ++ (c ∷ (t ++ (bytes_of w n ++ r)))) (length p + 1 + k) ≡ n
number-after p t r c k w n e h =
    rw (← (append_assoc p (c ∷ t) (bytes_of w n ++ r)))
    (number-here (p ++ (c ∷ t)) r w n (length p + 1 + k) (omega (arith, length-append p (c ∷ t))) h)

end-untagged : (form kind : ℕ) → (kind ≡ 24 → form ≡ 0) → pick (eqb kind 24) (ltb 0 form) false ≡ false
end-untagged form kind h = go (eqb kind 24) refl
  where
    go : (b : Bool) → eqb kind 24 ≡ b → pick b (ltb 0 form) false ≡ false
    go true e = let z = h (eqb-true kind 24 e) in le-ltb 0 form (omega arith)
    go false e = refl

closed-back : (len form kind tag number body n : ℕ) → n ≡ pick (is_string kind) number 0 → body + n ≤ len → closed_at len form kind tag number body ≡ Some (element_of form kind tag number body (body + n))
unfolding closed_at
closed-back len form kind tag number body n h fits = go (is_string kind) refl
  where
    go : (b : Bool) → is_string kind ≡ b → pick b (pick (ltb (len - body) number) None (Some (element_of form kind tag number body (body + number)))) (Some (element_of form kind tag number body body)) ≡ Some (element_of form kind tag number body (body + n))
    go true q = let z : n ≡ number = h ∙ ap (λ (b : Bool). pick b number 0) q in simp (z, le-ltb (len - body) number (omega arith))
    go false q = let z : body ≡ body + n = omega (arith, h ∙ ap (λ (b : Bool). pick b number 0) q) in ap (λ (k : ℕ). Some (element_of form kind tag number body k)) z

head-back : (p body q : List ℕ) (form kind tag number : ℕ) → form < 8 → kind < 25 → (kind ≡ 24 → form ≡ 0) → tag < 256 ^ tag_width form → number < 256 ^ number_width kind → length body ≡ pick (is_string kind) number 0 →
    head_at (p ++ ((form * 32 + kind) ∷ (bytes_of (tag_width form) tag ++ (bytes_of (number_width kind) number ++ (body ++ q))))) (length p) ≡ Some (element_of form kind tag number (length p + 1 + tag_width form + number_width kind) (length p + 1 + tag_width form + number_width kind + length body))
unfolding head_at
head-back p body q form kind tag number hf hk he ht hn hb =
    let c : ℕ = form * 32 + kind in
    let t : List ℕ = bytes_of (tag_width form) tag in
    let v : List ℕ = bytes_of (number_width kind) number in
    let s : List ℕ = p ++ (c ∷ (t ++ (v ++ (body ++ q)))) in
    let len : length s ≡ length p + suc (tag_width form + (number_width kind + (length body + length q))) = simp (length-append, length-bytes) in
    let g : get_or s (length p) 0 ≡ c = get_or-append_seam p c (t ++ (v ++ (body ++ q))) 0 in
    let ef : c / 32 ≡ form = omega arith in
    let ek : c % 32 ≡ kind = omega arith in
    let e1 : ltb (length p) (length s) ≡ true = lt-ltb (length p) (length s) (omega arith) in
    let e2 : ltb 24 kind ≡ false = le-ltb 24 kind (omega arith) in
    let e3 : pick (eqb kind 24) (ltb 0 form) false ≡ false = end-untagged form kind he in
    let e4 : ltb (length s - (length p + 1)) (tag_width form + number_width kind) ≡ false = le-ltb (length s - (length p + 1)) (tag_width form + number_width kind) (omega arith) in
    let nt = tag-here p (v ++ (body ++ q)) c (tag_width form) tag ht in
    let nv = number-after p t (body ++ q) c (tag_width form) (number_width kind) number (length-bytes (tag_width form) tag) hn in
    simp (e1, g, ef, ek, e2, e3, e4, nt, nv) (closed-back (length s) form kind tag number (length p + 1 + tag_width form + number_width kind) (length body) hb (omega arith))

-- where a head's octets stand at a position, followed by its body
pub head_at_lem : (s : List ℕ) (at : ℕ) (p body q : List ℕ) (f k t n : ℕ) → s ≡ p ++ (head_octets f k t n ++ (body ++ q)) → at ≡ length p → f < 8 → k < 25 → (k ≡ 24 → f ≡ 0) → t < 256 ^ tag_width f → n < 256 ^ number_width k → length body ≡ pick (is_string k) n 0 →
    head_at s at ≡ Some (element_of f k t n (at + length (head_octets f k t n)) (at + length (head_octets f k t n) + length body))
unfolding head_octets
head_at_lem s at p body q f k t n es ea a b c d e g =
    let hl = head-length f k t n in
    let e1 : length p + 1 + tag_width f + number_width k ≡ length p + length (head_octets f k t n) = omega arith in
    rw (es, ea) (rw append_assoc (head-back p body q f k t n a b c d e g ∙ ap (λ (j : ℕ). Some (element_of f k t n j (j + length body))) e1))

-- ---- tags

-- a tag form says whether there is a tag
pub tagged-form : (f n : ℕ) → tagged (tag_of f n) ≡ ltb 0 f
unfolding tag_of
tagged-form f n = go (eqb f 0) refl
  where
    rest : (a b c : Bool) → tagged (pick a (context n) (pick b (common n) (pick c (implicit n) (full (n % 65536) (n / 65536 % 65536) (n / 4294967296))))) ≡ true
    rest true b c = refl
    rest false true c = refl
    rest false false true = refl
    rest false false false = refl

    go : (b : Bool) → eqb f 0 ≡ b → tagged (pick b anonymous (pick (eqb f 1) (context n) (pick (ltb f 4) (common n) (pick (ltb f 6) (implicit n) (full (n % 65536) (n / 65536 % 65536) (n / 4294967296)))))) ≡ ltb 0 f
    go true e = let z = eqb-true f 0 e in sym (le-ltb 0 f (omega arith))
    go false e = rest (eqb f 1) (ltb f 4) (ltb f 6) ∙ sym (lt-ltb 0 f (omega (arith, eqb-false f 0 e)))

not-form : (f : ℕ) → not (ltb 0 f) ≡ eqb f 0
not-form f = go (eqb f 0) refl
  where
    go : (b : Bool) → eqb f 0 ≡ b → not (ltb 0 f) ≡ eqb f 0
    go true e = let z = eqb-true f 0 e in rw (e, le-ltb 0 f (omega arith))
    go false e = rw (e, lt-ltb 0 f (omega (arith, eqb-false f 0 e)))

pub stands-form : (kind f n : ℕ) → stands kind (tag_of f n) ≡ allowed_in kind f
unfolding stands allowed_in
stands-form kind f n = simp (tagged-form f n, not-form f)

-- ---- trees

-- what the head of a tree says: its tag, and that it is no end
record Begins (s : List ℕ) (at : ℕ) (tag : Tag) : Type 0 where
  e : Element
  reads : head_at s at ≡ Some e
  tags : tag ≡ tag_of e.form e.tag
  no_end : e.kind ≡ end_of_container → ⊥

pos : (k : ℕ) → 0 < 256 ^ k
pos k = one-le-pow k 256 (omega arith)

primitive-head : (s : List ℕ) (at : ℕ) (p q : List ℕ) {tag : Tag} {x : Primitive} {bs : List ℕ} (w : SpellsPrimitive tag x bs) → s ≡ p ++ (bs ++ q) → at ≡ length p →
    (let h : List ℕ = head_octets w.form w.kind w.label w.number in head_at s at ≡ Some (element_of w.form w.kind w.label w.number (at + length h) (at + length h + length w.body)))
primitive-head s at p q w es ea =
    head_at_lem s at p w.body q w.form w.kind w.label w.number (es ∙ rw w.is-bytes (simp append_assoc)) ea w.form-fits (omega (arith, w.kind_fits)) (λ e. absurd (omega (arith, w.kind_fits))) w.label-fits w.number_fits w.body-fits

kind-plain : (k : ℕ) → structure ≤ k → ◌≡◌ {A = ℕ} 0 (pick (is_string k) 0 0)
kind-plain k l = go (is_string k)
  where
    go : (b : Bool) → ◌≡◌ {A = ℕ} 0 (pick b 0 0)
    go true = refl
    go false = refl

pub container-head : (s : List ℕ) (at : ℕ) (p q : List ℕ) {tag : Tag} {kind : ℕ} {Rest : List ℕ → Type 0} {bs : List ℕ} (w : Opens tag kind Rest bs) → s ≡ p ++ (bs ++ q) → at ≡ length p →
    (let h : List ℕ = head_octets w.form kind w.label 0 in head_at s at ≡ Some (element_of w.form kind w.label 0 (at + length h) (at + length h + 0)))
container-head s at p q {kind = kind} w es ea =
    head_at_lem s at p [] (w.rest ++ q) w.form kind w.label 0 (es ∙ rw w.is-bytes (simp append_assoc)) ea w.form-fits (omega (arith, w.kind-high)) (λ e. absurd (omega (arith, w.kind-high))) w.label-fits (pos (number_width kind)) (kind-plain kind w.kind-low)

begins : (s : List ℕ) (at : ℕ) (p q : List ℕ) (t : Tree) (b : List ℕ) → Spells t b → s ≡ p ++ (b ++ q) → at ≡ length p → Begins s at (tag_of_tree t)
unfolding Spells
begins s at p q (primitive tag x) b w es ea = record { e = _; reads = primitive-head s at p q w es ea; tags = w.is-tag; no_end = λ e. omega (arith, w.kind_fits) }
begins s at p q (container tag kind ts) b w es ea = record { e = _; reads = container-head s at p q w es ea; tags = w.is-tag; no_end = λ e. omega (arith, w.kind-high) }

-- the value of a string is its octets
pub value-body : (k n : ℕ) (b c : List ℕ) → (is_string k ≡ true → b ≡ c) → primitive_of k n b ≡ primitive_of k n c
unfolding primitive_of
value-body k n b c h = go (is_string k) refl
  where
    go : (z : Bool) → is_string k ≡ z → pick z (pick (ltb k 16) (text b) (octets b)) (scalar_of k n) ≡ pick z (pick (ltb k 16) (text c) (octets c)) (scalar_of k n)
    go true e = ap (λ (l : List ℕ). pick (ltb k 16) (text l) (octets l)) (h e)
    go false e = refl

taken : (s p hd b q : List ℕ) (n at : ℕ) → s ≡ p ++ ((hd ++ b) ++ q) → length b ≡ n → at ≡ length p → take n (drop (at + length hd) s) ≡ b
taken s p hd b q n at es eb ea =
    let es' : s ≡ (p ++ hd) ++ (b ++ q) = es ∙ simp append_assoc in
    let l : length (p ++ hd) ≡ at + length hd = omega (arith, length-append p hd) in
    rw es' (rw (drop_at (p ++ hd) (b ++ q) (at + length hd) l) (take_at b q n eb))

primitive-back : (d : ℕ) (s : List ℕ) (at : ℕ) (p q : List ℕ) (tag : Tag) (x : Primitive) (bs : List ℕ) → SpellsPrimitive tag x bs → s ≡ p ++ (bs ++ q) → at ≡ length p → tree_at d s at ≡ got (primitive tag x) (at + length bs)
primitive-back d s at p q tag x bs w es ea =
    let hd : List ℕ = head_octets w.form w.kind w.label w.number in
    let h = primitive-head s at p q w es ea in
    let b : is_string w.kind ≡ true → take w.number (drop (at + length hd) s) ≡ w.body = λ z. taken s p hd w.body q w.number at (es ∙ ap (λ (l : List ℕ). p ++ (l ++ q)) w.is-bytes) (w.body-fits ∙ ap (λ (b : Bool). pick b w.number 0) z) ea in
    let v = value-body w.kind w.number (take w.number (drop (at + length hd) s)) w.body b in
    let n : at + length hd + length w.body ≡ at + length bs = omega (arith, ap length w.is-bytes, length-append hd w.body) in
    let same : got (primitive (tag_of w.form w.label) (primitive_of w.kind w.number (take w.number (drop (at + length hd) s)))) (at + length hd + length w.body) ≡ got (primitive tag x) (at + length bs) = cc in
    tree-at d s 0 at h ∙ tree-primitive d s (element_of w.form w.kind w.label w.number (at + length hd) (at + length hd + length w.body)) w.kind_fits ∙ same

end_back : (d : ℕ) (s : List ℕ) (at : ℕ) (p q bs : List ℕ) (kind : ℕ) → bs ≡ 24 ∷ [] → s ≡ p ++ (bs ++ q) → at ≡ length p → trees_at d s kind at ≡ got none (at + length bs)
unfolding head_octets bytes_of tag_width number_width
end_back d s at p q bs kind w es ea =
    trees-ended d s kind at (head_at_lem s at p [] q 0 24 0 0 (es ∙ ap (λ (l : List ℕ). p ++ (l ++ q)) w) ea (omega arith) (omega arith) (λ e. refl) (pos (tag_width 0)) (pos (number_width 24)) refl) refl
    ∙ ap (got none) (omega (arith, ap length w))

mutual
  unfolding depth Spells

  -- THE LAW
  pub tree-back : (t : Tree) (d : ℕ) (s : List ℕ) (at : ℕ) (p q bs : List ℕ) → Spells t bs → depth t ≤ d → s ≡ p ++ (bs ++ q) → at ≡ length p → tree_at d s at ≡ got t (at + length bs)
  tree-back (primitive tag x) d s at p q bs w hd es ea = primitive-back d s at p q tag x bs w es ea
  tree-back (container tag kind ts) zero s at p q bs w hd es ea = absurd (omega arith)
  tree-back (container tag kind ts) (suc d) s at p q bs w hd es ea =
      let h : List ℕ = head_octets w.form kind w.label 0 in
      let es' : s ≡ (p ++ h) ++ (w.rest ++ q) = es ∙ rw w.is-bytes (simp append_assoc) in
      let r = trees-back ts d s (at + length h + 0) (p ++ h) q w.rest kind w.rests (omega arith) es' (omega (arith, length-append p h)) in
      let n : at + length h + 0 + length w.rest ≡ at + length bs = omega (arith, ap length w.is-bytes, length-append h w.rest) in
      let same : got (container (tag_of w.form w.label) kind ts) (at + length h + 0 + length w.rest) ≡ got (container tag kind ts) (at + length bs) = cc in
      tree-at (suc d) s 0 at (container-head s at p q w es ea)
      ∙ tree-container d s (element_of w.form kind w.label 0 (at + length h) (at + length h + 0)) w.kind-low (omega (arith, w.kind-high))
      ∙ ap (map_g (container (tag_of w.form w.label) kind)) r ∙ same

  pub trees-back : (ts : Trees) (d : ℕ) (s : List ℕ) (at : ℕ) (p q bs : List ℕ) (kind : ℕ) → SpellsAll ts kind bs → depths ts ≤ d → s ≡ p ++ (bs ++ q) → at ≡ length p → trees_at d s kind at ≡ got ts (at + length bs)
  trees-back none d s at p q bs kind w hd es ea = end_back d s at p q bs kind w es ea
  trees-back (more t ts) d s at p q bs kind w hd es ea =
      let j = w.1 in
      let es' : s ≡ p ++ (j.first ++ (j.rest ++ q)) = es ∙ rw j.is-bytes (simp append_assoc) in
      let b = begins s at p (j.rest ++ q) t j.first j.firsts es' ea in
      let a : allowed_in kind b.e.form ≡ true = sym (stands-form kind b.e.form b.e.tag) ∙ ap (stands kind) (sym b.tags) ∙ w.0 in
      let one = sym (tree-at d s kind at b.reads) ∙ tree-back t d s at p (j.rest ++ q) j.first j.firsts (omega arith) es' ea in
      let more' = trees-back ts d s (at + length j.first) (p ++ j.first) q j.rest kind j.rests (omega arith) (es' ∙ simp append_assoc) (omega (arith, length-append p j.first)) in
      let n : at + length j.first + length j.rest ≡ at + length bs = omega (arith, ap length j.is-bytes, length-append j.first j.rest) in
      trees-more d s kind at b.reads b.no_end a one ∙ simp (more', n)

-- one tree at most is spelled by given octets
pub one-tree : (t u : Tree) (bs : List ℕ) → Spells t bs → Spells u bs → t ≡ u
one-tree t u bs a b =
    let d : ℕ = depth t + depth u in
    let e : bs ≡ [] ++ (bs ++ []) = sym (append-nil bs) in
    let x = tree-back t d bs 0 [] [] bs a (omega arith) e refl in
    let y = tree-back u d bs 0 [] [] bs b (omega arith) e refl in
    cc
