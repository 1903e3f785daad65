-- Whatever is read as a tree is spelled by the octets that were read.
use Rattle.std.specs.Prelude.{Some, None, Option}
use mathlib.Core.Path.{◌≡◌, refl, sym, ap, ◌∙◌, subst⁻¹}
use mathlib.Core.Bool.{Bool, true, false}
use mathlib.Core.List.{List, [], ◌∷◌, ◌++◌, append_assoc}
use Prim.Native.Nat.{ℕ, zero, suc, ◌+◌, ◌-◌, ◌*◌, ◌/◌, ◌%◌, ◌^◌, ◌<◌, ◌≤◌}
use native.Mathlib.Omega.{arith}
use native.Mathlib.Numerals.{add-one}
use borrow.Author.Tests.{eqb-true, eqb-false, ltb-true, ltb-false, eq-eqb}
use lib.ListN.{length, get_or, take, drop, length-append, length-drop, take-append-drop}
use lib.Seq.{drop-cons, drop-drop, length-take-le}
use lib.Dec.{ltb, eqb}
use Rattle.base_octets.specs.Number.{bytes_of, number_at, Bytes}
use Rattle.base_octets.proofs.NumberLaws.{number-split, number_fits}
use Rattle.tlv_reader.specs.declared.Element.{Element}
use Rattle.tlv_reader.specs.Octet.{pick, tag_width, number_width, is_string, head_octets, structure, list, end_of_container}
use Rattle.tlv_reader.specs.Tree.{Tag, Tree, Trees, depth, depths, tag_of, primitive_of, tag_of_tree, stands, Spells, SpellsAll}
use Rattle.tlv_reader.specs.Tree.Tree.{primitive, container}
use Rattle.tlv_reader.specs.Tree.Trees.{none, more}
use Rattle.tlv_reader.specs.Head.{head_at, closed_at, formed_at, element_of}
use Rattle.tlv_reader.specs.Walk.{Got, map_g, bind_g, allowed_in, headed}
use Rattle.tlv_reader.specs.Walk.Got.{got, bad}
use Rattle.tlv_reader.specs.Decode.{trees_by, trees_from, tree_by, tree_of, tree_at}
use Rattle.tlv_reader.proofs.Picks.{pick-elim, choose-elim}
use Rattle.tlv_reader.proofs.Completeness.{head-length, stands-form, value-body}

-- what a head that is read says of the octets
pub record Reads (s : List ℕ) (at : ℕ) (e : Element) : Type 0 where
  pub octets : List ℕ
  pub form-fits : e.form < 8
  pub kind_fits : e.kind < 25
  pub end-untagged : e.kind ≡ end_of_container → e.form ≡ 0
  pub label-fits : e.tag < 256 ^ tag_width e.form
  pub number_fits : e.number < 256 ^ number_width e.kind
  pub octets-fit : length octets ≡ pick (is_string e.kind) e.number 0
  pub is-octets : is_string e.kind ≡ true → take e.number (drop e.body s) ≡ octets
  pub splits : drop at s ≡ head_octets e.form e.kind e.tag e.number ++ (octets ++ drop e.next.at s)
  pub is-end : e.next.at ≡ at + (length (head_octets e.form e.kind e.tag e.number) + length octets)

abbrev pub Readable : List ℕ → ℕ → Option Element → Type 0
Readable s at None = Unit {0}
Readable s at (Some e) = Reads s at e

module _ (s : List ℕ) (at : ℕ) (hs : Bytes s) (form kind : ℕ) (hf : form < 8) (hk : kind < 25) (he : kind ≡ 24 → form ≡ 0) (hl : at < length s) (hc : get_or s at 0 ≡ form * 32 + kind) (fits : at + 1 + tag_width form + number_width kind ≤ length s) where
  head-splits : drop at s ≡ head_octets form kind (number_at (tag_width form) s (at + 1)) (number_at (number_width kind) s (at + 1 + tag_width form)) ++ drop (at + 1 + tag_width form + number_width kind) s
  unfolding head_octets
  head-splits =
      drop-cons s at 0 hl
      ∙ ap (λ (c : ℕ). c ∷ drop (suc at) s) hc
      ∙ ap (λ (l : List ℕ). (form * 32 + kind) ∷ l) (ap (λ (n : ℕ). drop n s) (sym (add-one at)) ∙ number-split s (at + 1) (tag_width form) hs (omega arith)
      ∙ ap (λ (l : List ℕ). bytes_of (tag_width form) (number_at (tag_width form) s (at + 1)) ++ l) (number-split s (at + 1 + tag_width form) (number_width kind) hs fits)
      ∙ sym (append_assoc (bytes_of (tag_width form) (number_at (tag_width form) s (at + 1))) (bytes_of (number_width kind) (number_at (number_width kind) s (at + 1 + tag_width form))) (drop (at + 1 + tag_width form + number_width kind) s)))

  string-reads : (n : ℕ) → n ≡ number_at (number_width kind) s (at + 1 + tag_width form) → is_string kind ≡ true → at + 1 + tag_width form + number_width kind + n ≤ length s → Reads s at (element_of form kind (number_at (tag_width form) s (at + 1)) n (at + 1 + tag_width form + number_width kind) (at + 1 + tag_width form + number_width kind + n))
  string-reads n en q room =
      let e : ℕ = at + 1 + tag_width form + number_width kind in
      let b : List ℕ = take n (drop e s) in
      let lb : length b ≡ n = length-take-le n (drop e s) (omega (arith, length-drop e s)) in
      record {
        octets = b;
        form-fits = hf;
        kind_fits = hk;
        end-untagged = he;
        label-fits = number_fits s (at + 1) (tag_width form) hs (omega arith);
        number_fits = rw en (number_fits s (at + 1 + tag_width form) (number_width kind) hs (omega arith));
        octets-fit = rw q lb;
        is-octets = λ _. refl;
        splits = head-splits ∙ rw (← en) (ap (λ (l : List ℕ). head_octets form kind (number_at (tag_width form) s (at + 1)) n ++ l) (sym (take-append-drop n (drop e s)) ∙ ap (λ (l : List ℕ). b ++ l) (drop-drop n e s)));
        is-end = omega (arith, head-length form kind (number_at (tag_width form) s (at + 1)) n);
      }

  plain-reads : is_string kind ≡ false → Reads s at (element_of form kind (number_at (tag_width form) s (at + 1)) (number_at (number_width kind) s (at + 1 + tag_width form)) (at + 1 + tag_width form + number_width kind) (at + 1 + tag_width form + number_width kind))
  plain-reads q =
      record {
        octets = [];
        form-fits = hf;
        kind_fits = hk;
        end-untagged = he;
        label-fits = number_fits s (at + 1) (tag_width form) hs (omega arith);
        number_fits = number_fits s (at + 1 + tag_width form) (number_width kind) hs (omega arith);
        octets-fit = rw q refl;
        is-octets = λ t. absurd (let z : ◌≡◌ {A = ℕ} 1 0 = ap (λ (b : Bool). pick b 1 0) (sym t ∙ q) in omega arith);
        splits = head-splits;
        is-end = omega (arith, head-length form kind (number_at (tag_width form) s (at + 1)) (number_at (number_width kind) s (at + 1 + tag_width form)));
      }

  closed-reads : Readable s at (closed_at (length s) form kind (number_at (tag_width form) s (at + 1)) (number_at (number_width kind) s (at + 1 + tag_width form)) (at + 1 + tag_width form + number_width kind))
  unfolding closed_at
  closed-reads =
      let n : ℕ = number_at (number_width kind) s (at + 1 + tag_width form) in
      let e : ℕ = at + 1 + tag_width form + number_width kind in
      pick-elim (Readable s at) (is_string kind) _ _
      (λ q. pick-elim (Readable s at) (ltb (length s - e) n) _ _ (λ _. tt) (λ l. string-reads n refl q (omega (arith, ltb-false (length s - e) n l))))
      plain-reads

untagged-end : (form kind : ℕ) → pick (eqb kind 24) (ltb 0 form) false ≡ false → kind ≡ 24 → form ≡ 0
untagged-end form kind h e = let g : ltb 0 form ≡ false = sym (simp (eq-eqb kind 24 e)) ∙ h in omega (arith, ltb-false 0 form g)

pub head-sound : (s : List ℕ) (at : ℕ) → Bytes s → Readable s at (head_at s at)
unfolding head_at Bytes
head-sound s at hs =
    let P : Option Element → Type 0 = Readable s at in
    let c = get_or s at 0 in
    let form = c / 32 in
    let kind = c % 32 in
    let tw = tag_width form in
    let nw = number_width kind in
    pick-elim P (ltb at (length s)) (formed_at s at form kind) None
    (λ e1. let l1 = ltb-true at (length s) e1 in let hb : c < 256 = hs at l1 in
    pick-elim P (ltb 24 kind) None _ (λ _. tt)
    (λ e2. let l2 = ltb-false 24 kind e2 in
    pick-elim P (pick (eqb kind 24) (ltb 0 form) false) None _ (λ _. tt)
    (λ e3. pick-elim P (ltb (length s - (at + 1)) (tw + nw)) None _ (λ _. tt)
    (λ e4. let l4 = ltb-false (length s - (at + 1)) (tw + nw) e4 in
    closed-reads s at hs form kind (omega arith) (omega arith) (untagged-end form kind e3) l1 (omega arith) (omega arith)))))
    (λ _. tt)

-- ---- trees

abbrev HeadTag : Option Element → Tag → Type 0
HeadTag None x = Unit {0}
HeadTag (Some e) x = x ≡ tag_of e.form e.tag

-- what is true of a tree that was read at a position, and of members
pub record Spelled (d : ℕ) (s : List ℕ) (at : ℕ) (t : Tree) (n : ℕ) : Type 0 where
  pub bytes : List ℕ
  pub spells : Spells t bytes
  pub within : depth t ≤ d
  pub splits : drop at s ≡ bytes ++ drop n s
  pub is-end : n ≡ at + length bytes
  pub tags : HeadTag (head_at s at) (tag_of_tree t)

pub record SpelledAll (d : ℕ) (s : List ℕ) (kind at : ℕ) (ts : Trees) (n : ℕ) : Type 0 where
  pub bytes : List ℕ
  pub spells : SpellsAll ts kind bytes
  pub within : depths ts ≤ d
  pub splits : drop at s ≡ bytes ++ drop n s
  pub is-end : n ≡ at + length bytes

abbrev pub SpelledG : ℕ → List ℕ → ℕ → Got Tree → Type 0
SpelledG d s at bad = Unit {0}
SpelledG d s at (got t n) = Spelled d s at t n

abbrev pub SpelledAllG : ℕ → List ℕ → ℕ → ℕ → Got Trees → Type 0
SpelledAllG d s kind at bad = Unit {0}
SpelledAllG d s kind at (got ts n) = SpelledAll d s kind at ts n

primitive-sound : (d : ℕ) (s : List ℕ) (at : ℕ) (e : Element) → head_at s at ≡ Some e → Reads s at e → e.kind < structure → Spelled d s at (primitive (tag_of e.form e.tag) (primitive_of e.kind e.number (take e.number (drop e.body s)))) e.next.at
unfolding Spells depth
primitive-sound d s at e h r l =
    record {
      bytes = head_octets e.form e.kind e.tag e.number ++ r.octets;
      spells = record {
        form = e.form;
        kind = e.kind;
        label = e.tag;
        number = e.number;
        body = r.octets;
        form-fits = r.form-fits;
        kind_fits = l;
        label-fits = r.label-fits;
        number_fits = r.number_fits;
        body-fits = r.octets-fit;
        is-tag = refl;
        is-value = value-body e.kind e.number (take e.number (drop e.body s)) r.octets r.is-octets;
        is-bytes = refl;
      };
      within = omega arith;
      splits = r.splits ∙ sym (append_assoc (head_octets e.form e.kind e.tag e.number) r.octets (drop e.next.at s));
      is-end = omega (arith, r.is-end, length-append (head_octets e.form e.kind e.tag e.number) r.octets);
      tags = rw h refl;
    }

-- a container's type is one of three
by_kind : (P : ℕ → Type 0) → P 21 → P 22 → P 23 → (k : ℕ) → structure ≤ k → k ≤ list → P k
by_kind P a b c k l u = go (eqb k 21) refl (eqb k 22) refl
  where
    go : (x : Bool) → eqb k 21 ≡ x → (y : Bool) → eqb k 22 ≡ y → P k
    go true e y f = subst⁻¹ P (eqb-true k 21 e) a
    go false e true f = subst⁻¹ P (eqb-true k 22 f) b
    go false e false f = let z : k ≡ 23 = omega (arith, eqb-false k 21 e, eqb-false k 22 f) in subst⁻¹ P z c

kind-plain : (k : ℕ) → structure ≤ k → k ≤ list → (number_width k ≡ 0) × (is_string k ≡ false)
unfolding number_width
kind-plain = by_kind (λ k. (number_width k ≡ 0) × (is_string k ≡ false)) (refl, refl) (refl, refl) (refl, refl)

no_number : (k n : ℕ) → n < 256 ^ number_width k → number_width k ≡ 0 → n ≡ 0
no_number k n h e = let h' : n < 1 = rw e at h in omega arith

no-octets : (k n : ℕ) (b : List ℕ) → length b ≡ pick (is_string k) n 0 → is_string k ≡ false → b ≡ []
no-octets k n [] h e = refl
no-octets k n (x ∷ b) h e = let z : suc (length b) ≡ 0 = rw e at h in absurd (omega arith)

container-sound : (d : ℕ) (s : List ℕ) (at : ℕ) (e : Element) → head_at s at ≡ Some e → Reads s at e → structure ≤ e.kind → e.kind ≤ list → (g : Got Trees) → SpelledAllG d s e.kind e.next.at g → SpelledG (suc d) s at (map_g (container (tag_of e.form e.tag) e.kind) g)
unfolding Spells depth
container-sound d s at e h r l u bad a = tt
container-sound d s at e h r l u (got ts n) a =
    let hd : List ℕ = head_octets e.form e.kind e.tag 0 in
    let kp = kind-plain e.kind l u in
    let v0 : e.number ≡ 0 = no_number e.kind e.number r.number_fits kp.0 in
    let b0 : r.octets ≡ [] = no-octets e.kind e.number r.octets r.octets-fit kp.1 in
    let sp : drop at s ≡ hd ++ drop e.next.at s = r.splits ∙ rw (v0, b0) refl in
    record {
      bytes = hd ++ a.bytes;
      spells = record {
        form = e.form;
        label = e.tag;
        rest = a.bytes;
        form-fits = r.form-fits;
        kind-low = l;
        kind-high = omega arith;
        label-fits = r.label-fits;
        is-tag = refl;
        is-bytes = refl;
        rests = a.spells;
      };
      within = omega (arith, a.within);
      splits = sp ∙ ap (λ (x : List ℕ). hd ++ x) a.splits ∙ sym (append_assoc hd a.bytes (drop n s));
      is-end = omega (arith, a.is-end, r.is-end, head-length e.form e.kind e.tag e.number, head-length e.form e.kind e.tag 0, ap length b0, length-append hd a.bytes);
      tags = rw h refl;
    }

by-sound : (d : ℕ) (s : List ℕ) (at : ℕ) (inner : ℕ → ℕ → Got Trees) (e : Element) → head_at s at ≡ Some e → Reads s at e → (structure ≤ e.kind → e.kind ≤ list → SpelledG d s at (map_g (container (tag_of e.form e.tag) e.kind) (inner e.kind e.next.at))) → SpelledG d s at (tree_by s inner e)
unfolding tree_by
by-sound d s at inner e h r i =
    choose-elim (SpelledG d s at) (ltb e.kind structure) _ _ (λ l. primitive-sound d s at e h r (ltb-true e.kind structure l))
    (λ l. choose-elim (SpelledG d s at) (ltb list e.kind) _ _ (λ _. tt) (λ u. i (ltb-false e.kind structure l) (ltb-false list e.kind u)))

end-head : (form k label n : ℕ) → form ≡ 0 → k ≡ 24 → head_octets form k label n ≡ 24 ∷ []
unfolding head_octets bytes_of tag_width number_width
end-head form k label n f e = rw (f, e) refl

end-sound : (d : ℕ) (s : List ℕ) (kind at : ℕ) (e : Element) → Reads s at e → e.kind ≡ end_of_container → SpelledAll d s kind at none e.next.at
unfolding Spells depth
end-sound d s kind at e r q =
    let f0 = r.end-untagged q in
    let b0 : r.octets ≡ [] = no-octets e.kind e.number r.octets r.octets-fit (ap is_string q) in
    let hd : head_octets e.form e.kind e.tag e.number ≡ 24 ∷ [] = end-head e.form e.kind e.tag e.number f0 q in
    record {
      bytes = 24 ∷ [];
      spells = refl;
      within = omega arith;
      splits = r.splits ∙ rw (hd, b0) refl;
      is-end = r.is-end ∙ ap (λ (m : ℕ). at + m) (rw (hd, b0) refl);
    }

more-sound : (d : ℕ) (s : List ℕ) (kind at : ℕ) (e : Element) → head_at s at ≡ Some e → allowed_in kind e.form ≡ true → (t : Tree) (m : ℕ) → Spelled d s at t m → (g : Got Trees) → SpelledAllG d s kind m g → SpelledAllG d s kind at (map_g (more t) g)
unfolding Spells depth
more-sound d s kind at e h al t m w bad a = tt
more-sound d s kind at e h al t m w (got ts n) a =
    let tg : tag_of_tree t ≡ tag_of e.form e.tag = rw h at w.tags in
    record {
      bytes = w.bytes ++ a.bytes;
      spells = (ap (stands kind) tg ∙ stands-form kind e.form e.tag ∙ al, record { first = w.bytes; rest = a.bytes; is-bytes = refl; firsts = w.spells; rests = a.spells });
      within = omega (arith, w.within, a.within);
      splits = w.splits ∙ ap (λ (x : List ℕ). w.bytes ++ x) a.splits ∙ sym (append_assoc w.bytes a.bytes (drop n s));
      is-end = omega (arith, w.is-end, a.is-end, length-append w.bytes a.bytes);
    }

bind-sound : (d : ℕ) (s : List ℕ) (kind at : ℕ) (e : Element) → head_at s at ≡ Some e → allowed_in kind e.form ≡ true → (g : Got Tree) → SpelledG d s at g → (rest : ℕ → Got Trees) → ((m : ℕ) → SpelledAllG d s kind m (rest m)) → SpelledAllG d s kind at (bind_g g (λ t m. map_g (more t) (rest m)))
bind-sound d s kind at e h al bad w rest a = tt
bind-sound d s kind at e h al (got t m) w rest a = more-sound d s kind at e h al t m w (rest m) (a m)

all_sound : (d : ℕ) (s : List ℕ) (kind at : ℕ) (el : Element → Got Tree) (rest : ℕ → Got Trees) → ((e : Element) → head_at s at ≡ Some e → SpelledG d s at (el e)) → ((m : ℕ) → SpelledAllG d s kind m (rest m)) → (h : (Option Element)) → head_at s at ≡ h → Readable s at h → SpelledAllG d s kind at (trees_by kind el rest h)
unfolding trees_by
all_sound d s kind at el rest w a None q r = tt
all_sound d s kind at el rest w a (Some e) q r =
    choose-elim (SpelledAllG d s kind at) (eqb e.kind end_of_container) _ _ (λ z. end-sound d s kind at e r (eqb-true e.kind end_of_container z))
    (λ _. choose-elim (SpelledAllG d s kind at) (allowed_in kind e.form) _ _ (λ al. bind-sound d s kind at e q al (el e) (w e q) rest a) (λ _. tt))

from-sound : (d : ℕ) (s : List ℕ) → Bytes s → ((p : ℕ) (e : Element) → head_at s p ≡ Some e → SpelledG d s p (tree_of d s e)) → (f kind at : ℕ) → SpelledAllG d s kind at (trees_from (tree_of d s) f s kind at)
unfolding trees_from
from-sound d s hs w zero kind at = tt
from-sound d s hs w (suc f) kind at = all_sound d s kind at (tree_of d s) (λ n. trees_from (tree_of d s) f s kind n) (w at) (λ m. from-sound d s hs w f kind m) (head_at s at) refl (head-sound s at hs)

pub reads-found : (s : List ℕ) (at : ℕ) → Bytes s → (h : (Option Element)) → head_at s at ≡ h → Readable s at h
reads-found s at hs h q = rw q at (head-sound s at hs)

pub of-sound : (d : ℕ) (s : List ℕ) → Bytes s → (at : ℕ) (e : Element) → head_at s at ≡ Some e → SpelledG d s at (tree_of d s e)
unfolding tree_of
of-sound zero s hs at e h = by-sound zero s at (λ k n. bad) e h (reads-found s at hs (Some e) h) (λ l u. tt)
of-sound (suc d) s hs at e h =
    by-sound (suc d) s at (λ k n. trees_from (tree_of d s) (length s) s k n) e h (reads-found s at hs (Some e) h)
    (λ l u. container-sound d s at e h (reads-found s at hs (Some e) h) l u (trees_from (tree_of d s) (length s) s e.kind e.next.at) (from-sound d s hs (λ p m q. of-sound d s hs p m q) (length s) e.kind e.next.at))

headed-sound : (d : ℕ) (s : List ℕ) → Bytes s → (at : ℕ) (h : (Option Element)) → head_at s at ≡ h → SpelledG d s at (headed bad (tree_of d s) h)
headed-sound d s hs at None q = tt
headed-sound d s hs at (Some e) q = of-sound d s hs at e q

-- THE LAW: a tree that is read at a position is spelled by the octets there, up to its end
pub tree-sound : (d : ℕ) (s : List ℕ) → Bytes s → (at : ℕ) → SpelledG d s at (tree_at d s at)
unfolding tree_at
tree-sound d s hs at = headed-sound d s hs at (head_at s at) refl
