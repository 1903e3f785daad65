-- A message in one pass: its frame by its head, and an array as a member that a reader of its own reads.
use Rattle.std.specs.Prelude.{Some, None, Option}
use mathlib.Core.Path.{◌≡◌, refl, sym, ap, subst, ◌∙◌}
use mathlib.Core.Bool.{Bool, true, false}
use mathlib.Core.List.{List, []}
use Prim.Native.Nat.{ℕ, zero, suc, ◌-◌, ◌≤◌}
use native.Mathlib.Omega.{arith}
use borrow.Author.Tests.{eq-eqb, ne_eqb, eqb-true}
use lib.ListN.{length, replicate}
use lib.Dec.{eqb}
use Rattle.base_bounds.specs.Bounds.{depth_limit}
use Rattle.tlv_reader.specs.declared.Element.{Element}
use Rattle.tlv_reader.specs.Octet.{pick, structure, array}
use Rattle.tlv_reader.specs.Head.{head_at}
use Rattle.tlv_reader.specs.Walk.{Got, map_g, bind_g, fold_at, headed, element_end, members_end}
use Rattle.tlv_reader.specs.Walk.Got.{got, bad}
use Rattle.tlv_reader.specs.Decode.{place}
use Rattle.tlv_reader.proofs.WalkLaws.{end-within}
use Rattle.im_members.specs.Array.{opt_of, each_step}
use Rattle.im_members.specs.Fields.{inside_at}
use Rattle.im_members.specs.Pass.{Pass, no_pass, made, pass_of}
use Rattle.im_members.proofs.PassLaws.{Under, fold-under, Reads, on-head, Left, left-bad, begun, frame-none, frame-end}
use Rattle.im_requests.specs.declared.Listed.{Listed}
use Rattle.im_requests.specs.Message.{untagged, message_at, structure_at, open_pass, whole_pass, whole_in, snoc, list_at, list_on, ListRead, list_with, kept_as, list_read}

-- what ends where the payload ends
abbrev pub ends_with : {A : Type 0} → ℕ → Got A → Option A
ends_with len bad = None
ends_with len (got x n) = pick (eqb n len) (Some x) None

none : {A : Type 0} (b : Bool) → ◌≡◌ {A = Option A} (pick b None None) None
none true = refl
none false = refl

ends : {A : Type 0} (len n : ℕ) (o : Option A) → ends_with len (place o n) ≡ pick (eqb n len) o None
ends len n None = sym (none (eqb n len))
ends len n (Some a) = refl

-- a message is its structure, and then its end
whole-made : {A : Type 0} (listed : List Bool) (F : List ℕ → Option A) (s : List ℕ) → whole_in listed F s ≡ ends_with (length s) (made F (structure_at listed s))
unfolding message_at structure_at
whole-made {A} listed F s = by (untagged s)
  where
    last : (seen : List ℕ) (n : ℕ) (b : Bool) → opt_of (made F (pick b (got seen n) bad)) ≡ pick b (opt_of (place (F seen) n)) None
    last seen n true = refl
    last seen n false = refl

    back : (n : ℕ) (o : Option A) → opt_of (place o n) ≡ o
    back n None = refl
    back n (Some a) = refl

    go : (g : Got (List ℕ)) → opt_of (made F (bind_g g (λ seen n. pick (eqb n (length s)) (got seen n) bad))) ≡ ends_with (length s) (made F g)
    go bad = refl
    go (got seen n) = last seen n (eqb n (length s)) ∙ ap (λ o. pick (eqb n (length s)) o None) (back n (F seen)) ∙ sym (ends (length s) n (F seen))

    by : (b : Bool) → opt_of (made F (pick b (bind_g (inside_at structure depth_limit s listed 0) (λ seen n. pick (eqb n (length s)) (got seen n) bad)) bad)) ≡ ends_with (length s) (made F (pick b (inside_at structure depth_limit s listed 0) bad))
    by true = go (inside_at structure depth_limit s listed 0)
    by false = refl

-- THE LAW of a pass over a message
pub opened : {listed stops : List Bool} {s : List ℕ} {r : Pass} → r ≡ open_pass listed stops s → Left 9 s structure listed stops (replicate 10 0) (structure_at listed s) r
unfolding open_pass structure_at untagged
opened {listed} {stops} {s} e = rw e (go (head_at s 0) refl)
  where
    go : (h : (Option Element)) → head_at s 0 ≡ h → Left 9 s structure listed stops (replicate 10 0) (pick (headed false (λ x. eqb x.form 0) h) (inside_at structure depth_limit s listed 0) bad) (headed no_pass (λ x. pick (eqb x.form 0) (pass_of structure depth_limit s listed stops x) no_pass) h)
    go None h = left-bad 9 s structure listed stops (replicate 10 0) refl
    go (Some x) h = by (eqb x.form 0)
      where
        by : (b : Bool) → Left 9 s structure listed stops (replicate 10 0) (pick b (inside_at structure depth_limit s listed 0) bad) (pick b (pass_of structure depth_limit s listed stops x) no_pass)
        by true = rw (on-head structure depth_limit s listed 0 h) (begun depth_limit x refl)
        by false = left-bad 9 s structure listed stops (replicate 10 0) refl

pub whole-bad : (len : ℕ) (m : Pass) → m.good ≡ false → whole_pass len m ≡ false
unfolding whole_pass
whole-bad len m g = rw g refl

pub whole-good : (len : ℕ) (m : Pass) → whole_pass len m ≡ true → m.good ≡ true
unfolding whole_pass
whole-good len m e = go m.good e
  where
    go : (b : Bool) → pick b (eqb m.head.next.at len) false ≡ true → b ≡ true
    go true e = refl
    go false e = e

pub whole-refused : {A : Type 0} (listed : List Bool) (F : List ℕ → Option A) (s : List ℕ) → made F (structure_at listed s) ≡ bad → whole_in listed F s ≡ None
whole-refused listed F s e = whole-made listed F s ∙ ap (ends_with (length s)) e

module _ {A : Type 0} (F : List ℕ → Option A) {listed stops : List Bool} {s before : List ℕ} {z : Pass} where
  module _ (L : Left 9 s structure listed stops before (structure_at listed s) z) (o : 10 ≤ z.slot) where
    -- at the end: what is made of the members, if the payload ends there
    pub whole-passed : whole_in listed F s ≡ pick (whole_pass (length s) z) (F z.at) None
    unfolding whole_pass
    whole-passed = by z.good refl
      where
        by : (b : Bool) → z.good ≡ b → whole_in listed F s ≡ pick (pick z.good (eqb z.head.next.at (length s)) false) (F z.at) None
        by false g = rw g (whole-refused listed F s (frame-none F L g))
        by true g = rw g (whole-made listed F s ∙ ap (ends_with (length s)) (frame-end F L g o refl) ∙ ends (length s) z.head.next.at (F z.at))

    pub whole-short : whole_pass (length s) z ≡ false → whole_in listed F s ≡ None
    whole-short e = whole-passed ∙ rw e refl

    pub whole-ends : whole_pass (length s) z ≡ true → {x : Option A} → F z.at ≡ x → whole_in listed F s ≡ x
    whole-ends e f = whole-passed ∙ rw e f

    pub whole-lacks : (z.good ≡ true → F z.at ≡ None) → whole_in listed F s ≡ None
    unfolding whole_pass
    whole-lacks f = by z.good refl
      where
        by : (b : Bool) → z.good ≡ b → whole_in listed F s ≡ None
        by false g = whole-refused listed F s (frame-none F L g)
        by true g = whole-passed ∙ rw (f g) (none (whole_pass (length s) z))

array_keeps : {A : Type 0} (read : ℕ → List ℕ → ℕ → Got A) (on : Element → Got A) (d : ℕ) (s : List ℕ) → Reads d s (read d s) on → (l : List A) (p : ℕ) (e : Element) → head_at s p ≡ Some e → Unit {0} → Under (λ (x : List A). Unit {0}) (each_step snoc (read d s) l p e) (element_end d s e)
unfolding each_step
array_keeps {A} read on d s r l p e h y = go (read d s p) refl
  where
    go : (g : Got A) → read d s p ≡ g → Under (λ (x : List A). Unit {0}) (map_g (snoc l) g) (element_end d s e)
    go bad q = tt
    go (got x n) q = (tt, r.ends e x n (sym (r.here p e h) ∙ q))

array-ends : {A : Type 0} (read : ℕ → List ℕ → ℕ → Got A) (on : Element → Got A) (d : ℕ) (s : List ℕ) → Reads d s (read d s) on → (at : ℕ) {l : List A} {n : ℕ} → fold_at (each_step snoc (read d s)) (length s) s array [] at ≡ got l n → members_end d s array at ≡ got tt n
unfolding members_end
array-ends {A} read on d s r at w = (subst (λ (g : Got (List A)). Under (λ (x : List A). Unit {0}) g (fold_at (λ u p e. element_end d s e) (length s) s array tt at)) w (fold-under (λ (x : List A). Unit {0}) (each_step snoc (read d s)) (element_end d s) s (array_keeps read on d s r) array (length s) [] at tt)).1

-- AN ARRAY whose members one reader reads is read by its place and by its head
pub list-reads : {A : Type 0} (read : ℕ → List ℕ → ℕ → Got A) (on : Element → Got A) (d : ℕ) (s : List ℕ) → Reads d s (read d s) on → Reads (suc d) s (list_at read (suc d) s) (list_on read (suc d) s)
unfolding list_at list_on
list-reads {A} read on d s r = record {
  here = λ at e h. simp h;
  none = λ at h. simp h;
  ends = λ e l n w. by_kind e l n (eqb e.kind array) refl w;
}
  where
    no : {B : Type 0} {l : List A} {n : ℕ} → ◌≡◌ {A = Got (List A)} bad (got l n) → B
    no z = absurd (let y : ◌≡◌ {A = ℕ} 0 1 = cc in omega arith)

    within : (e : Element) (l : List A) (n : ℕ) → e.kind ≡ array → fold_at (each_step snoc (read d s)) (length s) s array [] e.next.at ≡ got l n → element_end (suc d) s e ≡ got tt n
    within e l n k w = let q : suc d - 1 ≡ d = omega arith in
        end-within (suc d) s e (omega arith) (omega arith) (λ z. omega arith)
        ∙ ap (λ (i : ℕ). members_end i s e.kind e.next.at) q
        ∙ ap (λ (i : ℕ). members_end d s i e.next.at) k
        ∙ array-ends read on d s r e.next.at w

    by_kind : (e : Element) (l : List A) (n : ℕ) (b : Bool) → eqb e.kind array ≡ b → pick b (fold_at (each_step snoc (read d s)) (length s) s array [] e.next.at) bad ≡ got l n → element_end (suc d) s e ≡ got tt n
    by_kind e l n false k w = no w
    by_kind e l n true k w = within e l n (eqb-true e.kind array k) w

-- the list of an answer is the list of what it says
pub list-as : {o r : Option Listed} {words : List ℕ} {f : ListRead} → o ≡ r → list_with o words ≡ f → list_with r words ≡ f
list-as {words = xs} w q = ap (λ (x : Option Listed). list_with x xs) (sym w) ∙ q

clash : {A : Type 0} → false ≡ true → A
clash e = absurd (let z : ◌≡◌ {A = ℕ} 0 1 = ap (λ (b : Bool). pick b 1 0) e in omega arith)

-- what the reader of a list says
module _ {A : Type 0} (n size : ℕ) (enc : A → List ℕ) (old : List ℕ) {f : ListRead} (g : Got (List A)) (q : f ≡ list_read n size enc old g) where
  pub kept-bad : f.good ≡ false → g ≡ bad
  kept-bad h = go g q
    where
      go : (x : Got (List A)) → f ≡ list_read n size enc old x → x ≡ bad
      go bad z = refl
      go (got l m) z = clash (sym h ∙ ap (λ (y : ListRead). y.good) z)

  pub kept-good : f.good ≡ true → (l : List A) × (g ≡ got l f.next.at) × (f.kept ≡ kept_as n enc old l)
  kept-good h = go g q
    where
      go : (x : Got (List A)) → f ≡ list_read n size enc old x → (l : List A) × (x ≡ got l f.next.at) × (f.kept ≡ kept_as n enc old l)
      go bad z = clash (sym (ap (λ (y : ListRead). y.good) z) ∙ h)
      go (got l m) z = (l, ap (got l) (sym (ap (λ (y : ListRead). y.next.at) z)), ap (λ (y : ListRead). y.kept) z)

-- the array with a head, case by case for the code
module _ {A : Type 0} (read : ℕ → List ℕ → ℕ → Got A) (d : ℕ) (s : List ℕ) (e : Element) where
  pub list-other : (e.kind ≡ array → ⊥) → list_on read d s e ≡ bad
  unfolding list_on
  list-other q = elim d as (λ z. list_on read z s e ≡ bad) [ zero ↦ refl | suc z ↦ simp (ne_eqb _ _ q) ]

  pub list-deeper : d ≡ 0 → list_on read d s e ≡ bad
  unfolding list_on
  list-deeper = elim d as (λ z. z ≡ 0 → list_on read z s e ≡ bad) [ zero ↦ λ r. refl | suc z ↦ λ r. absurd (omega arith) ]

  pub list-in : e.kind ≡ array → (d ≡ 0 → ⊥) → list_on read d s e ≡ fold_at (each_step snoc (read (d - 1) s)) (length s) s array [] e.next.at
  unfolding list_on
  list-in q = elim d as (λ z. (z ≡ 0 → ⊥) → list_on read z s e ≡ fold_at (each_step snoc (read (z - 1) s)) (length s) s array [] e.next.at) [ zero ↦ λ r. absurd (r refl) | suc z ↦ λ r. (let p : suc z - 1 ≡ z = omega arith in simp (eq-eqb _ _ q, p)) ]
