-- One pass over the members of a container: the laws that join it to where the members stand.
use Rattle.std.specs.Prelude.{Some, None, Option}
use mathlib.Core.Path.{◌≡◌, refl, sym, ap, subst, ◌∙◌}
use mathlib.Core.Bool.{Bool, true, false}
use mathlib.Core.List.{List, [], ◌∷◌, map}
use Prim.Native.Nat.{ℕ, zero, suc, ◌+◌, ◌-◌, ◌<◌, ◌≤◌}
use native.Mathlib.Omega.{arith}
use borrow.Author.Tests.{eq-eqb, ne_eqb, le-ltb, lt-ltb, ltb-true, ltb-false, eqb-true, eqb-false}
use lib.ListN.{length, length-set, get_or, set, replicate, get_or-replicate, get_or-map}
use lib.Dec.{ltb, eqb}
use Rattle.tlv_reader.specs.declared.Element.{Element}
use Rattle.tlv_reader.specs.Octet.{pick, structure, list, end_of_container}
use Rattle.tlv_reader.specs.Head.{head_at}
use Rattle.tlv_reader.specs.Walk.{Got, bind_g, choose, allowed_in, fold_by, fold_at, headed, element_end, members_end, ended}
use Rattle.tlv_reader.specs.Walk.Got.{got, bad}
use Rattle.tlv_reader.specs.Decode.{place}
use Rattle.tlv_reader.proofs.FoldLaws.{Ahead, Forward, fold-breaks, fold_on}
use Rattle.tlv_reader.proofs.HeadLaws.{Onward, head-onward, no-head}
use Rattle.tlv_reader.proofs.WalkLaws.{end-within, end-forward}
use Rattle.im_members.specs.Fields.{slot_of, put_at, put_end, field_step, fields_from, fields_at, inside_at}
use Rattle.im_members.specs.Array.{opt_of, required_in, optional_in}
use Rattle.im_members.specs.Scalar.{ABSENT, NULL, WRONG, number_of, flag_of, wide_of, number_in, flag_in, wide_in, scalar_in}
use Rattle.im_members.specs.declared.Stop.{Stop}
use Rattle.im_members.specs.Pass.{Pass, pass_with, no_pass, inside_on, made, frame_on, pass_at, pass_on, pass_listed, pass_member, pass_by, pass_in, pass_from, pass_of, code_of, code_in, number_by, flag_by, wide_by}
use Rattle.im_members.proofs.ArrayLaws.{required-some, optional-some}
use Rattle.im_members.proofs.FieldLaws.{step-forward, inside-none, no_member, last-member, barred-member, broken-member, other-member}

-- ---- a member that was put before it was walked

module _ (d : ℕ) (s : List ℕ) (kind : ℕ) (listed : List Bool) (seen : List ℕ) (at : ℕ) {e : Element} (h : head_at s at ≡ Some e) (q : e.kind ≡ end_of_container → ⊥) (a : allowed_in kind e.form ≡ true) {i : ℕ} (z : i ≡ slot_of listed e.form e.tag) (l : i < 10) where
  twice-step : (get_or seen i 0 ≡ 0 → ⊥) → (g : Got (Unit {0})) → put_end seen i at g ≡ bad
  unfolding put_at
  twice-step y bad = refl
  twice-step y (got u n) = simp (lt-ltb i 10 l, ne_eqb _ _ y)

  pub put-twice : (get_or seen i 0 ≡ 0 → ⊥) → fields_from d s kind listed seen at ≡ bad
  unfolding fields_from field_step
  put-twice y = fold-breaks (field_step d s listed) s (step-forward d s listed) kind seen at h q a (ap (λ (j : ℕ). put_end seen j at (element_end d s e)) (sym z) ∙ twice-step y (element_end d s e))

  pub put_first : get_or seen i 0 ≡ 0 → fields_from d s kind listed seen at ≡ bind_g (element_end d s e) (λ u n. fields_from d s kind listed (set seen i (at + 1)) n)
  unfolding fields_from field_step put_at
  put_first y = go (element_end d s e) refl
    where
      go : (g : Got (Unit {0})) → element_end d s e ≡ g → fields_from d s kind listed seen at ≡ bind_g g (λ u n. fields_from d s kind listed (set seen i (at + 1)) n)
      go bad w = fold-breaks (field_step d s listed) s (step-forward d s listed) kind seen at h q a (simp w)
      go (got u n) w = fold_on (field_step d s listed) s (step-forward d s listed) kind seen at h q a (simp (w, ← z, lt-ltb i 10 l, eq-eqb _ _ y))

-- ---- the codes of what was seen

pub map-set : {A B : Type 0} (f : A → B) (l : List A) (i : ℕ) (y : A) → map f (set l i y) ≡ set (map f l) i (f y)
map-set f [] i y = refl
map-set f (x ∷ l) zero y = refl
map-set f (x ∷ l) (suc i) y = ap (λ r. f x ∷ r) (map-set f l i y)

pub code_here : (s : List ℕ) (at : ℕ) {e : Element} → head_at s at ≡ Some e → code_in s (at + 1) ≡ code_of e.kind e.number
unfolding code_in
code_here s at h = let p : at + 1 - 1 ≡ at = omega arith in simp (ne_eqb (at + 1) 0 (λ z. omega arith), p, h)

pub codes-put : (s codes seen : List ℕ) (i at : ℕ) {e : Element} {c : ℕ} → codes ≡ map (code_in s) seen → head_at s at ≡ Some e → c ≡ code_of e.kind e.number → set codes i c ≡ map (code_in s) (set seen i (at + 1))
codes-put s codes seen i at {e = x} {c = v} e h z = ap (λ (l : List ℕ). set l i v) e ∙ ap (set (map (code_in s) seen) i) (z ∙ sym (code_here s at h)) ∙ sym (map-set (code_in s) seen i (at + 1))

pub within : (s : List ℕ) (at : ℕ) {e : Element} → head_at s at ≡ Some e → (at < e.next.at) × (e.next.at ≤ length s)
within s at h = subst (Onward at (length s)) h (head-onward s at)

-- what a code stands for is what the head there says
headed-by : (f : ℕ → ℕ) (g : Element → ℕ) → f 2 ≡ WRONG → ((e : Element) → f (code_of e.kind e.number) ≡ g e) → (h : (Option Element)) → f (headed 2 (λ e. code_of e.kind e.number) h) ≡ headed WRONG g h
headed-by f g z q None = z
headed-by f g z q (Some e) = q e

pub code_by : (f : ℕ → ℕ) (g : Element → ℕ) → f 0 ≡ ABSENT → f 2 ≡ WRONG → ((e : Element) → f (code_of e.kind e.number) ≡ g e) → (s : List ℕ) (p : ℕ) → f (code_in s p) ≡ scalar_in g s p
unfolding code_in
code_by f g y z q s p = go (eqb p 0)
  where
    go : (b : Bool) → f (pick b 0 (headed 2 (λ e. code_of e.kind e.number) (head_at s (p - 1)))) ≡ pick b ABSENT (headed WRONG g (head_at s (p - 1)))
    go true = y
    go false = headed-by f g z q (head_at s (p - 1))

by_number : (most : ℕ) (nullable : Bool) → most ≤ 4294967295 → (kind n : ℕ) → number_by most nullable (code_of kind n) ≡ number_of most nullable kind n
unfolding code_of number_by number_of
by_number most nullable l kind n = go (eqb kind 20) (ltb kind 4) (ltb 7 kind) (eqb kind 8) (eqb kind 9) (ltb 4294967295 n) refl
  where
    m : n + 6 - 6 ≡ n
    m = omega arith

    go : (a b c f g h : Bool) → ltb 4294967295 n ≡ h → number_by most nullable (pick a 1 (pick b 2 (pick c (pick f 4 (pick g 5 2)) (pick h 3 (n + 6))))) ≡ pick a (pick nullable NULL WRONG) (pick b WRONG (pick c WRONG (pick (ltb most n) WRONG n)))
    go true b c f g h e = refl
    go false true c f g h e = refl
    go false false true true g h e = refl
    go false false true false true h e = refl
    go false false true false false h e = refl
    go false false false f g true e = rw (lt-ltb most n (let y = ltb-true 4294967295 n e in omega arith)) refl
    go false false false f g false e = rw (lt-ltb 5 (n + 6) (omega arith), m) refl

by_flag : (kind n : ℕ) → flag_by (code_of kind n) ≡ flag_of kind
unfolding code_of flag_by flag_of
by_flag kind n = go (eqb kind 20) refl (ltb kind 4) refl (ltb 7 kind) refl (eqb kind 8) refl (eqb kind 9) refl (ltb 4294967295 n)
  where
    no : (k : ℕ) (b : Bool) → eqb kind k ≡ b → (kind ≡ k → ⊥) → b ≡ false
    no k b e x = sym e ∙ ne_eqb kind k x

    go : (a : Bool) → eqb kind 20 ≡ a → (b : Bool) → ltb kind 4 ≡ b → (c : Bool) → ltb 7 kind ≡ c → (f : Bool) → eqb kind 8 ≡ f → (g : Bool) → eqb kind 9 ≡ g → (h : Bool) → flag_by (pick a 1 (pick b 2 (pick c (pick f 4 (pick g 5 2)) (pick h 3 (n + 6))))) ≡ pick f 0 (pick g 1 WRONG)
    go true a b y c z f u g v h = let x = eqb-true kind 20 a in rw (no 8 f u (λ w. omega arith), no 9 g v (λ w. omega arith)) refl
    go false a true y c z f u g v h = let x = ltb-true kind 4 y in rw (no 8 f u (λ w. omega arith), no 9 g v (λ w. omega arith)) refl
    go false a false y true z true u g v h = refl
    go false a false y true z false u true v h = refl
    go false a false y true z false u false v h = refl
    go false a false y false z f u g v true = let x = ltb-false 7 kind z in rw (no 8 f u (λ w. omega arith), no 9 g v (λ w. omega arith)) refl
    go false a false y false z f u g v false = let x = ltb-false 7 kind z in rw (no 8 f u (λ w. omega arith), no 9 g v (λ w. omega arith), ne_eqb (n + 6) 0 (λ w. omega arith), ne_eqb (n + 6) 4 (λ w. omega arith), ne_eqb (n + 6) 5 (λ w. omega arith)) refl

by_wide : (kind n : ℕ) → wide_by (code_of kind n) ≡ wide_of kind
unfolding code_of wide_by wide_of
by_wide kind n = go (eqb kind 20) refl (ltb kind 4) (ltb 7 kind) refl (eqb kind 8) (eqb kind 9) (ltb 4294967295 n)
  where
    go : (a : Bool) → eqb kind 20 ≡ a → (b c : Bool) → ltb 7 kind ≡ c → (f g h : Bool) → wide_by (pick a 1 (pick b 2 (pick c (pick f 4 (pick g 5 2)) (pick h 3 (n + 6))))) ≡ pick b WRONG (pick c WRONG 0)
    go true a true c z f g h = refl
    go true a false true z f g h = refl
    go true a false false z f g h = absurd (let x = eqb-true kind 20 a in let y = ltb-false 7 kind z in omega arith)
    go false a true c z f g h = refl
    go false a false true z true g h = refl
    go false a false true z false true h = refl
    go false a false true z false false h = refl
    go false a false false z f g true = refl
    go false a false false z f g false = rw (ne_eqb (n + 6) 0 (λ w. omega arith), ne_eqb (n + 6) 3 (λ w. omega arith), lt-ltb 5 (n + 6) (omega arith)) refl

module _ (s codes xs : List ℕ) (e : codes ≡ map (code_in s) xs) (i : ℕ) where
  code_at : get_or codes i 0 ≡ code_in s (get_or xs i 0)
  unfolding code_in
  code_at = ap (λ (l : List ℕ). get_or l i 0) e ∙ get_or-map (code_in s) xs i 0

  pub number-coded : {r : ℕ} (most : ℕ) (nullable : Bool) → most ≤ 4294967295 → r ≡ number_by most nullable (get_or codes i 0) → r ≡ number_in most nullable s (get_or xs i 0)
  unfolding number_in number_by
  number-coded most nullable l q = q ∙ ap (number_by most nullable) code_at ∙ code_by (number_by most nullable) (λ x. number_of most nullable x.kind x.number) refl refl (λ x. by_number most nullable l x.kind x.number) s (get_or xs i 0)

  pub flag-coded : {r : ℕ} → r ≡ flag_by (get_or codes i 0) → r ≡ flag_in s (get_or xs i 0)
  unfolding flag_in flag_by
  flag-coded q = q ∙ ap flag_by code_at ∙ code_by flag_by (λ x. flag_of x.kind) refl refl (λ x. by_flag x.kind x.number) s (get_or xs i 0)

  pub wide-coded : {r : ℕ} → r ≡ wide_by (get_or codes i 0) → r ≡ wide_in s (get_or xs i 0)
  unfolding wide_in wide_by
  wide-coded q = q ∙ ap wide_by code_at ∙ code_by wide_by (λ x. wide_of x.kind) refl refl (λ x. by_wide x.kind x.number) s (get_or xs i 0)

-- ---- the container with a head

pub on-head : (kind d : ℕ) (s : List ℕ) (listed : List Bool) (at : ℕ) {e : Element} → head_at s at ≡ Some e → inside_at kind d s listed at ≡ inside_on kind d s listed e
unfolding inside_at inside_on
on-head kind zero s listed at h = refl
on-head kind (suc d) s listed at h = simp h

module _ (kind d : ℕ) (s : List ℕ) (listed : List Bool) (e : Element) where
  pub on-other : (e.kind ≡ kind → ⊥) → inside_on kind d s listed e ≡ bad
  unfolding inside_on
  on-other q = elim d as (λ z. inside_on kind z s listed e ≡ bad) [ zero ↦ refl | suc z ↦ simp (ne_eqb _ _ q) ]

  pub on-deep : d ≡ 0 → inside_on kind d s listed e ≡ bad
  unfolding inside_on
  on-deep = elim d as (λ z. z ≡ 0 → inside_on kind z s listed e ≡ bad) [ zero ↦ λ r. refl | suc z ↦ λ r. absurd (omega arith) ]

  pub on_in : e.kind ≡ kind → (d ≡ 0 → ⊥) → inside_on kind d s listed e ≡ fields_at (d - 1) s kind listed e.next.at
  unfolding inside_on
  on_in q = elim d as (λ z. (z ≡ 0 → ⊥) → inside_on kind z s listed e ≡ fields_at (z - 1) s kind listed e.next.at) [ zero ↦ λ r. absurd (r refl) | suc z ↦ λ r. (let p : suc z - 1 ≡ z = omega arith in simp (eq-eqb _ _ q, p)) ]

-- ---- what is left of a container after a pass: at a stop, the member whose head was read and then the rest

unfoldable pub resumed : ℕ → List ℕ → ℕ → List Bool → Pass → Got (List ℕ)
resumed d s kind listed r =
    pick r.good
    (pick (ltb r.slot 10) (bind_g (element_end d s r.head) (λ u n. fields_from d s kind listed r.at n)) (got r.at r.head.next.at))
    bad

module _ (d : ℕ) (s : List ℕ) (kind : ℕ) (listed : List Bool) (r : Pass) where
  pub left-none : r.good ≡ false → resumed d s kind listed r ≡ bad
  unfolding resumed
  left-none g = simp g

  pub left_end : r.good ≡ true → 10 ≤ r.slot → resumed d s kind listed r ≡ got r.at r.head.next.at
  unfolding resumed
  left_end g l = simp (g, le-ltb _ _ l)

  pub left-stop : r.good ≡ true → r.slot < 10 → resumed d s kind listed r ≡ bind_g (element_end d s r.head) (λ u n. fields_from d s kind listed r.at n)
  unfolding resumed
  left-stop g l = simp (g, lt-ltb _ _ l)

set_other : (xs : List ℕ) (i j v : ℕ) → (i ≡ j → ⊥) → get_or (set xs i v) j 0 ≡ get_or xs j 0
set_other [] i j v n = refl
set_other (x ∷ xs) zero zero v n = absurd (n refl)
set_other (x ∷ xs) zero (suc j) v n = refl
set_other (x ∷ xs) (suc i) zero v n = refl
set_other (x ∷ xs) (suc i) (suc j) v n = set_other xs i j v (λ e. n (ap suc e))

set_here : (xs : List ℕ) (i v : ℕ) → i < length xs → get_or (set xs i v) i 0 ≡ v
set_here [] i v l = absurd (omega arith)
set_here (x ∷ xs) zero v l = refl
set_here (x ∷ xs) (suc i) v l = set_here xs i v (omega arith)

clash : false ≡ true → ⊥
clash e = let z : ◌≡◌ {A = ℕ} 1 0 = ap (λ (b : Bool). pick b 0 1) e in omega arith

-- a stop is at a member of a slot where it is to stop, and has its head
pub record Stops (s : List ℕ) (stops : List Bool) (r : Pass) : Type 0 where
  pub sound : r.good ≡ true
  pub wanted : get_or stops r.slot false ≡ true
  pub place : ℕ
  pub placed : get_or r.at r.slot 0 ≡ place + 1
  pub here : head_at s place ≡ Some r.head

-- WHAT A PASS SAYS of what is left of a container; what was seen before stays; where it is to stop, it has seen only the member where it has
pub record Left (d : ℕ) (s : List ℕ) (kind : ℕ) (listed stops : List Bool) (before : List ℕ) (g : Got (List ℕ)) (r : Pass) : Type 0 where
  pub left : g ≡ resumed d s kind listed r
  pub coded : r.codes ≡ map (code_in s) r.at
  pub ten : length r.at ≡ 10
  pub stopped : r.slot < 10 → Stops s stops r
  pub kept : r.good ≡ true → (i v : ℕ) → get_or before i 0 ≡ v + 1 → get_or r.at i 0 ≡ v + 1
  pub passed : r.good ≡ true → (i : ℕ) → get_or stops i false ≡ true → (r.slot ≡ i → ⊥) → get_or r.at i 0 ≡ get_or before i 0
  pub free : r.slot < 10 → get_or before r.slot 0 ≡ 0

module _ (d : ℕ) (s : List ℕ) (kind : ℕ) (listed stops : List Bool) (seen : List ℕ) {g : Got (List ℕ)} where
  pub left-bad : g ≡ bad → Left d s kind listed stops seen g no_pass
  unfolding code_in
  left-bad q = record { left = q ∙ sym (left-none d s kind listed no_pass refl); coded = refl; ten = refl; stopped = λ l. absurd (omega arith); kept = λ b. absurd (clash b); passed = λ b. absurd (clash b); free = λ l. absurd (omega arith) }

  left-last : (e : Element) (codes : List ℕ) → length seen ≡ 10 → codes ≡ map (code_in s) seen → g ≡ got seen e.next.at → Left d s kind listed stops seen g (pass_at 10 e seen codes)
  left-last e codes n k q = record { left = q ∙ sym (left_end d s kind listed (pass_at 10 e seen codes) refl (omega arith)); coded = k; ten = n; stopped = λ l. absurd (omega arith); kept = λ b i v w. w; passed = λ b i w m. refl; free = λ l. absurd (omega arith) }

  left_at : (at i : ℕ) {e : Element} (codes : List ℕ) → length seen ≡ 10 → codes ≡ map (code_in s) (set seen i (at + 1)) → i < 10 → head_at s at ≡ Some e → get_or seen i 0 ≡ 0 → get_or stops i false ≡ true → g ≡ bind_g (element_end d s e) (λ u n. fields_from d s kind listed (set seen i (at + 1)) n) → Left d s kind listed stops seen g (pass_at i e (set seen i (at + 1)) codes)
  left_at at i {e = x} codes n k l h y w q = record {
    left = q ∙ sym (left-stop d s kind listed (pass_at i x (set seen i (at + 1)) codes) refl l);
    coded = k;
    ten = simp length-set n;
    stopped = λ m. record { sound = refl; wanted = w; place = at; placed = set_here seen i (at + 1) (omega arith); here = h };
    kept = λ b j v u. set_other seen i j (at + 1) (λ z. taken j v u z) ∙ u;
    passed = λ b j u m. set_other seen i j (at + 1) m;
    free = λ m. y;
  }
    where
      taken : (j v : ℕ) → get_or seen j 0 ≡ v + 1 → i ≡ j → ⊥
      taken j v u z = let o : get_or seen i 0 ≡ v + 1 = ap (λ (k : ℕ). get_or seen k 0) z ∙ u in omega arith

  -- a member that was walked, put in a slot where the pass is not to stop
  left-put : (i v : ℕ) {r : Pass} {f : Got (List ℕ)} → length seen ≡ 10 → get_or seen i 0 ≡ 0 → get_or stops i false ≡ false → g ≡ f → Left d s kind listed stops (set seen i v) f r → Left d s kind listed stops seen g r
  left-put i v {r} n y w q L = record {
    left = q ∙ L.left;
    coded = L.coded;
    ten = L.ten;
    stopped = L.stopped;
    kept = λ b j x u. L.kept b j x (set_other seen i j v (λ z. taken j x u z) ∙ u);
    passed = λ b j u m. L.passed b j u m ∙ set_other seen i j v (λ z. other j u z);
    free = λ m. (let j = r.slot in vacant j (eqb i j) refl (L.free m));
  }
    where
      taken : (j x : ℕ) → get_or seen j 0 ≡ x + 1 → i ≡ j → ⊥
      taken j x u z = let o : get_or seen i 0 ≡ x + 1 = ap (λ (k : ℕ). get_or seen k 0) z ∙ u in omega arith

      other : (j : ℕ) → get_or stops j false ≡ true → i ≡ j → ⊥
      other j u z = clash (sym w ∙ ap (λ (k : ℕ). get_or stops k false) z ∙ u)

      vacant : (j : ℕ) (b : Bool) → eqb i j ≡ b → get_or (set seen i v) j 0 ≡ 0 → get_or seen j 0 ≡ 0
      vacant j true e u = ap (λ (k : ℕ). get_or seen k 0) (sym (eqb-true i j e)) ∙ y
      vacant j false e u = sym (set_other seen i j v (eqb-false i j e)) ∙ u

  left-same : {r : Pass} {f : Got (List ℕ)} → g ≡ f → Left d s kind listed stops seen f r → Left d s kind listed stops seen g r
  left-same q L = record { left = q ∙ L.left; coded = L.coded; ten = L.ten; stopped = L.stopped; kept = L.kept; passed = L.passed; free = L.free }

-- one member after which the pass goes on so
module _ (d : ℕ) (s : List ℕ) (kind : ℕ) (listed stops : List Bool) (seen codes : List ℕ) (at : ℕ) (n : length seen ≡ 10) (k : codes ≡ map (code_in s) seen) (rest : List ℕ → List ℕ → ℕ → Pass) (on : (xs ks : List ℕ) (m : ℕ) → at < m → length xs ≡ 10 → ks ≡ map (code_in s) xs → Left d s kind listed stops xs (fields_from d s kind listed xs m) (rest xs ks m)) where
  abbrev Here : Pass → Type 0
  Here r = Left d s kind listed stops seen (fields_from d s kind listed seen at) r

  left-member : {e : Element} → head_at s at ≡ Some e → (e.kind ≡ end_of_container → ⊥) → allowed_in kind e.form ≡ true → (i : ℕ) → i ≡ slot_of listed e.form e.tag → Here (pass_member d s stops rest seen codes at e i)
  unfolding pass_member pass_listed
  left-member {e} h q a i z = go (ltb i 10) refl (eqb (get_or seen i 0) 0) refl (get_or stops i false) refl (element_end d s e) refl
    where
      ahead : {m : ℕ} → element_end d s e ≡ got tt m → at < m
      ahead w = (subst (Ahead at (length s)) w (end-forward d s at e h)).0

      kept : set codes i (code_of e.kind e.number) ≡ map (code_in s) (set seen i (at + 1))
      kept = codes-put s codes seen i at k h refl

      first : ltb i 10 ≡ true → eqb (get_or seen i 0) 0 ≡ true → {g : Got (Unit {0})} → element_end d s e ≡ g → fields_from d s kind listed seen at ≡ bind_g g (λ u m. fields_from d s kind listed (set seen i (at + 1)) m)
      first l y w = put_first d s kind listed seen at h q a z (ltb-true i 10 l) (eqb-true _ 0 y) ∙ ap (λ g. bind_g g (λ u m. fields_from d s kind listed (set seen i (at + 1)) m)) w

      go : (x : Bool) → ltb i 10 ≡ x → (y : Bool) → eqb (get_or seen i 0) 0 ≡ y → (w : Bool) → get_or stops i false ≡ w → (g : Got (Unit {0})) → element_end d s e ≡ g → Here (choose x (λ _. choose y (λ _. choose w (λ _. pass_at i e (set seen i (at + 1)) (set codes i (code_of e.kind e.number))) (λ _. pass_on (rest (set seen i (at + 1)) (set codes i (code_of e.kind e.number))) g)) (λ _. no_pass)) (λ _. pass_on (rest seen codes) g))
      go false l y ey w ew bad eg = left-bad d s kind listed stops seen (broken-member d s kind listed seen at h q a (ap ended eg))
      go false l y ey w ew (got tt m) eg = left-same d s kind listed stops seen (other-member d s kind listed seen at h q a (ap ended eg) z (ltb-false i 10 l)) (on seen codes m (ahead eg) n k)
      go true l false ey w ew g eg = left-bad d s kind listed stops seen (put-twice d s kind listed seen at h q a z (ltb-true i 10 l) (eqb-false _ 0 ey))
      go true l true ey true ew g eg = left_at d s kind listed stops seen at i (set codes i (code_of e.kind e.number)) n kept (ltb-true i 10 l) h (eqb-true _ 0 ey) ew (first l ey refl)
      go true l true ey false ew bad eg = left-bad d s kind listed stops seen (first l ey eg)
      go true l true ey false ew (got tt m) eg = left-put d s kind listed stops seen i (at + 1) n (eqb-true _ 0 ey) ew (first l ey eg) (on (set seen i (at + 1)) (set codes i (code_of e.kind e.number)) m (ahead eg) (simp length-set n) kept)

  left_by : (h : (Option Element)) → head_at s at ≡ h → Here (pass_by d s kind listed stops rest seen codes at h)
  unfolding pass_by
  left_by None h = left-bad d s kind listed stops seen (no_member d s kind listed seen at h)
  left_by (Some e) h = go (eqb e.kind end_of_container) refl (allowed_in kind e.form) refl
    where
      go : (x : Bool) → eqb e.kind end_of_container ≡ x → (y : Bool) → allowed_in kind e.form ≡ y → Here (choose x (λ _. pass_at 10 e seen codes) (λ _. choose y (λ _. pass_member d s stops rest seen codes at e (slot_of listed e.form e.tag)) (λ _. no_pass)))
      go true x y b = left-last d s kind listed stops seen e codes n k (last-member d s kind listed seen at h (eqb-true _ _ x))
      go false x true b = left-member h (eqb-false _ _ x) b (slot_of listed e.form e.tag) refl
      go false x false b = left-bad d s kind listed stops seen (barred-member d s kind listed seen at h (eqb-false _ _ x) b)

left_in : (d : ℕ) (s : List ℕ) (kind : ℕ) (listed stops : List Bool) (f : ℕ) (seen codes : List ℕ) (at : ℕ) → length s ≤ at + f → length seen ≡ 10 → codes ≡ map (code_in s) seen → Left d s kind listed stops seen (fields_from d s kind listed seen at) (pass_in f d s kind listed stops seen codes at)
unfolding pass_in
left_in d s kind listed stops zero seen codes at b n k = left-bad d s kind listed stops seen (no_member d s kind listed seen at (no-head s at (omega arith)))
left_in d s kind listed stops (suc f) seen codes at b n k = left_by d s kind listed stops seen codes at n k (λ xs ks m. pass_in f d s kind listed stops xs ks m) (λ xs ks m l. left_in d s kind listed stops f xs ks m (omega arith)) (head_at s at) refl

-- of the pass over the container with a head
abbrev pub Over : ℕ → ℕ → List ℕ → List Bool → List Bool → Element → Pass → Type 0
Over kind d s listed stops e r = Left (d - 1) s kind listed stops (replicate 10 0) (inside_on kind d s listed e) r

-- THE LAW of a pass that goes on, and of one over a container
module _ (d : ℕ) {s : List ℕ} {kind : ℕ} {listed stops : List Bool} {r : Pass} where
  resumes : (seen codes : List ℕ) (at : ℕ) → length seen ≡ 10 → codes ≡ map (code_in s) seen → r ≡ pass_from d s kind listed stops seen codes at → Left d s kind listed stops seen (fields_from d s kind listed seen at) r
  unfolding pass_from
  resumes seen codes at n k e = rw e (left_in d s kind listed stops (length s) seen codes at (omega arith) n k)

  pub begun : (e : Element) → r ≡ pass_of kind d s listed stops e → Over kind d s listed stops e r
  unfolding pass_of inside_on fields_at pass_from code_in
  begun e q = rw q (elim d as (λ z. Left (z - 1) s kind listed stops (replicate 10 0) (inside_on kind z s listed e) (pass_of kind z s listed stops e)) [ zero ↦ left-bad 0 s kind listed stops (replicate 10 0) refl | suc z ↦ (let p : suc z - 1 ≡ z = omega arith in rw p (go z (eqb e.kind kind))) ])
    where
      go : (z : ℕ) (b : Bool) → Left z s kind listed stops (replicate 10 0) (pick b (fields_from z s kind listed (replicate 10 0) e.next.at) bad) (pick b (pass_in (length s) z s kind listed stops (replicate 10 0) (replicate 10 0) e.next.at) no_pass)
      go z true = left_in z s kind listed stops (length s) (replicate 10 0) (replicate 10 0) e.next.at (omega arith) refl refl
      go z false = left-bad z s kind listed stops (replicate 10 0) refl

-- ---- members that are found stay, and end where their container ends

abbrev pub Under : {S : Type 0} → (S → Type 0) → Got S → Got (Unit {0}) → Type 0
Under P bad w = Unit {0}
Under P (got x n) w = P x × (w ≡ got tt n)

module _ {S : Type 0} (P : S → Type 0) (step : S → ℕ → Element → Got S) (walk : Element → Got (Unit {0})) (s : List ℕ) (keeps : (x : S) (p : ℕ) (e : Element) → head_at s p ≡ Some e → P x → Under P (step x p e) (walk e)) (kind : ℕ) where
  under-bind : (g : Got S) (w : Got (Unit {0})) (f : S → ℕ → Got S) (f' : Unit {0} → ℕ → Got (Unit {0})) → Under P g w → ((x : S) (n : ℕ) → P x → Under P (f x n) (f' tt n)) → Under P (bind_g g f) (bind_g w f')
  under-bind bad w f f' u k = tt
  under-bind (got x n) w f f' u k = rw u.1 (k x n u.0)

  under-by : (x : S) (p : ℕ) → P x → (rest : S → ℕ → Got S) (rest' : Unit {0} → ℕ → Got (Unit {0})) → ((y : S) (n : ℕ) → P y → Under P (rest y n) (rest' tt n)) → (h : (Option Element)) → head_at s p ≡ h → Under P (fold_by kind x (step x p) rest h) (fold_by kind tt walk rest' h)
  unfolding fold_by
  under-by x p k rest rest' r None hh = tt
  under-by x p k rest rest' r (Some e) hh = go (eqb e.kind end_of_container) (allowed_in kind e.form)
    where
      go : (a b : Bool) → Under P (choose a (λ _. got x e.next.at) (λ _. choose b (λ _. bind_g (step x p e) rest) (λ _. bad))) (choose a (λ _. got tt e.next.at) (λ _. choose b (λ _. bind_g (walk e) rest') (λ _. bad)))
      go true b = (k, refl)
      go false true = under-bind (step x p e) (walk e) rest rest' (keeps x p e hh k) r
      go false false = tt

  pub fold-under : (f : ℕ) (x : S) (at : ℕ) → P x → Under P (fold_at step f s kind x at) (fold_at (λ u p e. walk e) f s kind tt at)
  unfolding fold_at
  fold-under zero x at k = tt
  fold-under (suc f) x at k = under-by x at k (λ y n. fold_at step f s kind y n) (λ u n. fold_at (λ u p e. walk e) f s kind u n) (λ y n j. fold-under f y n j) (head_at s at) refl

module _ (d : ℕ) (s : List ℕ) (listed : List Bool) (j v : ℕ) where
  abbrev Holds : List ℕ → Type 0
  Holds xs = get_or xs j 0 ≡ v + 1

  put_holds : (xs : List ℕ) (i at n : ℕ) → Holds xs → Under Holds (put_at xs i at n) (got tt n)
  unfolding put_at
  put_holds xs i at n k = go (ltb i 10) (eqb (get_or xs i 0) 0) refl
    where
      go : (a b : Bool) → eqb (get_or xs i 0) 0 ≡ b → Under Holds (pick a (pick b (got (set xs i (at + 1)) n) bad) (got xs n)) (got tt n)
      go true true e = (set_other xs i j (at + 1) (λ w. (let x = eqb-true (get_or xs i 0) 0 e in let y : get_or xs i 0 ≡ v + 1 = ap (λ (m : ℕ). get_or xs m 0) w ∙ k in omega arith)) ∙ k, refl)
      go true false e = tt
      go false b e = (k, refl)

  end-holds : (xs : List ℕ) (i at : ℕ) (g : Got (Unit {0})) → Holds xs → Under Holds (put_end xs i at g) g
  end-holds xs i at bad k = tt
  end-holds xs i at (got tt n) k = put_holds xs i at n k

  fields-under : (kind : ℕ) (xs : List ℕ) (at : ℕ) → Holds xs → Under Holds (fields_from d s kind listed xs at) (members_end d s kind at)
  unfolding fields_from field_step members_end
  fields-under kind xs at k = fold-under Holds (field_step d s listed) (element_end d s) s (λ ys p e h y. end-holds ys (slot_of listed e.form e.tag) p (element_end d s e) y) kind (length s) xs at k

  -- THE LAW of a member that was found
  pub fields_keep : (kind : ℕ) (xs : List ℕ) (at : ℕ) {ys : List ℕ} {n : ℕ} → get_or xs j 0 ≡ v + 1 → fields_from d s kind listed xs at ≡ got ys n → get_or ys j 0 ≡ v + 1
  fields_keep kind xs at k w = (subst (λ (g : Got (List ℕ)). Under Holds g (members_end d s kind at)) w (fields-under kind xs at k)).0

-- THE LAW of a container's end: where its fields are found, its walk ends where they end
abbrev Anything : List ℕ → Type 0
Anything xs = Unit {0}

put-any : (xs : List ℕ) (i at n : ℕ) → Under Anything (put_at xs i at n) (got tt n)
unfolding put_at
put-any xs i at n = go (ltb i 10) (eqb (get_or xs i 0) 0)
  where
    go : (a b : Bool) → Under Anything (pick a (pick b (got (set xs i (at + 1)) n) bad) (got xs n)) (got tt n)
    go true true = (tt, refl)
    go true false = tt
    go false b = (tt, refl)

end-any : (xs : List ℕ) (i at : ℕ) (g : Got (Unit {0})) → Under Anything (put_end xs i at g) g
end-any xs i at bad = tt
end-any xs i at (got tt n) = put-any xs i at n

pub fields-end : (d : ℕ) (s : List ℕ) (listed : List Bool) (kind : ℕ) (xs : List ℕ) (at : ℕ) {ys : List ℕ} {n : ℕ} → fields_from d s kind listed xs at ≡ got ys n → members_end d s kind at ≡ got tt n
unfolding fields_from field_step members_end
fields-end d s listed kind xs at w = (subst (λ (g : Got (List ℕ)). Under Anything g (fold_at (λ u p e. element_end d s e) (length s) s kind tt at)) w (fold-under Anything (field_step d s listed) (element_end d s) s (λ ys p e h y. end-any ys (slot_of listed e.form e.tag) p (element_end d s e)) kind (length s) xs at tt)).1

-- ---- a frame: the members of the container with a head, and what is made of them

never : {A : Type 0} {n : ℕ} {xs : List ℕ} → ◌≡◌ {A = Got (List ℕ)} bad (got xs n) → A
never e = absurd (let z : ◌≡◌ {A = ℕ} 0 1 = cc in omega arith)

module _ {A : Type 0} (kind d : ℕ) (s : List ℕ) (tags : List Bool) (F : List ℕ → Option A) (e : Element) where
  pub frame_here : (at : ℕ) → head_at s at ≡ Some e → bind_g (inside_at kind d s tags at) (λ seen n. place (F seen) n) ≡ frame_on kind d s tags F e
  frame_here at h = ap (λ g. bind_g g (λ seen n. place (F seen) n)) (on-head kind d s tags at h)

  pub frame-ends : structure ≤ kind → kind ≤ list → {x : A} {n : ℕ} → frame_on kind d s tags F e ≡ got x n → element_end d s e ≡ got tt n
  unfolding fields_at
  frame-ends lo hi {x} {n} w = go (inside_on kind d s tags e) refl w
    where
      no : {B : Type 0} → ◌≡◌ {A = Got A} bad (got x n) → B
      no z = absurd (let y : ◌≡◌ {A = ℕ} 0 1 = cc in omega arith)

      put : (o : Option A) (m : ℕ) → place o m ≡ got x n → m ≡ n
      put (Some y) m z = cc
      put None m z = no z

      inner : (xs : List ℕ) (m : ℕ) → inside_on kind d s tags e ≡ got xs m → element_end d s e ≡ got tt m
      inner xs m z = at-kind (eqb e.kind kind) refl (eqb d 0) refl
        where
          at-kind : (a : Bool) → eqb e.kind kind ≡ a → (b : Bool) → eqb d 0 ≡ b → element_end d s e ≡ got tt m
          at-kind false q b r = never (sym (on-other kind d s tags e (eqb-false e.kind kind q)) ∙ z)
          at-kind true q true r = never (sym (on-deep kind d s tags e (eqb-true d 0 r)) ∙ z)
          at-kind true q false r =
              let k = eqb-true e.kind kind q in
              end-within d s e (omega arith) (omega arith) (eqb-false d 0 r)
              ∙ ap (λ (i : ℕ). members_end (d - 1) s i e.next.at) k
              ∙ fields-end (d - 1) s tags kind (replicate 10 0) e.next.at (sym (on_in kind d s tags e k (eqb-false d 0 r)) ∙ z)

      go : (g : Got (List ℕ)) → inside_on kind d s tags e ≡ g → bind_g g (λ seen m. place (F seen) m) ≡ got x n → element_end d s e ≡ got tt n
      go bad z y = no y
      go (got xs m) z y = inner xs m z ∙ ap (got tt) (put (F xs) m y)

module _ {A : Type 0} (F : List ℕ → Option A) {d : ℕ} {s : List ℕ} {kind : ℕ} {tags stops : List Bool} {before : List ℕ} {t : Got (List ℕ)} {r : Pass} (L : Left d s kind tags stops before t r) where
  pub frame-none : r.good ≡ false → made F t ≡ bad
  frame-none g = ap (made F) (L.left ∙ left-none d s kind tags r g)

  pub frame-end : r.good ≡ true → 10 ≤ r.slot → {o : Option A} → F r.at ≡ o → made F t ≡ place o r.head.next.at
  frame-end g l f = ap (made F) (L.left ∙ left_end d s kind tags r g l) ∙ ap (λ o. place o r.head.next.at) f

  -- a stop at a member that its reader refuses
  frame_refused : (l : r.slot < 10) → ((xs : List ℕ) → get_or xs r.slot 0 ≡ (L.stopped l).place + 1 → F xs ≡ None) → made F t ≡ bad
  frame_refused l refuses = ap (made F) (L.left ∙ left-stop d s kind tags r (L.stopped l).sound l) ∙ go (element_end d s r.head)
    where
      rest : (n : ℕ) (h : Got (List ℕ)) → fields_from d s kind tags r.at n ≡ h → made F h ≡ bad
      rest n bad z = refl
      rest n (got xs m) z = ap (λ o. place o m) (refuses xs (fields_keep d s tags r.slot (L.stopped l).place kind r.at n (L.stopped l).placed z))

      go : (h : Got (Unit {0})) → made F (bind_g h (λ u n. fields_from d s kind tags r.at n)) ≡ bad
      go bad = refl
      go (got u n) = rest n (fields_from d s kind tags r.at n) refl

-- a stop at a member that its reader reads: the pass that goes on after it is one of the same container
module _ {d : ℕ} {s : List ℕ} {kind : ℕ} {tags stops : List Bool} {before : List ℕ} {t : Got (List ℕ)} {r : Pass} (L : Left d s kind tags stops before t r) (l : r.slot < 10) {n : ℕ} (w : element_end d s r.head ≡ got tt n) (further : List Bool) {z : Pass} (q : z ≡ pass_from d s kind tags further r.at r.codes n) where
  after : Left d s kind tags further r.at (fields_from d s kind tags r.at n) z
  after = resumes d r.at r.codes n L.ten L.coded q

  goes_on_lem : Left d s kind tags further r.at t z
  goes_on_lem = let M = after in record { left = L.left ∙ left-stop d s kind tags r (L.stopped l).sound l ∙ ap (λ h. bind_g h (λ u m. fields_from d s kind tags r.at m)) w ∙ M.left; coded = M.coded; ten = M.ten; stopped = M.stopped; kept = M.kept; passed = M.passed; free = M.free }

-- a pass that is to stop nowhere does not stop
pub nowhere : {d : ℕ} {s : List ℕ} {kind : ℕ} {tags : List Bool} {before : List ℕ} {t : Got (List ℕ)} {r : Pass} → Left d s kind tags (replicate 10 false) before t r → 10 ≤ r.slot
nowhere {r = r} L = go (ltb r.slot 10) refl
  where
    go : (b : Bool) → ltb r.slot 10 ≡ b → 10 ≤ r.slot
    go true e = absurd (clash (sym (get_or-replicate 10 r.slot false false (ltb-true r.slot 10 e)) ∙ (L.stopped (ltb-true r.slot 10 e)).wanted))
    go false e = ltb-false r.slot 10 e

pub none_true : (n j : ℕ) → get_or (replicate n false) j false ≡ true → ⊥
none_true zero j e = clash e
none_true (suc n) zero e = clash e
none_true (suc n) (suc j) e = none_true n j e

pub only-first : (j : ℕ) → get_or (true ∷ replicate 9 false) j false ≡ true → j ≡ 0
only-first zero e = refl
only-first (suc j) e = absurd (none_true 9 j e)

pub only-second : (j : ℕ) → get_or (false ∷ true ∷ replicate 8 false) j false ≡ true → j ≡ 1
only-second zero e = absurd (clash e)
only-second (suc zero) e = refl
only-second (suc (suc j)) e = absurd (none_true 8 j e)

pub only_third : (j : ℕ) → get_or (false ∷ false ∷ true ∷ replicate 7 false) j false ≡ true → j ≡ 2
only_third zero e = absurd (clash e)
only_third (suc zero) e = absurd (clash e)
only_third (suc (suc zero)) e = refl
only_third (suc (suc (suc j))) e = absurd (none_true 7 j e)

pub first-or-second : (j : ℕ) → get_or (true ∷ true ∷ replicate 8 false) j false ≡ true → (j ≡ 0 → ⊥) → j ≡ 1
first-or-second zero e n = absurd (n refl)
first-or-second (suc zero) e n = refl
first-or-second (suc (suc j)) e n = absurd (none_true 8 j e)

-- ---- a reader by a place and by a head: they agree, and end where the element ends

pub record Reads {B : Type 0} (d : ℕ) (s : List ℕ) (read : ℕ → Got B) (on : Element → Got B) : Type 0 where
  pub here : (at : ℕ) (e : Element) → head_at s at ≡ Some e → read at ≡ on e
  pub none : (at : ℕ) → head_at s at ≡ None → read at ≡ bad
  pub ends : (e : Element) (x : B) (n : ℕ) → on e ≡ got x n → element_end d s e ≡ got tt n

pub frame-reads : {A : Type 0} (kind d : ℕ) (s : List ℕ) (tags : List Bool) (F : List ℕ → Option A) → structure ≤ kind → kind ≤ list → Reads d s (λ at. bind_g (inside_at kind d s tags at) (λ seen n. place (F seen) n)) (frame_on kind d s tags F)
frame-reads kind d s tags F lo hi = record { here = λ at e h. frame_here kind d s tags F e at h; none = λ at h. ap (λ g. bind_g g (λ seen n. place (F seen) n)) (inside-none kind d s tags at h); ends = λ e x n w. frame-ends kind d s tags F e lo hi w }

pub frame-deep : {A : Type 0} (kind d : ℕ) (s : List ℕ) (tags : List Bool) (F : List ℕ → Option A) (e : Element) → d ≡ 0 → frame_on kind d s tags F e ≡ bad
frame-deep kind d s tags F e q = ap (λ g. bind_g g (λ seen n. place (F seen) n)) (on-deep kind d s tags e q)

-- the pass of an answer is the pass of what it says
pub pass-as : {o r : Option Stop} {at codes : List ℕ} {z : Pass} → o ≡ r → pass_with o at codes ≡ z → pass_with r at codes ≡ z
pass-as {at = xs} {codes = ks} w q = ap (λ (x : Option Stop). pass_with x xs ks) (sym w) ∙ q

-- ---- a member of slot i that a reader of its own reads, in one pass

-- it was read so, and the pass after it is the last of its container
pub record Finished {A B : Type 0} (s : List ℕ) (F : List ℕ → Option A) (t : Got (List ℕ)) (read : ℕ → Got B) (i : ℕ) (x : B) (z : Pass) : Type 0 where
  pub none : z.good ≡ false → made F t ≡ bad
  pub ends : z.good ≡ true → {o : Option A} → F z.at ≡ o → made F t ≡ place o z.head.next.at
  pub found : z.good ≡ true → required_in read (get_or z.at i 0) ≡ Some x
  pub there : z.good ≡ true → get_or z.at i 0 ≡ 0 → ⊥
  pub coded : z.codes ≡ map (code_in s) z.at

module _ {B : Type 0} {d : ℕ} {s : List ℕ} {kind : ℕ} {tags stops : List Bool} {before : List ℕ} {t : Got (List ℕ)} {r : Pass} (L : Left d s kind tags stops before t r) {i : ℕ} (is : r.slot ≡ i) (l : r.slot < 10) {read : ℕ → Got B} {on : Element → Got B} (reads : Reads d s read on) where
  abbrev Placed : List ℕ → Type 0
  Placed xs = get_or xs i 0 ≡ (L.stopped l).place + 1

  here-placed : Placed r.at
  here-placed = ap (λ (j : ℕ). get_or r.at j 0) (sym is) ∙ (L.stopped l).placed

  in-slot : (xs : List ℕ) → get_or xs r.slot 0 ≡ (L.stopped l).place + 1 → Placed xs
  in-slot xs k = ap (λ (j : ℕ). get_or xs j 0) (sym is) ∙ k

  there : (xs : List ℕ) → Placed xs → get_or xs i 0 ≡ 0 → ⊥
  there xs k q = omega arith

  read_here : (xs : List ℕ) → Placed xs → {h : Got B} → on r.head ≡ h → read (get_or xs i 0 - 1) ≡ h
  read_here xs k w = let q : get_or xs i 0 - 1 ≡ (L.stopped l).place = omega arith in ap read q ∙ reads.here (L.stopped l).place r.head (L.stopped l).here ∙ w

  found : (xs : List ℕ) → Placed xs → {h : Got B} → on r.head ≡ h → required_in read (get_or xs i 0) ≡ opt_of h
  found xs k w = required-some read (get_or xs i 0) (there xs k) (read_here xs k w)

  option : (o : B) (xs : List ℕ) → Placed xs → {h : Got B} → on r.head ≡ h → optional_in o read (get_or xs i 0) ≡ opt_of h
  option o xs k w = optional-some o read (get_or xs i 0) (there xs k) (read_here xs k w)

  module _ {A : Type 0} (F : List ℕ → Option A) (w : on r.head ≡ bad) where
    pub nest-no-option : (o : B) → ((xs : List ℕ) → optional_in o read (get_or xs i 0) ≡ None → F xs ≡ None) → made F t ≡ bad
    nest-no-option o lacks = frame_refused F L l (λ xs k. lacks xs (option o xs (in-slot xs k) w))

    pub nest-refused : ((xs : List ℕ) → (get_or xs i 0 ≡ 0 → ⊥) → required_in read (get_or xs i 0) ≡ None → F xs ≡ None) → made F t ≡ bad
    nest-refused lacks = frame_refused F L l (λ xs k. lacks xs (there xs (in-slot xs k)) (found xs (in-slot xs k) w))

  module _ {x : B} {n : ℕ} (w : on r.head ≡ got x n) (further : List Bool) {z : Pass} (q : z ≡ pass_from d s kind tags further r.at r.codes n) where
    pub nest-on : Left d s kind tags further r.at t z
    nest-on = goes_on_lem L l (reads.ends r.head x n w) further q

    pub nest-at : z.good ≡ true → Placed z.at
    nest-at a = nest-on.kept a i (L.stopped l).place here-placed

    pub nest-found : z.good ≡ true → required_in read (get_or z.at i 0) ≡ Some x
    nest-found a = found z.at (nest-at a) w

    pub nest-option : (o : B) → z.good ≡ true → optional_in o read (get_or z.at i 0) ≡ Some x
    nest-option o a = option o z.at (nest-at a) w

    pub nest-there : z.good ≡ true → get_or z.at i 0 ≡ 0 → ⊥
    nest-there a = there z.at (nest-at a)

  pub nest_last : {A : Type 0} (F : List ℕ → Option A) {x : B} {n : ℕ} → on r.head ≡ got x n → {z : Pass} → z ≡ pass_from d s kind tags (replicate 10 false) r.at r.codes n → Finished s F t read i x z
  nest_last F w q = let N = nest-on w (replicate 10 false) q in
      record { none = frame-none F N; ends = λ g. frame-end F N g (nowhere N); found = nest-found w (replicate 10 false) q; there = nest-there w (replicate 10 false) q; coded = N.coded }

-- a reader and then a test is a reader
pub then-reads : {A B : Type 0} (d : ℕ) (s : List ℕ) {read : ℕ → Got A} {on : Element → Got A} (f : A → Option B) → Reads d s read on → Reads d s (λ at. bind_g (read at) (λ a n. place (f a) n)) (λ e. bind_g (on e) (λ a n. place (f a) n))
then-reads {A} {B} d s {read} {on} f r = record {
  here = λ at e h. ap (λ g. bind_g g (λ a n. place (f a) n)) (r.here at e h);
  none = λ at h. ap (λ g. bind_g g (λ a n. place (f a) n)) (r.none at h);
  ends = λ e x n w. go e x n (on e) refl w;
}
  where
    no : {C : Type 0} {x : B} {n : ℕ} → ◌≡◌ {A = Got B} bad (got x n) → C
    no z = absurd (let y : ◌≡◌ {A = ℕ} 0 1 = cc in omega arith)

    put : (x : B) (n m : ℕ) (o : Option B) → place o m ≡ got x n → m ≡ n
    put x n m (Some y) z = cc
    put x n m None z = no z

    go : (e : Element) (x : B) (n : ℕ) (g : Got A) → on e ≡ g → bind_g g (λ a k. place (f a) k) ≡ got x n → element_end d s e ≡ got tt n
    go e x n bad z w = no w
    go e x n (got a m) z w = r.ends e a m z ∙ ap (got tt) (put x n m (f a) w)

-- a reader goes forward
pub reads-forward : {A : Type 0} (d : ℕ) (s : List ℕ) {read : ℕ → Got A} {on : Element → Got A} → Reads d s read on → Forward s (λ at e. read at)
reads-forward {A} d s {read} {on} r at e h = go (read at) refl
  where
    go : (g : Got A) → read at ≡ g → Ahead at (length s) g
    go bad w = tt
    go (got x n) w = subst (Ahead at (length s)) (r.ends e x n (sym (r.here at e h) ∙ w)) (end-forward d s at e h)
