-- The walk of an element and of a container, case by case.
use Rattle.std.specs.Prelude.{Some, None}
use mathlib.Core.Path.{◌≡◌, refl, ap, subst, ◌∙◌}
use mathlib.Core.Bool.{Bool, true, false}
use mathlib.Core.List.{List}
use Prim.Native.Nat.{ℕ, zero, suc, ◌-◌, ◌<◌, ◌≤◌}
use native.Mathlib.Omega.{arith}
use borrow.Author.Tests.{eq-eqb, le-ltb, lt-ltb}
use lib.ListN.{length}
use lib.Dec.{ltb, eqb}
use Rattle.base_bounds.specs.Bounds.{depth_limit}
use Rattle.tlv_reader.specs.declared.Cursor.{Cursor}
use Rattle.tlv_reader.specs.declared.Element.{Element}
use Rattle.tlv_reader.specs.Octet.{structure, list, end_of_container}
use Rattle.tlv_reader.specs.Head.{head_at}
use Rattle.std.proofs.lemmas.Option.{some_pair_parts}
use Rattle.tlv_reader.specs.Walk.{Got, choose, allowed_in, fold_at, element_by, element_end, members_end, element_at, ended, ends_at, is_message, read_of}
use Rattle.tlv_reader.specs.Walk.Got.{got, bad}
use Rattle.tlv_reader.proofs.Picks.{choose-elim}
use Rattle.tlv_reader.proofs.HeadLaws.{Onward, head-onward}
use Rattle.tlv_reader.proofs.FoldLaws.{Ahead, ahead-from, Forward, fold-ahead, fold-none, fold-ends, fold-barred, fold-breaks, fold_on}

-- a walk goes forward
by-forward : (at n : ℕ) (inner : ℕ → ℕ → Got (Unit {0})) (e : Element) → Onward at n (Some e) → ((k p : ℕ) → Ahead p n (inner k p)) → Ahead at n (element_by inner e)
unfolding element_by
by-forward at n inner e o r =
    choose-elim (Ahead at n) (ltb e.kind structure) _ _ (λ _. o)
    (λ _. choose-elim (Ahead at n) (ltb list e.kind) _ _ (λ _. tt) (λ _. ahead-from at e.next.at n (inner e.kind e.next.at) o.0 (r e.kind e.next.at)))

pub end-forward : (d : ℕ) (s : List ℕ) → Forward s (λ p e. element_end d s e)
unfolding element_end
end-forward zero s p e h = by-forward p (length s) (λ k n. bad) e (subst (Onward p (length s)) h (head-onward s p)) (λ k q. tt)
end-forward (suc d) s p e h =
    by-forward p (length s) (λ k n. fold_at (λ x at m. element_end d s m) (length s) s k tt n) e (subst (Onward p (length s)) h (head-onward s p))
    (λ k q. fold-ahead (λ x at m. element_end d s m) s (λ x. end-forward d s) (length s) k tt q)

-- an element by its type
module _ (d : ℕ) (s : List ℕ) (e : Element) where
  pub end-primitive : e.kind < structure → element_end d s e ≡ got tt e.next.at
  unfolding element_by element_end
  end-primitive l = elim d as (λ f. element_end f s e ≡ got tt e.next.at) [ zero ↦ simp (lt-ltb _ _ l) | suc f ↦ simp (lt-ltb _ _ l) ]

  pub end-lone : list < e.kind → element_end d s e ≡ bad
  unfolding element_by element_end
  end-lone l = elim d as (λ f. element_end f s e ≡ bad) [ zero ↦ simp (le-ltb e.kind structure (omega arith), lt-ltb _ _ l) | suc f ↦ simp (le-ltb e.kind structure (omega arith), lt-ltb _ _ l) ]

pub end-deep : (d : ℕ) (s : List ℕ) (e : Element) → structure ≤ e.kind → d ≡ 0 → element_end d s e ≡ bad
unfolding element_by element_end
end-deep zero s e l q = rw (le-ltb _ _ l) (same (ltb list e.kind))
  where
    same : (b : Bool) → ◌≡◌ {A = Got (Unit {0})} (choose b (λ _. bad) (λ _. bad)) bad
    same true = refl
    same false = refl
end-deep (suc d) s e l q = absurd (omega arith)

pub end-within : (d : ℕ) (s : List ℕ) (e : Element) → structure ≤ e.kind → e.kind ≤ list → (d ≡ 0 → ⊥) → element_end d s e ≡ members_end (d - 1) s e.kind e.next.at
unfolding element_by element_end members_end
end-within zero s e l u q = absurd (q refl)
end-within (suc d) s e l u q = let p : suc d - 1 ≡ d = omega arith in simp (le-ltb _ _ l, le-ltb _ _ u, p)

-- what an answer says of what was found
pub broken : (g : Got (Unit {0})) → ended g ≡ None → g ≡ bad
broken bad w = refl
broken (got x n) w = absurd (let z : ◌≡◌ {A = ℕ} 0 1 = cc in omega arith)

pub past : (g : Got (Unit {0})) {n : Cursor} → ended g ≡ Some n → g ≡ got tt n.at
past bad w = absurd (let z : ◌≡◌ {A = ℕ} 0 1 = cc in omega arith)
past (got u m) {n} w = let e : m ≡ n.at = cc in ap (got tt) e

-- what follows a head in a container
module _ (d : ℕ) (s : List ℕ) (kind at : ℕ) where
  pub none_left : head_at s at ≡ None → members_end d s kind at ≡ bad
  unfolding members_end
  none_left h = fold-none (λ x p m. element_end d s m) s (λ x. end-forward d s) kind tt at h

  module _ {e : Element} (h : head_at s at ≡ Some e) where
    pub ends : e.kind ≡ end_of_container → members_end d s kind at ≡ got tt e.next.at
    unfolding members_end
    ends q = fold-ends (λ x p m. element_end d s m) s (λ x. end-forward d s) kind tt at h q

    pub barred : (e.kind ≡ end_of_container → ⊥) → allowed_in kind e.form ≡ false → members_end d s kind at ≡ bad
    unfolding members_end
    barred q a = fold-barred (λ x p m. element_end d s m) s (λ x. end-forward d s) kind tt at h q a

    pub breaks : (e.kind ≡ end_of_container → ⊥) → allowed_in kind e.form ≡ true → ended (element_end d s e) ≡ None → members_end d s kind at ≡ bad
    unfolding members_end
    breaks q a w = fold-breaks (λ x p m. element_end d s m) s (λ x. end-forward d s) kind tt at h q a (broken (element_end d s e) w)

    pub goes_on_lem : {n : Cursor} → (e.kind ≡ end_of_container → ⊥) → allowed_in kind e.form ≡ true → ended (element_end d s e) ≡ Some n → members_end d s kind at ≡ members_end d s kind n.at
    unfolding members_end
    goes_on_lem q a w = fold_on (λ x p m. element_end d s m) s (λ x. end-forward d s) kind tt at h q a (past (element_end d s e) w)

    -- the measure of the loop over the members
    pub nearer : {n : Cursor} → ended (element_end d s e) ≡ Some n → length s - n.at < length s - at
    nearer {n} w = let a = subst (Ahead at (length s)) (past (element_end d s e) w) (end-forward d s at e h) in omega arith

pub at_head : (d : ℕ) (s : List ℕ) (at : ℕ) {e : Element} → head_at s at ≡ Some e → element_at d s at ≡ element_end d s e
unfolding element_at
at_head d s at h = simp h

pub at_none : (d : ℕ) (s : List ℕ) (at : ℕ) → head_at s at ≡ None → element_at d s at ≡ bad
unfolding element_at
at_none d s at h = simp h

-- a message is an untagged structure whose walk ends where the bytes end
module _ (s : List ℕ) {e : Element} (h : head_at s 0 ≡ Some e) (f : e.form ≡ 0) (k : e.kind ≡ structure) where
  pub message-is : is_message s ≡ ends_at (length s) (element_end depth_limit s e)
  unfolding is_message
  message-is = simp (h, eq-eqb _ _ f, eq-eqb _ _ k)

  pub message-broken : ended (element_end depth_limit s e) ≡ None → is_message s ≡ false
  message-broken w = message-is ∙ ap (ends_at (length s)) (broken (element_end depth_limit s e) w)

  pub message-past : {n : Cursor} → ended (element_end depth_limit s e) ≡ Some n → is_message s ≡ eqb n.at (length s)
  message-past w = message-is ∙ ap (ends_at (length s)) (past (element_end depth_limit s e) w)

-- ---- what a reader's answer says of what was found

pub read-lacks : {A : Type 0} (g : Got A) → read_of g ≡ None → g ≡ bad
read-lacks bad e = refl
read-lacks (got x n) e = absurd (let z : ◌≡◌ {A = ℕ} 0 1 = cc in omega arith)

pub read-has : {A : Type 0} (g : Got A) {x : A} {n : Cursor} → read_of g ≡ Some (x, n) → g ≡ got x n.at
read-has bad e = absurd (let z : ◌≡◌ {A = ℕ} 0 1 = cc in omega arith)
read-has (got y m) {x} {n} e =
    let p = some_pair_parts y x (record { at = m }) n e in
    rw (p.0, ← p.1) refl
