-- One pass over the members of a container: the equation with no bound, case by case for the code.
use Rattle.std.specs.Prelude.{Some, None, Option}
use mathlib.Core.Path.{◌≡◌, refl, sym, ap, ◌∙◌}
use mathlib.Core.Bool.{Bool, true, false}
use mathlib.Core.List.{List}
use Prim.Native.Nat.{ℕ, zero, suc, ◌+◌, ◌-◌, ◌<◌, ◌≤◌}
use native.Mathlib.Omega.{arith}
use borrow.Author.Tests.{eq-eqb, ne_eqb, le-ltb, lt-ltb}
use lib.ListN.{length, get_or, set, replicate}
use Rattle.tlv_reader.specs.declared.Cursor.{Cursor}
use Rattle.tlv_reader.specs.declared.Element.{Element}
use Rattle.tlv_reader.specs.Octet.{end_of_container}
use Rattle.tlv_reader.specs.Head.{head_at}
use Rattle.tlv_reader.specs.Walk.{Got, allowed_in, element_end, ended}
use Rattle.tlv_reader.specs.Walk.Got.{got, bad}
use Rattle.tlv_reader.proofs.FoldLaws.{Ahead}
use Rattle.tlv_reader.proofs.HeadLaws.{no-head}
use Rattle.tlv_reader.proofs.WalkLaws.{end-forward, broken, past}
use Rattle.im_members.specs.Fields.{slot_of}
use Rattle.im_members.specs.Pass.{Pass, no_pass, code_of, pass_at, pass_on, pass_listed, pass_member, pass_by, pass_in, pass_from, pass_of}

module _ (d : ℕ) (s : List ℕ) (kind : ℕ) (listed stops : List Bool) where
  on_same : (at : ℕ) (rest rest' : ℕ → Pass) → ((p : ℕ) → at < p → rest p ≡ rest' p) → (g : Got (Unit {0})) → Ahead at (length s) g → pass_on rest g ≡ pass_on rest' g
  on_same at rest rest' q bad h = refl
  on_same at rest rest' q (got u n) h = q n h.0

  by-same : (rest rest' : List ℕ → List ℕ → ℕ → Pass) (seen codes : List ℕ) (at : ℕ) → ((xs ks : List ℕ) (p : ℕ) → at < p → rest xs ks p ≡ rest' xs ks p) → (h : (Option Element)) → head_at s at ≡ h → pass_by d s kind listed stops rest seen codes at h ≡ pass_by d s kind listed stops rest' seen codes at h
  unfolding pass_by pass_member pass_listed
  by-same rest rest' seen codes at q None h = refl
  by-same rest rest' seen codes at q (Some e) h = (let i = slot_of listed e.form e.tag in simp (walked seen codes, walked (set seen i (at + 1)) (set codes i (code_of e.kind e.number))))
    where
      walked : (xs ks : List ℕ) → pass_on (rest xs ks) (element_end d s e) ≡ pass_on (rest' xs ks) (element_end d s e)
      walked xs ks = on_same at (rest xs ks) (rest' xs ks) (q xs ks) (element_end d s e) (end-forward d s at e h)

  pass-fuel : (f g : ℕ) (seen codes : List ℕ) (at : ℕ) → length s ≤ at + f → length s ≤ at + g → pass_in f d s kind listed stops seen codes at ≡ pass_in g d s kind listed stops seen codes at
  unfolding pass_in pass_by
  pass-fuel zero zero seen codes at a b = refl
  pass-fuel zero (suc g) seen codes at a b = simp (no-head s at (omega arith))
  pass-fuel (suc f) zero seen codes at a b = simp (no-head s at (omega arith))
  pass-fuel (suc f) (suc g) seen codes at a b = by-same (λ xs ks n. pass_in f d s kind listed stops xs ks n) (λ xs ks n. pass_in g d s kind listed stops xs ks n) seen codes at (λ xs ks p l. pass-fuel f g xs ks p (omega arith) (omega arith)) (head_at s at) refl

  -- from here, with what was seen
  abbrev pub From : List ℕ → List ℕ → ℕ → Pass
  From seen codes at = pass_in (length s) d s kind listed stops seen codes at

  module _ (seen codes : List ℕ) (at : ℕ) where
    -- THE EQUATION of a pass
    pub pass-unroll : From seen codes at ≡ pass_by d s kind listed stops From seen codes at (head_at s at)
    unfolding pass_in
    pass-unroll = pass-fuel (length s) (suc (length s)) seen codes at (omega arith) (omega arith)

    pub pass-headless : head_at s at ≡ None → From seen codes at ≡ no_pass
    unfolding pass_by
    pass-headless h = pass-unroll ∙ simp h

    module _ {e : Element} (h : head_at s at ≡ Some e) where
      pub pass-last : e.kind ≡ end_of_container → From seen codes at ≡ pass_at 10 e seen codes
      unfolding pass_by
      pass-last q = pass-unroll ∙ simp (h, eq-eqb _ _ q)

      pub pass-barred : (e.kind ≡ end_of_container → ⊥) → allowed_in kind e.form ≡ false → From seen codes at ≡ no_pass
      unfolding pass_by
      pass-barred q a = pass-unroll ∙ simp (h, ne_eqb _ _ q, a)

      module _ (q : e.kind ≡ end_of_container → ⊥) (a : allowed_in kind e.form ≡ true) {i : ℕ} (z : i ≡ slot_of listed e.form e.tag) where
        member : From seen codes at ≡ pass_member d s stops From seen codes at e i
        unfolding pass_by
        member = pass-unroll ∙ simp (h, ne_eqb _ _ q, a, ← z)

        module _ (o : 10 ≤ i) where
          pub other-broken : ended (element_end d s e) ≡ None → From seen codes at ≡ no_pass
          unfolding pass_member
          other-broken w = member ∙ simp (le-ltb i 10 o, broken (element_end d s e) w)

          pub other-walked : {n : Cursor} → ended (element_end d s e) ≡ Some n → From seen codes at ≡ From seen codes n.at
          unfolding pass_member
          other-walked w = member ∙ simp (le-ltb i 10 o, past (element_end d s e) w)

        module _ (l : i < 10) where
          pub listed-twice : (get_or seen i 0 ≡ 0 → ⊥) → From seen codes at ≡ no_pass
          unfolding pass_member pass_listed
          listed-twice y = member ∙ simp (lt-ltb i 10 l, ne_eqb _ _ y)

          module _ (y : get_or seen i 0 ≡ 0) {c : ℕ} (k : c ≡ code_of e.kind e.number) where
            pub listed-stop : get_or stops i false ≡ true → From seen codes at ≡ pass_at i e (set seen i (at + 1)) (set codes i c)
            unfolding pass_member pass_listed
            listed-stop w = member ∙ simp (lt-ltb i 10 l, eq-eqb _ _ y, w, ← k)

            pub listed-broken : get_or stops i false ≡ false → ended (element_end d s e) ≡ None → From seen codes at ≡ no_pass
            unfolding pass_member pass_listed
            listed-broken w b = member ∙ simp (lt-ltb i 10 l, eq-eqb _ _ y, w, broken (element_end d s e) b)

            pub listed-walked : {n : Cursor} → get_or stops i false ≡ false → ended (element_end d s e) ≡ Some n → From seen codes at ≡ From (set seen i (at + 1)) (set codes i c) n.at
            unfolding pass_member pass_listed
            listed-walked w b = member ∙ simp (lt-ltb i 10 l, eq-eqb _ _ y, w, ← k, past (element_end d s e) b)

-- over the container with a head
module _ (kind d : ℕ) (s : List ℕ) (listed stops : List Bool) (e : Element) where
  pub of_other : (e.kind ≡ kind → ⊥) → pass_of kind d s listed stops e ≡ no_pass
  unfolding pass_of
  of_other q = elim d as (λ z. pass_of kind z s listed stops e ≡ no_pass) [ zero ↦ refl | suc z ↦ simp (ne_eqb _ _ q) ]

  pub of-deep : d ≡ 0 → pass_of kind d s listed stops e ≡ no_pass
  unfolding pass_of
  of-deep = elim d as (λ z. z ≡ 0 → pass_of kind z s listed stops e ≡ no_pass) [ zero ↦ λ r. refl | suc z ↦ λ r. absurd (omega arith) ]

  inner : e.kind ≡ kind → (d ≡ 0 → ⊥) → pass_of kind d s listed stops e ≡ pass_from (d - 1) s kind listed stops (replicate 10 0) (replicate 10 0) e.next.at
  unfolding pass_of
  inner q = elim d as (λ z. (z ≡ 0 → ⊥) → pass_of kind z s listed stops e ≡ pass_from (z - 1) s kind listed stops (replicate 10 0) (replicate 10 0) e.next.at) [ zero ↦ λ r. absurd (r refl) | suc z ↦ λ r. (let p : suc z - 1 ≡ z = omega arith in simp (eq-eqb _ _ q, p)) ]

  -- after a pass that has seen nothing
  pub of-in : e.kind ≡ kind → (d ≡ 0 → ⊥) → {z r : Pass} → z ≡ no_pass → r ≡ pass_from (d - 1) s kind listed stops z.at z.codes e.next.at → r ≡ pass_of kind d s listed stops e
  of-in q n w v = v ∙ ap (λ (p : Pass). pass_from (d - 1) s kind listed stops p.at p.codes e.next.at) w ∙ sym (inner q n)
