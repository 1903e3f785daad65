-- Members by a step: the equation with no bound, case by case, for any step that goes forward.
use Rattle.std.specs.Prelude.{Some, None, Option}
use mathlib.Core.Path.{◌≡◌, refl, ◌∙◌}
use mathlib.Core.Bool.{true, false}
use mathlib.Core.List.{List}
use Prim.Native.Nat.{ℕ, zero, suc, ◌+◌, ◌<◌, ◌≤◌}
use native.Mathlib.Omega.{arith}
use borrow.Author.Tests.{eq-eqb, ne_eqb}
use lib.ListN.{length}
use lib.Dec.{eqb}
use Rattle.tlv_reader.specs.declared.Element.{Element}
use Rattle.tlv_reader.specs.Octet.{end_of_container}
use Rattle.tlv_reader.specs.Head.{head_at}
use Rattle.tlv_reader.specs.Walk.{Got, map_g, bind_g, allowed_in, fold_by, fold_at}
use Rattle.tlv_reader.specs.Walk.Got.{got, bad}
use Rattle.tlv_reader.proofs.Picks.{choose-elim}
use Rattle.tlv_reader.proofs.HeadLaws.{Onward, head-onward, no-head}

-- what was found ends further on, within n
abbrev pub Ahead : {A : Type 0} → ℕ → ℕ → Got A → Type 0
Ahead at n bad = Unit {0}
Ahead at n (got a m) = (at < m) × (m ≤ n)

pub ahead-from : {A : Type 0} (at p n : ℕ) (g : Got A) → at < p → Ahead p n g → Ahead at n g
ahead-from at p n bad l h = tt
ahead-from at p n (got a m) l h = (omega arith, h.1)

pub ahead-map : {A B : Type 0} (at n : ℕ) (f : A → B) (g : Got A) → Ahead at n g → Ahead at n (map_g f g)
ahead-map at n f bad h = tt
ahead-map at n f (got a m) h = h

pub ahead-bind : {A B : Type 0} (at n : ℕ) (g : Got A) (f : A → ℕ → Got B) → Ahead at n g → ((a : A) (p : ℕ) → Ahead p n (f a p)) → Ahead at n (bind_g g f)
ahead-bind at n bad f h r = tt
ahead-bind at n (got a m) f h r = ahead-from at m n (f a m) h.0 (r a m)

-- a step that goes forward: where a head stands at p, the step from there ends further on
abbrev pub Forward : {A : Type 0} → List ℕ → (ℕ → Element → Got A) → Type 0
Forward s step = (p : ℕ) (e : Element) → head_at s p ≡ Some e → Ahead p (length s) (step p e)

by-ahead : {S : Type 0} (at n kind : ℕ) (x : S) (here : Element → Got S) (rest : S → ℕ → Got S) (h : (Option Element)) → Onward at n h → ((e : Element) → h ≡ Some e → Ahead at n (here e)) → ((y : S) (p : ℕ) → Ahead p n (rest y p)) → Ahead at n (fold_by kind x here rest h)
unfolding fold_by
by-ahead at n kind x here rest None o w r = tt
by-ahead at n kind x here rest (Some e) o w r =
    choose-elim (Ahead at n) (eqb e.kind end_of_container) _ _ (λ _. o)
    (λ _. choose-elim (Ahead at n) (allowed_in kind e.form) _ _ (λ _. ahead-bind at n (here e) rest (w e refl) r) (λ _. tt))

pub fold-ahead : {S : Type 0} (step : S → ℕ → Element → Got S) (s : List ℕ) → ((x : S) → Forward s (step x)) → (f kind : ℕ) (x : S) (at : ℕ) → Ahead at (length s) (fold_at step f s kind x at)
unfolding fold_at
fold-ahead step s h zero kind x at = tt
fold-ahead step s h (suc f) kind x at =
    by-ahead at (length s) kind x (step x at) (λ y n. fold_at step f s kind y n) (head_at s at) (head-onward s at) (h x at) (λ y p. fold-ahead step s h f kind y p)

pub bind-same : {A B : Type 0} (at n : ℕ) (g : Got A) (f f' : A → ℕ → Got B) → Ahead at n g → ((a : A) (p : ℕ) → at < p → f a p ≡ f' a p) → bind_g g f ≡ bind_g g f'
bind-same at n bad f f' h e = refl
bind-same at n (got a m) f f' h e = e a m h.0

by-same : {S : Type 0} (at n kind : ℕ) (x : S) (here : Element → Got S) (rest rest' : S → ℕ → Got S) (h : (Option Element)) → ((e : Element) → h ≡ Some e → Ahead at n (here e)) → ((y : S) (p : ℕ) → at < p → rest y p ≡ rest' y p) → fold_by kind x here rest h ≡ fold_by kind x here rest' h
unfolding fold_by
by-same at n kind x here rest rest' None w q = refl
by-same at n kind x here rest rest' (Some e) w q = simp (bind-same at n (here e) rest rest' (w e refl) q)

fold-fuel : {S : Type 0} (step : S → ℕ → Element → Got S) (s : List ℕ) → ((x : S) → Forward s (step x)) → (f g kind : ℕ) (x : S) (at : ℕ) → length s ≤ at + f → length s ≤ at + g → fold_at step f s kind x at ≡ fold_at step g s kind x at
unfolding fold_at fold_by
fold-fuel step s h zero zero kind x at a b = refl
fold-fuel step s h zero (suc g) kind x at a b = simp (no-head s at (omega arith))
fold-fuel step s h (suc f) zero kind x at a b = simp (no-head s at (omega arith))
fold-fuel step s h (suc f) (suc g) kind x at a b =
    by-same at (length s) kind x (step x at) (λ y n. fold_at step f s kind y n) (λ y n. fold_at step g s kind y n) (head_at s at) (h x at)
    (λ y p l. fold-fuel step s h f g kind y p (omega arith) (omega arith))

module _ {S : Type 0} (step : S → ℕ → Element → Got S) (s : List ℕ) (forward : (x : S) → Forward s (step x)) (kind : ℕ) (x : S) (at : ℕ) where
  -- THE EQUATION of the members
  pub fold-unroll : fold_at step (length s) s kind x at ≡ fold_by kind x (step x at) (λ y n. fold_at step (length s) s kind y n) (head_at s at)
  unfolding fold_at
  fold-unroll = fold-fuel step s forward (length s) (suc (length s)) kind x at (omega arith) (omega arith)

  pub fold-none : head_at s at ≡ None → fold_at step (length s) s kind x at ≡ bad
  unfolding fold_by
  fold-none h = fold-unroll ∙ simp h

  module _ {e : Element} (h : head_at s at ≡ Some e) where
    pub fold-ends : e.kind ≡ end_of_container → fold_at step (length s) s kind x at ≡ got x e.next.at
    unfolding fold_by
    fold-ends q = fold-unroll ∙ simp (h, eq-eqb _ _ q)

    pub fold-barred : (e.kind ≡ end_of_container → ⊥) → allowed_in kind e.form ≡ false → fold_at step (length s) s kind x at ≡ bad
    unfolding fold_by
    fold-barred q a = fold-unroll ∙ simp (h, ne_eqb _ _ q, a)

    pub fold-breaks : (e.kind ≡ end_of_container → ⊥) → allowed_in kind e.form ≡ true → step x at e ≡ bad → fold_at step (length s) s kind x at ≡ bad
    unfolding fold_by
    fold-breaks q a w = fold-unroll ∙ simp (h, ne_eqb _ _ q, a, w)

    pub fold_on : {y : S} {n : ℕ} → (e.kind ≡ end_of_container → ⊥) → allowed_in kind e.form ≡ true → step x at e ≡ got y n → fold_at step (length s) s kind x at ≡ fold_at step (length s) s kind y n
    unfolding fold_by
    fold_on q a w = fold-unroll ∙ simp (h, ne_eqb _ _ q, a, w)
