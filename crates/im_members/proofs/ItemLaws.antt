-- Members of a container one after the other, by what stands at a position: for any step.
use Rattle.std.specs.Prelude.{Some, None, Option}
use mathlib.Core.Path.{◌≡◌, refl, ap, subst, ◌∙◌}
use mathlib.Core.Bool.{Bool, true, false}
use mathlib.Core.List.{List}
use Prim.Native.Nat.{ℕ}
use native.Mathlib.Omega.{arith}
use borrow.Author.Tests.{eqb-true, eqb-false}
use lib.ListN.{length}
use lib.Dec.{eqb}
use Rattle.tlv_reader.specs.declared.Cursor.{Cursor}
use Rattle.tlv_reader.specs.declared.Element.{Element}
use Rattle.tlv_reader.specs.Octet.{pick, end_of_container}
use Rattle.tlv_reader.specs.Head.{head_at}
use Rattle.tlv_reader.specs.Walk.{Got, allowed_in, fold_at}
use Rattle.tlv_reader.specs.Walk.Got.{got, bad}
use Rattle.tlv_reader.proofs.FoldLaws.{Forward, fold-none, fold-ends, fold-barred, fold-breaks, fold_on}
use Rattle.im_members.specs.declared.MemberAt.TheVariants.{Member, Ended, BadItem}
use Rattle.im_members.specs.Item.{item_of, item_at}

never : {A : Type 0} → ◌≡◌ {A = ℕ} 0 1 → A
never e = absurd (omega arith)

-- a member: its head, which is no end, and that it may stand there
pub record Standing (kind : ℕ) (s : List ℕ) (at : ℕ) (e : Element) : Type 0 where
  pub here : head_at s at ≡ Some e
  pub inner : e.kind ≡ end_of_container → ⊥
  pub fits : allowed_in kind e.form ≡ true

module _ {S : Type 0} (step : S → ℕ → Element → Got S) (s : List ℕ) (forward : (x : S) → Forward s (step x)) (kind : ℕ) (x : S) (at : ℕ) where
  pub item-bad : item_at kind s at ≡ BadItem → fold_at step (length s) s kind x at ≡ bad
  unfolding item_at
  item-bad w = go (head_at s at) refl w
    where
      go : (h : (Option Element)) → head_at s at ≡ h → item_of kind h ≡ BadItem → fold_at step (length s) s kind x at ≡ bad
      go None h w = fold-none step s forward kind x at h
      go (Some e) h w = by (eqb e.kind end_of_container) refl (allowed_in kind e.form) refl w
        where
          by : (a : Bool) → eqb e.kind end_of_container ≡ a → (b : Bool) → allowed_in kind e.form ≡ b → pick a (Ended e.next) (pick b (Member e) BadItem) ≡ BadItem → fold_at step (length s) s kind x at ≡ bad
          by true q b r w = never (cc)
          by false q true r w = never (cc)
          by false q false r w = fold-barred step s forward kind x at h (eqb-false e.kind end_of_container q) r

  pub item-end : {c : Cursor} → item_at kind s at ≡ Ended c → fold_at step (length s) s kind x at ≡ got x c.at
  unfolding item_at
  item-end {c} w = go (head_at s at) refl w
    where
      go : (h : (Option Element)) → head_at s at ≡ h → item_of kind h ≡ Ended c → fold_at step (length s) s kind x at ≡ got x c.at
      go None h w = never (cc)
      go (Some e) h w = by (eqb e.kind end_of_container) refl (allowed_in kind e.form) w
        where
          by : (a : Bool) → eqb e.kind end_of_container ≡ a → (b : Bool) → pick a (Ended e.next) (pick b (Member e) BadItem) ≡ Ended c → fold_at step (length s) s kind x at ≡ got x c.at
          by true q b w = fold-ends step s forward kind x at h (eqb-true e.kind end_of_container q) ∙ (let f : e.next ≡ c = cc in ap (λ (y : Cursor). got x y.at) f)
          by false q true w = never (cc)
          by false q false w = never (cc)

  pub item-breaks : {e : Element} → Standing kind s at e → step x at e ≡ bad → fold_at step (length s) s kind x at ≡ bad
  item-breaks st w = fold-breaks step s forward kind x at st.here st.inner st.fits w

  pub item_on : {e : Element} {y : S} {n : ℕ} → Standing kind s at e → step x at e ≡ got y n → fold_at step (length s) s kind x at ≡ fold_at step (length s) s kind y n
  item_on st w = fold_on step s forward kind x at st.here st.inner st.fits w

pub standing : (kind : ℕ) (s : List ℕ) (at : ℕ) {e : Element} → item_at kind s at ≡ Member e → Standing kind s at e
unfolding item_at
standing kind s at {e} w = go (head_at s at) refl w
  where
    go : (h : (Option Element)) → head_at s at ≡ h → item_of kind h ≡ Member e → Standing kind s at e
    go None h w = never (cc)
    go (Some f) h w = by (eqb f.kind end_of_container) refl (allowed_in kind f.form) refl w
      where
        by : (a : Bool) → eqb f.kind end_of_container ≡ a → (b : Bool) → allowed_in kind f.form ≡ b → pick a (Ended f.next) (pick b (Member f) BadItem) ≡ Member e → Standing kind s at e
        by true q b r w = never (cc)
        by false q true r w = let z : f ≡ e = cc in subst (Standing kind s at) z (record { here = h; inner = eqb-false f.kind end_of_container q; fits = r })
        by false q false r w = never (cc)
