-- The fields of a container, case by case.
use Rattle.std.specs.Prelude.{Some, None}
use mathlib.Core.Path.{◌≡◌, refl, subst}
use mathlib.Core.Bool.{Bool, true, false}
use mathlib.Core.List.{List}
use Prim.Native.Nat.{ℕ, zero, suc, ◌+◌, ◌<◌, ◌≤◌}
use borrow.Author.Tests.{le-ltb}
use lib.ListN.{length, get_or, set}
use lib.Dec.{ltb, eqb}
use Rattle.tlv_reader.specs.declared.Cursor.{Cursor}
use Rattle.tlv_reader.specs.declared.Element.{Element}
use Rattle.tlv_reader.specs.Octet.{pick, end_of_container}
use Rattle.tlv_reader.specs.Head.{head_at}
use Rattle.tlv_reader.specs.Walk.{Got, allowed_in, element_end, ended}
use Rattle.tlv_reader.specs.Walk.Got.{got, bad}
use Rattle.tlv_reader.proofs.FoldLaws.{Ahead, Forward, fold-none, fold-ends, fold-barred, fold-breaks, fold_on}
use Rattle.tlv_reader.proofs.WalkLaws.{end-forward, broken, past}
use Rattle.im_members.specs.Fields.{slot_of, put_at, put_end, field_step, fields_from, inside_at}

-- a step goes forward
put-ahead : (at e n i : ℕ) (seen : List ℕ) → (at < n) × (n ≤ e) → Ahead at e (put_at seen i at n)
unfolding put_at
put-ahead at e n i seen h = go (ltb i 10) (eqb (get_or seen i 0) 0)
  where
    go : (a b : Bool) → Ahead at e (pick a (pick b (got (set seen i (at + 1)) n) bad) (got seen n))
    go true true = h
    go true false = tt
    go false b = h

end-ahead : (at e i : ℕ) (seen : List ℕ) (g : Got (Unit {0})) → Ahead at e g → Ahead at e (put_end seen i at g)
end-ahead at e i seen bad h = tt
end-ahead at e i seen (got x n) h = put-ahead at e n i seen h

pub step-forward : (d : ℕ) (s : List ℕ) (listed : List Bool) (seen : List ℕ) → Forward s (field_step d s listed seen)
unfolding field_step
step-forward d s listed seen p e h = end-ahead p (length s) (slot_of listed e.form e.tag) seen (element_end d s e) (end-forward d s p e h)

module _ (d : ℕ) (s : List ℕ) (kind : ℕ) (listed : List Bool) (seen : List ℕ) (at : ℕ) where
  pub no_member : head_at s at ≡ None → fields_from d s kind listed seen at ≡ bad
  unfolding fields_from
  no_member = fold-none (field_step d s listed) s (step-forward d s listed) kind seen at

  module _ {e : Element} (h : head_at s at ≡ Some e) where
    pub last-member : e.kind ≡ end_of_container → fields_from d s kind listed seen at ≡ got seen e.next.at
    unfolding fields_from
    last-member = fold-ends (field_step d s listed) s (step-forward d s listed) kind seen at h

    pub barred-member : (e.kind ≡ end_of_container → ⊥) → allowed_in kind e.form ≡ false → fields_from d s kind listed seen at ≡ bad
    unfolding fields_from
    barred-member = fold-barred (field_step d s listed) s (step-forward d s listed) kind seen at h

    module _ (q : e.kind ≡ end_of_container → ⊥) (a : allowed_in kind e.form ≡ true) where
      pub broken-member : ended (element_end d s e) ≡ None → fields_from d s kind listed seen at ≡ bad
      unfolding fields_from field_step
      broken-member w = fold-breaks (field_step d s listed) s (step-forward d s listed) kind seen at h q a (simp (broken (element_end d s e) w))

      module _ {n : Cursor} {i : ℕ} (w : ended (element_end d s e) ≡ Some n) (z : i ≡ slot_of listed e.form e.tag) where
        pub other-member : 10 ≤ i → fields_from d s kind listed seen at ≡ fields_from d s kind listed seen n.at
        unfolding fields_from field_step put_at
        other-member l = fold_on (field_step d s listed) s (step-forward d s listed) kind seen at h q a (simp (past (element_end d s e) w, ← z, le-ltb i 10 l))

    -- the measure of the loop, and that a place can be counted one up
    pub onward : {n : Cursor} → ended (element_end d s e) ≡ Some n → (at < n.at) × (n.at ≤ length s)
    onward w = subst (Ahead at (length s)) (past (element_end d s e) w) (end-forward d s at e h)

-- the container at a position
pub inside-none : (kind d : ℕ) (s : List ℕ) (listed : List Bool) (at : ℕ) → head_at s at ≡ None → inside_at kind d s listed at ≡ bad
unfolding inside_at
inside-none kind zero s listed at h = refl
inside-none kind (suc d) s listed at h = simp h
