-- What `all` and `position` of std say of a list, said by index.
use Rattle.std.specs.Prelude.{Some, None, Option, unwrap_or}
use Rattle.std.specs.List.{list_all, position, position_from}
use Rattle.std.proofs.lemmas.List.Folds.{list_all_more}
use Rattle.std.proofs.lemmas.Iterator.Adapters.{position_from-zero}
use mathlib.Core.Path.{◌≡◌, refl, sym, ap, ◌∙◌}
use mathlib.Core.Bool.{Bool, ◌&&◌}
use mathlib.Core.List.{List, [], ◌∷◌}
use Prim.Native.Nat.{ℕ, zero, suc, ◌+◌, ◌≤◌, ◌<◌}
use native.Mathlib.Numerals.{add-one}
use native.Mathlib.Omega.{arith}
use lib.ListN.{length, get_or, take}
use Rattle.node_schema.specs.Search.{first}
use Rattle.node_schema.specs.Check.{every}
use Rattle.node_schema.proofs.BoolLaws.{by-test}
use Rattle.cache_entries.specs.Texts.{or_first}

or-zero : (o : Option ℕ) → unwrap_or o 0 ≡ or_first o
or-zero (Some i) = refl
or-zero None = refl

module _ (q : ℕ → Bool) where
  pub all-every : (l : List ℕ) (n : ℕ) → n ≤ length l → list_all q (take n l) ≡ every (λ k. q (get_or l k 0)) n
  unfolding every
  all-every l zero h = refl
  all-every l (suc n) h =
      ap (λ (m : ℕ). list_all q (take m l)) (sym (add-one n))
      ∙ list_all_more q l n 0 (omega arith)
      ∙ ap (λ (b : Bool). b && q (get_or l n 0)) (all-every l n (omega arith))

  -- of a list whose numbers f gives from k on
  from-first : (f : ℕ → ℕ) (l : List ℕ) (k : ℕ) → ((i : ℕ) → i < length l → f (k + i) ≡ get_or l i 0) → position_from q k l ≡ first (λ i. q (f i)) (length l) k
  unfolding first
  from-first f [] k same = refl
  from-first f (x ∷ l) k same =
      let here : f k ≡ x = ap f (omega arith) ∙ same 0 (omega arith) in
      let rest = from-first f l (k + 1) (λ i h. ap f (omega arith) ∙ same (suc i) (omega arith)) in
      rw here (by-test (q x) (λ t. rw t refl) (λ t. rw t rest))

  -- the first, or 0
  pub position-first : (l : List ℕ) (n : ℕ) → length l ≡ n → unwrap_or (position q l) 0 ≡ or_first (first (λ i. q (get_or l i 0)) n 0)
  position-first l n size =
      ap (λ (o : Option ℕ). unwrap_or o 0)
      (position_from-zero q l
      ∙ from-first (λ i. get_or l i 0) l 0 (λ i h. ap (λ (j : ℕ). get_or l j 0) (omega arith))
      ∙ ap (λ (m : ℕ). first (λ i. q (get_or l i 0)) m 0) size)
      ∙ or-zero (first (λ i. q (get_or l i 0)) n 0)
