-- An array of exactly one status, case by case for the code.
use Rattle.std.specs.Prelude.{Some, None, Option}
use mathlib.Core.Path.{◌≡◌, refl, ap, ◌∙◌}
use mathlib.Core.Bool.{Bool, true, false}
use mathlib.Core.List.{List, [], ◌∷◌}
use Prim.Native.Nat.{ℕ, zero, suc, ◌≤◌}
use native.Mathlib.Omega.{arith}
use lib.ListN.{length}
use lib.Dec.{eqb}
use borrow.Author.Tests.{ne_eqb}
use Rattle.tlv_reader.specs.declared.Element.{Element}
use Rattle.tlv_reader.specs.Octet.{array, end_of_container}
use Rattle.tlv_reader.specs.Head.{head_at}
use Rattle.tlv_reader.specs.Walk.{Got, bind_g, map_g, allowed_in, choose, fold_by, fold_at}
use Rattle.tlv_reader.specs.Walk.Got.{got, bad}
use Rattle.tlv_reader.specs.Decode.{place, tree_at}
use Rattle.im_members.specs.Array.{each_step}
use Rattle.im_members.proofs.ArrayLaws.{plain, each_none, each-ends, each-barred, each-breaks, each_on}
use Rattle.im_blocks.specs.declared.Answer.{Answer}
use Rattle.im_blocks.specs.Status.{answer_at, answer_t}
use Rattle.im_blocks.proofs.BlockLaws.{answer-law}
use Rattle.im_requests.specs.Message.{snoc}
use Rattle.im_requests.proofs.KeepLaws.{length-snoc}
use Rattle.im_responses.specs.Answered.{answers_from, answers_at, only_of}

-- ---- an array holds at least what was seen of it

abbrev Long : ℕ → Got (List Answer) → Type 0
Long k bad = Unit {0}
Long k (got y n) = k ≤ length y

long-less : (j k : ℕ) (g : Got (List Answer)) → j ≤ k → Long k g → Long j g
long-less j k bad l h = tt
long-less j k (got y n) l h = omega arith

module _ (d : ℕ) (s : List ℕ) where
  abbrev step : List Answer → ℕ → Element → Got (List Answer)
  step = each_step snoc (answer_at d s)

  step-long : (l : List Answer) (rest : List Answer → ℕ → Got (List Answer)) → ((y : List Answer) (p : ℕ) → Long (length y) (rest y p)) → (g : Got Answer) → Long (suc (length l)) (bind_g (map_g (snoc l) g) rest)
  step-long l rest r bad = tt
  step-long l rest r (got x n) = let e = length-snoc l x in long-less (suc (length l)) (length (snoc l x)) (rest (snoc l x) n) (omega arith) (r (snoc l x) n)

  member-long : (l : List Answer) (at : ℕ) (rest : List Answer → ℕ → Got (List Answer)) → ((y : List Answer) (p : ℕ) → Long (length y) (rest y p)) → (e : Element) (b : Bool) → Long (suc (length l)) (choose b (λ _. bind_g (step l at e) rest) (λ _. bad))
  unfolding each_step
  member-long l at rest r e true = step-long l rest r (answer_at d s at)
  member-long l at rest r e false = tt

  by-long : (l : List Answer) (at : ℕ) (rest : List Answer → ℕ → Got (List Answer)) → ((y : List Answer) (p : ℕ) → Long (length y) (rest y p)) → (h : (Option Element)) → Long (length l) (fold_by array l (step l at) rest h)
  unfolding fold_by
  by-long l at rest r None = tt
  by-long l at rest r (Some e) = go (eqb e.kind end_of_container)
    where
      go : (b : Bool) → Long (length l) (choose b (λ _. got l e.next.at) (λ _. choose (allowed_in array e.form) (λ _. bind_g (step l at e) rest) (λ _. bad)))
      go true = omega arith
      go false = long-less (length l) (suc (length l)) (choose (allowed_in array e.form) (λ _. bind_g (step l at e) rest) (λ _. bad)) (omega arith) (member-long l at rest r e (allowed_in array e.form))

  fold-long : (f : ℕ) (l : List Answer) (at : ℕ) → Long (length l) (fold_at step f s array l at)
  unfolding fold_at
  fold-long zero l at = tt
  fold-long (suc f) l at = by-long l at (λ y n. fold_at step f s array y n) (λ y p. fold-long f y p) (head_at s at)

  fold_more : (f : ℕ) (l : List Answer) (at : ℕ) {e : Element} → head_at s at ≡ Some e → (e.kind ≡ end_of_container → ⊥) → Long (suc (length l)) (fold_at step f s array l at)
  unfolding fold_at fold_by
  fold_more zero l at h q = tt
  fold_more (suc f) l at {e} h q = rw (h, ne_eqb e.kind end_of_container q) (member-long l at (λ y n. fold_at step f s array y n) (λ y p. fold-long f y p) e (allowed_in array e.form))

not-only : (g : Got (List Answer)) → Long 2 g → only_of g ≡ bad
not-only bad h = refl
not-only (got [] n) h = absurd (omega arith)
not-only (got (x ∷ []) n) h = absurd (omega arith)
not-only (got (x ∷ y ∷ l) n) h = refl

-- ---- for the code

module _ (d : ℕ) (s : List ℕ) (at : ℕ) where
  law : (p : ℕ) → map_g (λ x. x) (answer_at d s p) ≡ bind_g (tree_at d s p) (λ t n. place (answer_t t) n)
  law = plain d s (answer_at d s) answer_t (answer-law d s)

  pub one_none : head_at s at ≡ None → only_of (answers_at d s at) ≡ bad
  unfolding answers_at answers_from
  one_none h = ap only_of (each_none (λ x. x) d s (answer_at d s) answer_t law snoc array [] at h)

  module _ {e : Element} (h : head_at s at ≡ Some e) where
    pub one-ends : e.kind ≡ end_of_container → only_of (answers_at d s at) ≡ bad
    unfolding answers_at answers_from
    one-ends q = ap only_of (each-ends (λ x. x) d s (answer_at d s) answer_t law snoc array [] at h q)

    module _ (q : e.kind ≡ end_of_container → ⊥) where
      pub one-barred : allowed_in array e.form ≡ false → only_of (answers_at d s at) ≡ bad
      unfolding answers_at answers_from
      one-barred b = ap only_of (each-barred (λ x. x) d s (answer_at d s) answer_t law snoc array [] at h q b)

      module _ (b : allowed_in array e.form ≡ true) where
        pub one-breaks : answer_at d s at ≡ bad → only_of (answers_at d s at) ≡ bad
        unfolding answers_at answers_from
        one-breaks w = ap only_of (each-breaks (λ x. x) d s (answer_at d s) answer_t law snoc array [] at h q b w)

        module _ {x : Answer} {n : ℕ} (w : answer_at d s at ≡ got x n) where
          on : answers_at d s at ≡ answers_from d s (x ∷ []) n
          unfolding answers_at answers_from
          on = each_on (λ x. x) d s (answer_at d s) answer_t law snoc array [] at h q b w

          pub one-cut : head_at s n ≡ None → only_of (answers_at d s at) ≡ bad
          unfolding answers_from
          one-cut z = ap only_of (on ∙ each_none (λ x. x) d s (answer_at d s) answer_t law snoc array (x ∷ []) n z)

          pub one-there : {f : Element} → head_at s n ≡ Some f → f.kind ≡ end_of_container → only_of (answers_at d s at) ≡ got x f.next.at
          unfolding answers_from
          one-there z k = ap only_of (on ∙ each-ends (λ x. x) d s (answer_at d s) answer_t law snoc array (x ∷ []) n z k)

          pub one_more : {f : Element} → head_at s n ≡ Some f → (f.kind ≡ end_of_container → ⊥) → only_of (answers_at d s at) ≡ bad
          unfolding answers_from
          one_more z k = ap only_of on ∙ not-only (answers_from d s (x ∷ []) n) (fold_more d s (length s) (x ∷ []) n z k)
