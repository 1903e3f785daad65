-- The Write Response: case by case for the code, and THE LAW that what is read is the meaning of the tree that the payload spells.
use Rattle.std.specs.Prelude.{Some, None, Option}
use mathlib.Core.Path.{◌≡◌, refl, sym, ap, ◌∙◌}
use mathlib.Core.Bool.{Bool, true, false}
use mathlib.Core.List.{List}
use Prim.Native.Nat.{ℕ, ◌-◌, ◌<◌, ◌≤◌}
use native.Mathlib.Omega.{arith}
use lib.ListN.{get_or}
use lib.Dec.{eqb}
use Rattle.tlv_reader.specs.Octet.{pick}
use Rattle.tlv_reader.specs.Tree.{Tree, Trees, SpellsMessage, tag_of_tree}
use Rattle.tlv_reader.specs.Tree.Trees.{more}
use Rattle.tlv_reader.specs.Walk.{Got}
use Rattle.tlv_reader.specs.Walk.Got.{got, bad}
use Rattle.tlv_reader.specs.Decode.{bind_o, place}
use Rattle.im_members.specs.Fields.{slot_t}
use Rattle.im_members.specs.Scalar.{ABSENT, number_in}
use Rattle.im_members.specs.Array.{opt_of, required_in}
use Rattle.im_members.specs.Order.{Reordered}
use Rattle.im_members.proofs.ArrayLaws.{number-here, required-here}
use Rattle.im_members.proofs.PassLaws.{Reads, then-reads}
use Rattle.im_blocks.specs.declared.Answer.{Answer}
use Rattle.im_blocks.specs.Status.{answer_at, answer_on, answer_t}
use Rattle.im_blocks.proofs.BlockLaws.{answer-law}
use Rattle.im_blocks.proofs.OnLaws.{answer-reads}
use Rattle.im_requests.specs.Message.{given, list_t, list_at, list_on}
use Rattle.im_requests.proofs.MessageLaws.{given-no, given_yes}
use Rattle.im_requests.proofs.ListLaws.{list-plain}
use Rattle.im_requests.proofs.PassLaws.{list-reads}
use Rattle.im_requests.proofs.WholeLaws.{whole-law, whole-any-order, whole-unlisted}
use Rattle.im_responses.specs.Answered.{only, only_of, answered_tags, answered_from, answered_in, answered_slots, answered_t}

-- the one status of the array, by its place and by its head
pub one-reads : (s : List ℕ) → Reads 9 s (λ at. only_of (list_at answer_at 9 s at)) (λ e. only_of (list_on answer_at 9 s e))
one-reads s = then-reads 9 s only (list-reads answer_at (answer_on 8 s) 8 s (answer-reads 8 s))

never : {A : Type 0} → ◌≡◌ {A = ℕ} 0 1 → A
never e = absurd (omega arith)

one-required : (read : ℕ → Got (List Answer)) (p : ℕ) → required_in (λ at. only_of (read at)) p ≡ bind_o (required_in read p) only
unfolding required_in
one-required read p = by (eqb p 0)
  where
    put : (o : Option Answer) (n : ℕ) → opt_of (place o n) ≡ o
    put None n = refl
    put (Some x) n = refl

    there : (g : Got (List Answer)) → opt_of (only_of g) ≡ bind_o (opt_of g) only
    there bad = refl
    there (got l n) = put (only l) n

    by : (b : Bool) → pick b None (opt_of (only_of (read (p - 1)))) ≡ bind_o (pick b None (opt_of (read (p - 1)))) only
    by true = refl
    by false = there (read (p - 1))

module _ (s : List ℕ) (xs : List ℕ) where
  answered-one : {x : Option Answer} → required_in (λ at. only_of (list_at answer_at 9 s at)) (get_or xs 0 0) ≡ x → answered_from s xs ≡ pick (given (number_in 255 false s (get_or xs 9 0))) x None
  unfolding answered_from
  answered-one e = ap (λ o. pick (given (number_in 255 false s (get_or xs 9 0))) o None) (sym (one-required (list_at answer_at 9 s) (get_or xs 0 0)) ∙ e)

  pub answered-lacks : required_in (λ at. only_of (list_at answer_at 9 s at)) (get_or xs 0 0) ≡ None → answered_from s xs ≡ None
  answered-lacks e = answered-one e ∙ none (given (number_in 255 false s (get_or xs 9 0)))
    where
      none : (b : Bool) → ◌≡◌ {A = Option Answer} (pick b None None) None
      none true = refl
      none false = refl

  module _ {x : Answer} (e : required_in (λ at. only_of (list_at answer_at 9 s at)) (get_or xs 0 0) ≡ Some x) {n : ℕ} (r : n ≡ number_in 255 false s (get_or xs 9 0)) where
    pub answered-no : ABSENT ≤ n → answered_from s xs ≡ None
    answered-no l = answered-one e ∙ rw (← r, given-no n l) refl

    pub answered-has : n < ABSENT → answered_from s xs ≡ Some x
    answered-has l = answered-one e ∙ rw (← r, given_yes n l) refl

-- any legal spelling of a write response is read to its meaning
pub answered-law : (ts : Trees) (s : List ℕ) → SpellsMessage ts s → answered_in s ≡ answered_t ts
unfolding answered_in answered_t answered_from answered_slots
answered-law ts s m = whole-law answered_tags (answered_from s) answered_slots ts s m
    (λ xs. rw (number-here 9 s xs 255 false 9, required-here 9 s (list_at answer_at 9 s) (list_t answer_t) (list-plain answer_at answer_t 8 s (answer-law 8 s)) refl xs 0) refl)

-- the order of fields does not matter, and members that are not listed are as if absent
pub answered-any-order : {ts us : Trees} → Reordered ts us → answered_t ts ≡ answered_t us
unfolding answered_t
answered-any-order r = whole-any-order answered_tags answered_slots r

pub answered-unlisted : (t : Tree) (ts : Trees) → 10 ≤ slot_t answered_tags (tag_of_tree t) → answered_t (more t ts) ≡ answered_t ts
unfolding answered_t
answered-unlisted t ts l = whole-unlisted answered_tags answered_slots t ts l
