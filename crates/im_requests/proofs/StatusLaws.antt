-- The Status Response, case by case for the code.
use Rattle.std.specs.Prelude.{Some, None, Option}
use mathlib.Core.Path.{◌≡◌, refl, sym, ap, ◌∙◌}
use mathlib.Core.Bool.{Bool, true, false}
use mathlib.Core.List.{List}
use Prim.Native.Nat.{ℕ, ◌<◌, ◌≤◌}
use lib.ListN.{get_or}
use Rattle.tlv_reader.specs.Octet.{pick}
use Rattle.im_members.specs.Scalar.{ABSENT, number_in}
use Rattle.im_requests.specs.Message.{given}
use Rattle.im_requests.specs.Status.{response_of, response_from}
use Rattle.im_requests.proofs.MessageLaws.{given-no, given_yes}

module _ (s : List ℕ) (xs : List ℕ) where
  pub response-no-code : {n : ℕ} → n ≡ number_in 255 false s (get_or xs 0 0) → ABSENT ≤ n → response_from s xs ≡ None
  unfolding response_from
  response-no-code {n} e l = ap (λ x. response_of x (number_in 255 false s (get_or xs 9 0))) (sym e) ∙ rw (given-no n l) refl

  pub response-no-revision : {n : ℕ} → n ≡ number_in 255 false s (get_or xs 9 0) → ABSENT ≤ n → response_from s xs ≡ None
  unfolding response_from
  response-no-revision {n} e l = ap (response_of (number_in 255 false s (get_or xs 0 0))) (sym e) ∙ rw (given-no n l) (both (given (number_in 255 false s (get_or xs 0 0))))
    where
      both : (b : Bool) → ◌≡◌ {A = Option ℕ} (pick b None None) None
      both true = refl
      both false = refl

  pub response-has : {n r : ℕ} → n ≡ number_in 255 false s (get_or xs 0 0) → n < ABSENT → r ≡ number_in 255 false s (get_or xs 9 0) → r < ABSENT → response_from s xs ≡ Some n
  unfolding response_from
  response-has {n} {r} e l f k = rw (← e, ← f) (rw (given_yes n l, given_yes r k) refl)
