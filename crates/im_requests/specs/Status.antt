-- The Status Response (chapter 10, 10.6.1).
use Rattle.std.specs.Prelude.{ℕ, List, [], ◌∷◌, Bool, true, false, get_or, Some, None, Option}
use Rattle.tlv_reader.specs.Octet.{pick}
use Rattle.tlv_reader.specs.Tree.{Trees}
use Rattle.im_members.specs.Fields.{Slot}
use Rattle.im_members.specs.Fields.Slot.{absent}
use Rattle.im_members.specs.Scalar.{number_in, number_t}
use Rattle.im_requests.specs.Message.{whole_in, whole_t, given}

abbrev pub response_tags : List Bool
response_tags = true ∷ false ∷ false ∷ false ∷ false ∷ false ∷ false ∷ false ∷ false ∷ true ∷ []

-- status code and revision are required
abbrev pub response_of : ℕ → ℕ → Option ℕ
response_of code revision = pick (given code) (pick (given revision) (Some code) None) None

abbrev pub response_with : {A : Type 0} → (ℕ → Bool → A → ℕ) → (ℕ → A) → Option ℕ
response_with number at = response_of (number 255 false (at 0)) (number 255 false (at 9))

unfoldable pub response_from : List ℕ → List ℕ → Option ℕ
response_from s seen = response_with (λ m b p. number_in m b s p) (λ i. get_or seen i 0)

unfoldable pub response_in : List ℕ → Option ℕ
response_in s = whole_in response_tags (response_from s) s

-- THE MEANING of the message's members as a status
unfoldable pub response_slots : List Slot → Option ℕ
response_slots xs = response_with number_t (λ i. get_or xs i absent)

unfoldable pub response_t : Trees → Option ℕ
response_t ts = whole_t response_tags response_slots ts
