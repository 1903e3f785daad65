-- Statuses (chapter 10, 10.5.17) and attribute statuses (10.5.16).
use Rattle.std.specs.Prelude.{ℕ, ◌-◌, List, Bool, false, not, get_or, ltb, eqb, Some, Option}
use Rattle.tlv_reader.specs.Octet.{pick, structure}
use Rattle.tlv_reader.specs.Tree.{Tree}
use Rattle.tlv_reader.specs.Walk.{Got, bind_g}
use Rattle.tlv_reader.specs.Decode.{bind_o, place}
use Rattle.tlv_reader.specs.declared.Element.{Element}
use Rattle.im_members.specs.Pass.{frame_on}
use Rattle.im_members.specs.Fields.{Slot, inside_at, inside_t}
use Rattle.im_members.specs.Fields.Slot.{absent}
use Rattle.im_members.specs.Scalar.{ABSENT, WRONG, number_in, number_t}
use Rattle.im_members.specs.Array.{required_in, required_t}
use Rattle.im_blocks.specs.declared.Path.{Path}
use Rattle.im_blocks.specs.declared.Status.{Status}
use Rattle.im_blocks.specs.declared.Answer.{Answer}
use Rattle.im_blocks.specs.Path.{checked, path_at, path_t}
use Rattle.im_blocks.specs.Filter.{pair_tags}

-- the status code is required
unfoldable pub sound_status : Status → Bool
sound_status x = pick (ltb x.code ABSENT) (not (eqb x.cluster WRONG)) false

abbrev pub status_with : {A : Type 0} → (ℕ → Bool → A → ℕ) → (ℕ → A) → Status
status_with number at = record { code = number 255 false (at 0); cluster = number 255 false (at 1) }

unfoldable pub status_from : List ℕ → List ℕ → Option Status
status_from s seen = checked sound_status (status_with (λ m b p. number_in m b s p) (λ i. get_or seen i 0))

unfoldable pub status_at : ℕ → List ℕ → ℕ → Got Status
status_at d s at = bind_g (inside_at structure d s pair_tags at) (λ seen n. place (status_from s seen) n)

unfoldable pub status_on : ℕ → List ℕ → Element → Got Status
status_on d s e = frame_on structure d s pair_tags (status_from s) e

unfoldable pub status_of : List Slot → Option Status
status_of xs = checked sound_status (status_with number_t (λ i. get_or xs i absent))

unfoldable pub status_t : Tree → Option Status
status_t t = bind_o (inside_t structure pair_tags t) status_of

-- path and status are required
abbrev pub answer_with : {A : Type 0} → (A → Option Path) → (A → Option Status) → (ℕ → A) → Option Answer
answer_with path status at = bind_o (path (at 0)) (λ p. bind_o (status (at 1)) (λ x. Some (record { path = p; status = x })))

unfoldable pub answer_from : ℕ → List ℕ → List ℕ → Option Answer
answer_from d s seen = answer_with (required_in (path_at d s)) (required_in (status_at d s)) (λ i. get_or seen i 0)

unfoldable pub answer_at : ℕ → List ℕ → ℕ → Got Answer
answer_at d s at = bind_g (inside_at structure d s pair_tags at) (λ seen n. place (answer_from (d - 1) s seen) n)

unfoldable pub answer_on : ℕ → List ℕ → Element → Got Answer
answer_on d s e = frame_on structure d s pair_tags (answer_from (d - 1) s) e

unfoldable pub answer_of : List Slot → Option Answer
answer_of xs = answer_with (required_t path_t) (required_t status_t) (λ i. get_or xs i absent)

unfoldable pub answer_t : Tree → Option Answer
answer_t t = bind_o (inside_t structure pair_tags t) answer_of
