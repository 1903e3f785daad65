-- A WRITE ENDS WITH THE STATUS THAT THE SERVER WROTE, if it is of the path that was written; a status of another path is refused.
use Rattle.std.specs.Prelude.{Some}
use mathlib.Core.Path.{◌≡◌, refl, sym, ap, ◌∙◌}
use mathlib.Core.Bool.{true}
use mathlib.Core.List.{[], ◌∷◌}
use Prim.Native.Nat.{ℕ, ◌^◌, ◌<◌}
use borrow.Author.Tests.{eq-eqb, lt-ltb}
use Rattle.im_responses.specs.Answered.{answered_in}
use Rattle.im_writer.specs.Spelling.{Each}
use Rattle.im_writer.specs.Meaning.{exact_path}
use Rattle.node_schema.proofs.BoolLaws.{both}
use Rattle.proof_round_trip.specs.Meant.{WriteStatus, OutcomeFits, outcomes_octets, outcome_means, status_octets}
use Rattle.proof_round_trip.proofs.BackLaws.{answers-back, status-back}
use Rattle.cache_state.specs.declared.Request.{Request}
use Rattle.cache_state.specs.declared.CacheState.{CacheState}
use Rattle.cache_receive.specs.Receive.{ended_with, of_write, answer_taken, by_answer, status_taken, by_status}
use Rattle.proof_trip.specs.Taken.{OfPath, ended_by}
use Rattle.proof_trip.proofs.TakenLaws.{path-exact}

pub answer-read : (o : WriteStatus) → OutcomeFits o → answered_in (outcomes_octets (o ∷ [])) ≡ Some (outcome_means o)
unfolding Each
answer-read o h = answers-back (o ∷ []) (h, tt)

of-write : (x : Request) (o : WriteStatus) → OutcomeFits o → OfPath x o → of_write x (exact_path o.endpoint o.cluster o.attribute) ≡ true
unfolding of_write
of-write x o h p =
    both _ _ (path-exact h.path-fits) (both _ _ (eq-eqb o.endpoint x.endpoint (sym p.same-endpoint)) (both _ _ (eq-eqb o.cluster x.cluster (sym p.same-cluster)) (eq-eqb o.attribute x.attribute (sym p.same-attribute))))

ended : (s : CacheState) (code : ℕ) → code < 256 → ended_with s code ≡ ended_by s code
unfolding ended_with
ended s code f = rw (lt-ltb code 256 f) refl

pub answer-taken : (s : CacheState) (o : WriteStatus) → OutcomeFits o → OfPath s.asked o → by_answer s (outcomes_octets (o ∷ [])) ≡ ended_by s o.code
unfolding by_answer
answer-taken s o h p = ap (answer_taken s) (answer-read o h) ∙ rw (of-write s.asked o h p) (ended s o.code h.code_fits)

-- and a request ends with the status that it got
pub status-taken : (s : CacheState) (code : ℕ) → code < 2 ^ 8 → by_status s (status_octets code) ≡ ended_by s code
unfolding by_status
status-taken s code f = ap (status_taken s) (status-back code f) ∙ ended s code f
