-- A VALID CACHE NEVER ANSWERS 2, whatever it is handed.
use Rattle.std.specs.Prelude.{Some, None, Option, Ok, Err}
use mathlib.Core.Path.{◌≡◌, refl, sym, ap, ◌∙◌}
use mathlib.Core.Bool.{Bool, true, ◌&&◌}
use mathlib.Core.List.{List, [], ◌∷◌}
use Prim.Native.Nat.{ℕ}
use native.Mathlib.Omega.{arith}
use lib.Dec.{eqb, leb, ltb}
use lib.ListN.{length, drop}
use Rattle.tlv_reader.specs.Octet.{pick}
use Rattle.tlv_reader.proofs.Picks.{pick-elim}
use Rattle.im_blocks.specs.declared.Answer.{Answer}
use Rattle.im_blocks.specs.Data.{ReportOf}
use Rattle.im_requests.specs.Status.{response_in}
use Rattle.im_responses.specs.Report.{PartOf, part_in}
use Rattle.im_responses.specs.Answered.{answered_in}
use Rattle.im_envelope.specs.Envelope.{envelope_in, envelope_length, max_message}
use Rattle.im_exchange.specs.Rules.{status_opcode, report_opcode}
use Rattle.cache_entries.specs.declared.Cached.{Cached}
use Rattle.cache_report.specs.Block.{Judgement}
use Rattle.cache_report.specs.declared.block.Unfit.TheVariants.{Long, Unusable}
use Rattle.cache_report.specs.Part.{Judged, judgement_in, blocks_in, judged_next, judged_all}
use Rattle.cache_report.specs.Entry.{position_of, position_number, number_for, worse}
use Rattle.cache_state.specs.declared.CacheState.{CacheState}
use Rattle.cache_state.specs.Reaction.{Silent, CacheReaction}
use Rattle.cache_state.specs.State.{cache_right}
use Rattle.proof_cache_laws.specs.Valid.{ValidCache}
use Rattle.proof_cache_laws.proofs.BegunLaws.{valid-right}
use Rattle.cache_receive.specs.Receive.{for_cache, awaited, ended_with, status_taken, by_status, of_write, answer_taken, by_answer, goes_on, past_turns, part_taken, takes_part, takes, in_envelope, received}
use Rattle.im_envelope.specs.declared.Fields.{Fields}

-- another number than 2
abbrev Fair : ℕ → Type 0
Fair n = n ≡ 2 → ⊥

number-fair : (c : Cached) (f : Judgement) → Fair (number_for c f)
unfolding number_for
number-fair c (Err Unusable) e = omega arith
number-fair c (Err Long) e = omega arith
number-fair c (Ok x) e = go (position_of c x) e
  where
    go : (p : (Option (ℕ × ℕ))) → Fair (position_number p)
    go (Some (k, i)) e = omega arith
    go None e = omega arith

worse-fair : (a b : ℕ) → Fair b → Fair (worse a b)
unfolding worse
worse-fair a b h =
    pick-elim Fair (eqb a 6) _ _ (λ _ e. omega arith) (λ _. pick-elim Fair (eqb b 6) _ _ (λ _ e. omega arith) (λ _. pick-elim Fair (eqb a 7) _ _ (λ _ e. omega arith) (λ _. h)))

judged-fair : (s : List ℕ) (j : Judged) → Fair j.number → (l : List (ReportOf ℕ)) → Fair (judged_all s j l).number
unfolding judged_all
judged-fair s j h [] = h
judged-fair s j h (x ∷ l) = judged-fair s (judged_next s j x) (worse-fair j.number (number_for j.held (judgement_in s x)) (number-fair j.held (judgement_in s x))) l

abbrev FairR : CacheReaction → Type 0
FairR r = Fair r.number

abbrev FairO : Silent → Type 0
FairO o = Fair o.number

ended-fair : (s : CacheState) (code : ℕ) → FairO (ended_with s code)
unfolding ended_with
ended-fair s code = pick-elim FairO (ltb code 256) _ _ (λ _ e. omega arith) (λ _ e. omega arith)

module _ (page : List ℕ) (s : CacheState) where
  status-fair : (payload : List ℕ) → FairO (by_status s payload)
  unfolding by_status
  status-fair payload = go (response_in payload)
    where
      go : (o : Option ℕ) → FairO (status_taken s o)
      go None = λ e. omega arith
      go (Some code) = ended-fair s code

  answer-fair : (payload : List ℕ) → FairO (by_answer s payload)
  unfolding by_answer
  answer-fair payload = go (answered_in payload)
    where
      go : (o : Option Answer) → FairO (answer_taken s o)
      go None = λ e. omega arith
      go (Some a) = pick-elim FairO (of_write s.asked a.path) _ _ (λ _. ended-fair s a.status.code) (λ _ e. omega arith)

  part-fair : (payload : List ℕ) → FairR (takes_part page s payload)
  unfolding takes_part goes_on
  part-fair payload = go (part_in payload)
    where
      go : (o : Option (PartOf ℕ)) → FairR (part_taken page s payload o)
      go None = λ e. omega arith
      go (Some p) =
          pick-elim FairR (past_turns p.more s.asked.turn) _ _ (λ _ e. omega arith)
          (λ _. pick-elim FairR (eqb (judged_all payload (record { number = 0; held = s.held }) (blocks_in payload)).number 0) _ _
          (λ _. pick-elim FairR (eqb p.more 1) _ _ (λ _ e. omega arith) (λ _ e. omega arith))
          (λ _. judged-fair payload (record { number = 0; held = s.held }) (λ e. omega arith) (blocks_in payload)))

  takes-fair : (opcode : ℕ) (payload : List ℕ) → FairR (takes page s opcode payload)
  unfolding takes
  takes-fair opcode payload =
      pick-elim FairR (eqb opcode status_opcode) _ _ (λ _. status-fair payload)
      (λ _. pick-elim FairR (eqb opcode report_opcode) _ _ (λ _. part-fair payload) (λ _. answer-fair payload))

  pub never-2 : ValidCache page s → (m : List ℕ) (room : ℕ) → (received page s m room).number ≡ 2 → ⊥
  unfolding received
  never-2 v m room = rw (valid-right page s v) (pick-elim FairR (ltb room max_message) _ _ (λ _ e. omega arith) (λ _. go (envelope_in m)))
    where
      go : (e : (Option Fields)) → FairR (in_envelope page s m e)
      go None = λ e. omega arith
      go (Some e) =
          pick-elim FairR (leb (length m) max_message && for_cache e.edition e.opcode) _ _
          (λ _. pick-elim FairR (awaited s.asked e) _ _ (λ _. takes-fair e.opcode (drop envelope_length m)) (λ _ e. omega arith)) (λ _ e. omega arith)
