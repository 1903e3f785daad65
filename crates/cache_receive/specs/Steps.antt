-- A message taken, step by step as the code has it: what each step answers is one equation.
use Rattle.std.specs.Prelude.{◌&&◌, List, ℕ, eqb, ltb, leb, length, Some, None, Option}
use Rattle.tlv_reader.specs.Octet.{pick}
use Rattle.im_envelope.specs.Envelope.{envelope_in, max_message}
use Rattle.im_exchange.specs.Rules.{status_opcode}
use Rattle.cache_entries.specs.declared.Cached.{Cached}
use Rattle.cache_report.specs.Block.{Judgement}
use Rattle.cache_report.specs.Words.{judged_by, held_by, page_by}
use Rattle.cache_state.specs.declared.Request.{Request}
use Rattle.cache_state.specs.declared.CacheState.{CacheState}
use Rattle.cache_state.specs.State.{cache_right}
use Rattle.cache_state.specs.Words.{words_right}
use Rattle.cache_state.specs.Reaction.{CacheReaction, Silent}
use Rattle.cache_receive.specs.declared.Opened.{Opened}
use Rattle.cache_receive.specs.Receive.{for_cache, awaited, by_status, by_answer, goes_on, ends}
use Rattle.im_envelope.specs.declared.Fields.{Fields}

-- why a message is not taken, or 0 and its opcode
abbrev pub shut : ℕ → Opened
shut n = record { number = n; opcode = 0 }

abbrev pub opened_by : Request → List ℕ → Option Fields → Opened
opened_by x m None = shut 4
opened_by x m (Some e) =
    pick (leb (length m) max_message && for_cache e.edition e.opcode) (pick (awaited x e) (record { number = 0; opcode = e.opcode }) (shut 5)) (shut 4)

unfoldable pub opened_in : Request → List ℕ → Opened
opened_in x m = opened_by x m (envelope_in m)

unfoldable pub opened_of : List ℕ → List ℕ → CacheState → List ℕ → ℕ → Opened
opened_of asked page s m room =
    pick (words_right asked && cache_right page s) (pick (ltb room max_message) (shut 3) (opened_in s.asked m)) (shut 2)

-- an awaited reply that is no part of a report
unfoldable pub by_reply : CacheState → ℕ → List ℕ → Silent
by_reply s opcode payload = pick (eqb opcode status_opcode) (by_status s payload) (by_answer s payload)

-- the blocks of a part, judged and taken
pub record PartDone : Type 0 where
  pub number : ℕ
  pub held : Cached
  pub page : List ℕ

abbrev pub number_by : Cached → List Judgement → ℕ
number_by c judgements = (judged_by (record { number = 0; held = c }) judgements).number

unfoldable pub part_done : List ℕ → Cached → List ℕ → List Judgement → PartDone
part_done s c page judgements =
    pick (eqb (number_by c judgements) 0) (record { number = 0; held = held_by c judgements; page = page_by s c page judgements }) (record { number = number_by c judgements; held = c; page = page })

-- what follows a part that was taken
unfoldable pub after_part : Cached → Request → List ℕ → ℕ → CacheReaction
after_part held x page more = pick (eqb more 1) (goes_on held x page) (ends held x page)
