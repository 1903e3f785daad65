-- A promise of more, and a success for it (RULES 3.13).
use Rattle.std.specs.Prelude.{◌≡◌, List, ℕ, ◌≤◌, ◌<◌, length, get_or, drop, Some}
use Rattle.im_writer.specs.Envelope.{cache_edition}
use Rattle.im_envelope.specs.declared.Fields.{Fields}
use Rattle.im_envelope.specs.Envelope.{envelope_in}
use Rattle.im_requests.specs.Status.{response_in}
use Rattle.node_schema.specs.Layout.{subject_word}
use Rattle.im_exchange.specs.declared.Progress.{Progress}
use Rattle.im_exchange.specs.declared.Step.{Step}
use Rattle.im_exchange.specs.declared.Step.TheVariants.{Silence, Begin, Repeat, Next, Close}
use Rattle.im_exchange.specs.Rules.{status_opcode, max_turn, part}
use Rattle.im_exchange.specs.Rules as rules
use Rattle.server_replies.specs.Messages.{envelope_length, max_message}
use Rattle.server_replies.specs.Server.{Server, Caller}

-- a success for the newest reply of an exchange that promised more and was not closed
pub record Success (s : Server) (c : Caller) (m : List ℕ) (e : Fields) : Type 0 where
  pub found : envelope_in m ≡ Some e
  pub fits : length m ≤ max_message
  pub edition : e.edition ≡ cache_edition
  pub opcode : e.opcode ≡ status_opcode
  pub ours : c.subject ≡ get_or s.schema subject_word 0
  pub exchange : e.exchange ≡ s.state.row.progress.last
  pub turn : e.turn ≡ s.state.row.progress.turn
  pub status : response_in (drop envelope_length m) ≡ Some 0

pub record Promised (x : Progress) : Type 0 where
  pub promised : x.next ≡ part
  pub unclosed : x.closed ≡ 0
  pub left : x.turn < max_turn

-- what a step rests on: an exchange begins above the last; a next part, and a close, were promised, and a next part has a turn left
abbrev pub Taken : Progress → ℕ → Step → Type 0
Taken x exchange Silence = Unit
Taken x exchange Begin = x.last < exchange
Taken x exchange Repeat = Unit
Taken x exchange Next = (x.turn < max_turn) × (x.next ≡ rules.nothing → ⊥)
Taken x exchange Close = x.next ≡ rules.nothing → ⊥
