use mathlib.Core.Path.{refl, sym, ap, ◌∙◌}
use Prim.Native.Nat.{◌≤◌}
use lib.ListN.{take}
use Rattle.base_octets.specs.Store.{store}
use Rattle.server_writes.specs.Offer.{held_of}
use Rattle.server_replies.specs.declared.RowStanding.{RowStanding}
use Rattle.server_replies.specs.Messages.{max_message}
use Rattle.server_replies.specs.Server.{state_with, server_with}
use Rattle.server_replies.specs.Row.{row_in, row_of, next_part}
use Rattle.server.specs.State.{server_in}
use Rattle.server.specs.Receive.{closing, outcome_with, reacted}
use Rattle.server.proofs.ReactLaws.{silence-as, repeat-as, begins-as, closed-as, len_of}
use Rattle.server.proofs.ReceiveLaws.{right-schema, right-row-of}
use Rattle.server.proofs.receive.react.Goals as goal
use Rattle.server.proofs.receive.react.Goals.{Start}

-- the kept reply of a right server is a message
len-here : (c : Start) → c.args.t.len ≤ max_message
len-here c = let a = c.args in rw c.requires.0 (len_of (row_of a.row.now a.kept.now) (right-row-of (server_in a.w.now a.defaults.now (held_of a.words.now a.nulls.now a.texts.now a.versions.now a.edits.now) a.row.now a.kept.now) c.requires.1.0))

pub begin-requires : goal.begin-requires
begin-requires c = let p = c.requires in (p.0, (p.1.0, (p.1.1.0, p.1.1.1.1)))

pub resend-requires : goal.resend-requires
resend-requires c = (len-here (goal.at.resend-requires c).Start, c.requires.1.1.1.1)

pub next_part-n-requires : goal.next_part-n-requires
next_part-n-requires c = let a = c.args in let p = c.requires in (right-schema (server_in a.w.now a.defaults.now (held_of a.words.now a.nulls.now a.texts.now a.versions.now a.edits.now) a.row.now a.kept.now) p.1.0, (rw p.0 (right-row-of (server_in a.w.now a.defaults.now (held_of a.words.now a.nulls.now a.texts.now a.versions.now a.edits.now) a.row.now a.kept.now) p.1.0), (p.1.1.1.0 c.in-Next.is, p.1.1.1.1)))

pub returns-in-Silence : goal.returns-in-Silence
unfolding reacted
returns-in-Silence c = let a = c.args in rw c.in-Silence.is (silence-as (held_of a.words.now a.nulls.now a.texts.now a.versions.now a.edits.now) a.row.now a.kept.now c.answer.ensures refl)

pub returns-in-Begin : goal.returns-in-Begin
unfolding reacted
returns-in-Begin c = rw c.in-Begin.is c.begin.ensures

pub returns-in-Repeat : goal.returns-in-Repeat
unfolding reacted
returns-in-Repeat c = let a = c.args in let p = c.requires in rw c.in-Repeat.is (repeat-as (held_of a.words.now a.nulls.now a.texts.now a.versions.now a.edits.now) a.row.now a.kept.now c.resend.ensures.whole (len_of (row_of a.row.now a.kept.now) (right-row-of (server_in a.w.now a.defaults.now (held_of a.words.now a.nulls.now a.texts.now a.versions.now a.edits.now) a.row.now a.kept.now) p.1.0)) (c.answer-in-Repeat.ensures ∙ ap (λ (u : RowStanding). outcome_with u.len) p.0) (c.resend.ensures.out_after ∙ ap (λ (u : RowStanding). store a.out.now 0 (take u.len a.kept.now)) p.0))

pub returns-in-Next : goal.returns-in-Next
unfolding reacted
returns-in-Next c = let a = c.args in rw (c.in-Next.is, sym c.requires.0) (begins-as (state_with (held_of a.words.now a.nulls.now a.texts.now a.versions.now a.edits.now) (next_part (server_with a.w.now a.defaults.now (held_of a.words.now a.nulls.now a.texts.now a.versions.now a.edits.now) (row_in a.row.now a.t a.kept.now)) a.g)) c.next_part-n.ensures c.answer-in-Next.ensures refl c.put_standing.ensures)

pub returns-in-Close : goal.returns-in-Close
unfolding reacted
returns-in-Close c = let a = c.args in rw c.in-Close.is (closed-as (held_of a.words.now a.nulls.now a.texts.now a.versions.now a.edits.now) a.row.now a.kept.now (c.closed.ensures a.row.now a.kept.now ∙ ap (λ (u : RowStanding). closing (row_in a.row.now u a.kept.now)) c.requires.0) c.answer-in-Close.ensures c.put_standing-in-Close.ensures refl)
