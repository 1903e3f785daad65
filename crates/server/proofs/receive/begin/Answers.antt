use mathlib.Core.Path.{refl, sym}
use Rattle.server_writes.specs.Offer.{held_of}
use Rattle.server_replies.specs.Server.{state_with, server_with}
use Rattle.server_replies.specs.Row.{row_in}
use Rattle.server_replies.specs.Begin.{read_begun}
use Rattle.server.specs.State.{server_in}
use Rattle.server.proofs.ReactLaws.{begins-as, wrote_as, silence-as}
use Rattle.server.proofs.ReceiveLaws.{right-schema, right-size}
use Rattle.server.proofs.receive.begin.Goals as goal

pub begin_read-n-requires : goal.begin_read-n-requires
begin_read-n-requires c = let a = c.args in let p = c.requires in (right-schema (server_in a.w.now a.defaults.now (held_of a.words.now a.nulls.now a.texts.now a.versions.now a.edits.now) a.row.now a.kept.now) p.1.0, (p.1.1.0, p.1.1.1))

pub returns-in-Read : goal.returns-in-Read
returns-in-Read c = let a = c.args in
    rw (c.in-Read.is, sym c.requires.0) (begins-as (state_with (held_of a.words.now a.nulls.now a.texts.now a.versions.now a.edits.now) (read_begun (server_with a.w.now a.defaults.now (held_of a.words.now a.nulls.now a.texts.now a.versions.now a.edits.now) (row_in a.row.now a.t a.kept.now)) a.g a.e.exchange a.payload.now)) c.begin_read-n.ensures c.answer.ensures refl c.put_standing.ensures)

pub begin_write-n-requires : goal.begin_write-n-requires
begin_write-n-requires c = let a = c.args in let p = c.requires in (right-schema (server_in a.w.now a.defaults.now (held_of a.words.now a.nulls.now a.texts.now a.versions.now a.edits.now) a.row.now a.kept.now) p.1.0, (right-size (server_in a.w.now a.defaults.now (held_of a.words.now a.nulls.now a.texts.now a.versions.now a.edits.now) a.row.now a.kept.now) p.1.0, (p.1.1.0, p.1.1.1)))

pub returns-in-Write : goal.returns-in-Write
returns-in-Write c = let a = c.args in
    rw (c.in-Write.is, sym c.requires.0) (wrote_as _ (c.begin_write-n.ensures a.row.now) c.answer-in-Write.ensures c.put_standing-in-Write.ensures)

pub returns-in-Status : goal.returns-in-Status
returns-in-Status c = let a = c.args in rw c.in-Status.is (silence-as (held_of a.words.now a.nulls.now a.texts.now a.versions.now a.edits.now) a.row.now a.kept.now c.answer-in-Status.ensures refl)

pub returns-in-Other : goal.returns-in-Other
returns-in-Other c = let a = c.args in rw c.in-Other.is (silence-as (held_of a.words.now a.nulls.now a.texts.now a.versions.now a.edits.now) a.row.now a.kept.now c.answer-in-Other.ensures refl)
