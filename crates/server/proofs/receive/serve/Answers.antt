use Rattle.std.specs.Prelude.{Some}
use Rattle.server.proofs.ReceiveLaws.{long-enough}
use mathlib.Core.Path.{◌≡◌, refl, sym, ap, ◌∙◌}
use mathlib.Core.Bool.{true}
use native.Mathlib.Omega.{arith}
use Prim.Native.Nat.{◌-◌}
use lib.ListN.{length, take, drop}
use Rattle.im_envelope.specs.Envelope.{envelope_in, envelope_length}
use Rattle.server_writes.specs.Offer.{held_of}
use Rattle.server_replies.specs.declared.RowStanding.{RowStanding}
use Rattle.server_replies.specs.Server.{server_with}
use Rattle.server_replies.specs.Row.{row_in}
use Rattle.server.specs.State.{server_right, server_in}
use Rattle.server.specs.Receive.{step_of}
use Rattle.server.proofs.StepLaws.{next-turn}
use Rattle.server.proofs.ReactLaws.{silence-as, refused_as}
use Rattle.server.proofs.ReceiveLaws.{exchange-below, broken, bad-table, small, short, too_long, not-for-server, other-subject, served-as, payload-of}
use Rattle.server.proofs.receive.serve.Goals as goal
use Rattle.server.proofs.receive.serve.Goals.{After-server_ok, Else-not-server_ok, In-Some}

-- what was tested is the server's state
tested : (c : After-server_ok) → let a = c.args in c.server_ok.result ≡ server_right (server_in a.w.now a.defaults.now (held_of a.words.now a.nulls.now a.texts.now a.versions.now a.edits.now) a.row.now a.kept.now)
tested c =
    let a = c.args in
    c.server_ok.ensures a.versions.now a.row.now a.kept.now
    ∙ ap (λ (u : RowStanding). server_right (server_with a.w.now a.defaults.now (held_of a.words.now a.nulls.now a.texts.now a.versions.now a.edits.now) (row_in a.row.now u a.kept.now))) c.read_standing-t.ensures

-- the server is right
right-here : (c : Else-not-server_ok) → let a = c.args in server_right (server_in a.w.now a.defaults.now (held_of a.words.now a.nulls.now a.texts.now a.versions.now a.edits.now) a.row.now a.kept.now) ≡ true
right-here c = sym ((let a = c.args in c.server_ok.ensures a.versions.now a.row.now a.kept.now ∙ ap (λ (u : RowStanding). server_right (server_with a.w.now a.defaults.now (held_of a.words.now a.nulls.now a.texts.now a.versions.now a.edits.now) (row_in a.row.now u a.kept.now))) c.read_standing-t.ensures)) ∙ c.if-not-server_ok.false

-- the envelope that was found
found_here : (c : In-Some) → envelope_in c.args.message.now ≡ Some c.in-Some.e
found_here c = sym c.envelope_of.ensures ∙ c.in-Some.is

pub returns-then-not-server_ok : goal.returns-then-not-server_ok
returns-then-not-server_ok c = let a = c.args in rw (broken (server_in a.w.now a.defaults.now (held_of a.words.now a.nulls.now a.texts.now a.versions.now a.edits.now) a.row.now a.kept.now) (record { subject = a.subject; grants = a.g; table = a.table }) a.message.now (length a.out.now) (sym (tested (goal.at.returns-then-not-server_ok c).After-server_ok) ∙ c.if-not-server_ok.true)) (refused_as (held_of a.words.now a.nulls.now a.texts.now a.versions.now a.edits.now) a.row.now a.kept.now 2 c.refuse.ensures refl)

pub returns-then-not-table : goal.returns-then-not-table
returns-then-not-table c = let a = c.args in rw (bad-table (server_in a.w.now a.defaults.now (held_of a.words.now a.nulls.now a.texts.now a.versions.now a.edits.now) a.row.now a.kept.now) (record { subject = a.subject; grants = a.g; table = a.table }) a.message.now (length a.out.now) (right-here (goal.at.returns-then-not-table c).Else-not-server_ok) (c.if-not-table.true)) (refused_as (held_of a.words.now a.nulls.now a.texts.now a.versions.now a.edits.now) a.row.now a.kept.now 2 c.refuse-then-not-table.ensures refl)

pub returns-then-out-lt-MAX_MESSAGE : goal.returns-then-out-lt-MAX_MESSAGE
returns-then-out-lt-MAX_MESSAGE c = let a = c.args in rw (small (server_in a.w.now a.defaults.now (held_of a.words.now a.nulls.now a.texts.now a.versions.now a.edits.now) a.row.now a.kept.now) (record { subject = a.subject; grants = a.g; table = a.table }) a.message.now (length a.out.now) (right-here (goal.at.returns-then-out-lt-MAX_MESSAGE c).Else-not-server_ok) (c.if-not-table.false) c.if-out-lt-MAX_MESSAGE.true) (refused_as (held_of a.words.now a.nulls.now a.texts.now a.versions.now a.edits.now) a.row.now a.kept.now 3 c.refuse-then-out-lt-MAX_MESSAGE.ensures refl)

pub returns-in_default : goal.returns-in_default
returns-in_default c = let a = c.args in rw (short (server_in a.w.now a.defaults.now (held_of a.words.now a.nulls.now a.texts.now a.versions.now a.edits.now) a.row.now a.kept.now) (record { subject = a.subject; grants = a.g; table = a.table }) a.message.now (length a.out.now) (right-here (goal.at.returns-in_default c).Else-not-server_ok) (c.if-not-table.false) c.if-out-lt-MAX_MESSAGE.false (sym c.envelope_of.ensures ∙ c.in_default.is)) (refused_as (held_of a.words.now a.nulls.now a.texts.now a.versions.now a.edits.now) a.row.now a.kept.now 4 c.refuse-in_default.ensures refl)

pub returns-then-message-gt-MAX_MESSAGE : goal.returns-then-message-gt-MAX_MESSAGE
returns-then-message-gt-MAX_MESSAGE c = let a = c.args in rw (too_long (server_in a.w.now a.defaults.now (held_of a.words.now a.nulls.now a.texts.now a.versions.now a.edits.now) a.row.now a.kept.now) (record { subject = a.subject; grants = a.g; table = a.table }) a.message.now (length a.out.now) (right-here (goal.at.returns-then-message-gt-MAX_MESSAGE c).Else-not-server_ok) (c.if-not-table.false) c.if-out-lt-MAX_MESSAGE.false (found_here (goal.at.returns-then-message-gt-MAX_MESSAGE c).In-Some) refl c.if-message-gt-MAX_MESSAGE.true) (refused_as (held_of a.words.now a.nulls.now a.texts.now a.versions.now a.edits.now) a.row.now a.kept.now 4 c.refuse-then-message-gt-MAX_MESSAGE.ensures refl)

pub returns-then-not-is_for_server : goal.returns-then-not-is_for_server
returns-then-not-is_for_server c = let a = c.args in rw (not-for-server (server_in a.w.now a.defaults.now (held_of a.words.now a.nulls.now a.texts.now a.versions.now a.edits.now) a.row.now a.kept.now) (record { subject = a.subject; grants = a.g; table = a.table }) a.message.now (length a.out.now) (right-here (goal.at.returns-then-not-is_for_server c).Else-not-server_ok) (c.if-not-table.false) c.if-out-lt-MAX_MESSAGE.false (found_here (goal.at.returns-then-not-is_for_server c).In-Some) (sym c.from-action.ensures) c.if-message-gt-MAX_MESSAGE.false (sym c.is_for_server.ensures ∙ c.if-not-is_for_server.true)) (refused_as (held_of a.words.now a.nulls.now a.texts.now a.versions.now a.edits.now) a.row.now a.kept.now 4 c.refuse-then-not-is_for_server.ensures refl)

pub returns-then-subject-subject_served : goal.returns-then-subject-subject_served
returns-then-subject-subject_served c = let a = c.args in rw (other-subject (server_in a.w.now a.defaults.now (held_of a.words.now a.nulls.now a.texts.now a.versions.now a.edits.now) a.row.now a.kept.now) (record { subject = a.subject; grants = a.g; table = a.table }) a.message.now (length a.out.now) (right-here (goal.at.returns-then-subject-subject_served c).Else-not-server_ok) (c.if-not-table.false) c.if-out-lt-MAX_MESSAGE.false (found_here (goal.at.returns-then-subject-subject_served c).In-Some) (sym c.from-action.ensures) c.if-message-gt-MAX_MESSAGE.false (sym c.is_for_server.ensures ∙ c.if-not-is_for_server.false) (λ z. c.if-subject-subject_served.true (z ∙ sym c.subject_served.ensures))) (silence-as (held_of a.words.now a.nulls.now a.texts.now a.versions.now a.edits.now) a.row.now a.kept.now c.answer.ensures refl)

pub slice_bounds-payload-count : goal.slice_bounds-payload-count
slice_bounds-payload-count c = omega (arith, long-enough c.args.message.now (found_here (goal.at.slice_bounds-payload-count c).In-Some))

pub slice_bounds-payload-start : goal.slice_bounds-payload-start
slice_bounds-payload-start c = omega (arith, long-enough c.args.message.now (found_here (goal.at.slice_bounds-payload-start c).In-Some))

pub react-requires : goal.react-requires
react-requires c = let a = c.args in (c.read_standing-t.ensures, (right-here (goal.at.react-requires c).Else-not-server_ok, (exchange-below a.message.now (found_here (goal.at.react-requires c).In-Some), ((λ z. next-turn c.read_standing-t.result.progress _ _ _ (sym c.step_of-step.ensures ∙ z)), c.if-out-lt-MAX_MESSAGE.false))))

pub returns : goal.returns
returns c = let a = c.args in rw (served-as (server_in a.w.now a.defaults.now (held_of a.words.now a.nulls.now a.texts.now a.versions.now a.edits.now) a.row.now a.kept.now) (record { subject = a.subject; grants = a.g; table = a.table }) a.message.now (length a.out.now) (right-here (goal.at.returns c).Else-not-server_ok) (c.if-not-table.false) c.if-out-lt-MAX_MESSAGE.false (found_here (goal.at.returns c).In-Some) (sym c.from-action.ensures) c.if-message-gt-MAX_MESSAGE.false (sym c.is_for_server.ensures ∙ c.if-not-is_for_server.false) (c.if-subject-subject_served.false ∙ c.subject_served.ensures) (payload-of a.message.now) (c.step_of-step.ensures ∙ ap (λ (u : RowStanding). step_of u.progress c.from-action.result c.in-Some.e (take (length a.message.now - envelope_length) (drop envelope_length a.message.now))) c.read_standing-t.ensures)) c.react.ensures
