use mathlib.Core.Path.{refl, sym, ap, ◌∙◌}
use Rattle.std.specs.Prelude.{Err}
use Rattle.std.proofs.lemmas.Result.{err_from_is_err_and}
use Rattle.script_server.specs.Replies.{turn_at}
use Rattle.script_server.proofs.server_line.Goals as goal

pub returns-then-same_bytes : goal.returns-then-same_bytes
unfolding turn_at
returns-then-same_bytes c =
    let a = c.args in
    rw (sym c.same_bytes.ensures ∙ c.if-same_bytes.true) (c.change_line.ensures a.room a.out.now)

pub returns-in_err-f : goal.returns-in_err-f
unfolding turn_at
returns-in_err-f c =
    let t = sym c.same_bytes.ensures ∙ c.if-same_bytes.false in
    let p = err_from_is_err_and c.from_residual.result c.from_residual.ensures.1 in
    rw (t, ← c.subject_served.ensures, ← c.handed.ensures, c.in_err-f.was) (record { says = p.1 ∙ ap Err p.2; texts = refl; buffer = refl })

pub returns : goal.returns
unfolding turn_at
returns c =
    let t = sym c.same_bytes.ensures ∙ c.if-same_bytes.false in
    rw (t, ← c.subject_served.ensures, ← c.handed.ensures, c.in_ok-f.was) c.hand_message.ensures
