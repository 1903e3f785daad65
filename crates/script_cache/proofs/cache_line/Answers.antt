use mathlib.Core.Path.{refl, sym, ap, ◌∙◌}
use Rattle.std.specs.Prelude.{Err}
use Rattle.std.proofs.lemmas.Result.{err_from_is_err_and}
use Rattle.script_cache.specs.Acts.{turn_at}
use Rattle.script_cache.proofs.cache_line.Goals as goal

pub returns-then-begins : goal.returns-then-begins
unfolding turn_at
returns-then-begins c = rw (sym c.begins.ensures ∙ c.if-begins.true) c.begin_line.ensures

pub returns-in_err-m : goal.returns-in_err-m
unfolding turn_at
returns-in_err-m c =
    let t = sym c.begins.ensures ∙ c.if-begins.false in
    let p = err_from_is_err_and c.from_residual.result c.from_residual.ensures.1 in
    rw (t, ← c.handed.ensures, c.in_err-m.was) (record { says = p.1 ∙ ap Err p.2; texts = refl; buffer = refl })

pub returns : goal.returns
unfolding turn_at
returns c =
    let t = sym c.begins.ensures ∙ c.if-begins.false in
    rw (t, ← c.handed.ensures, c.in_ok-m.was) c.hand.ensures
