use mathlib.Core.Path.{refl, sym, ◌∙◌}
use Rattle.script_cache.specs.Asks.{unknown_at}
use Rattle.script_cache.proofs.ask.unknown_line.Goals as goal

pub returns-then-not-is_done : goal.returns-then-not-is_done
unfolding unknown_at
returns-then-not-is_done c =
    let d = c.is_done in
    rw (sym d.ensures ∙ c.if-not-is_done.true) (record { line = refl; content = refl })

pub returns : goal.returns
unfolding unknown_at
returns c =
    let d = c.is_done in
    let yes = sym d.ensures ∙ c.if-not-is_done.false in
    rw (yes, ← (c.unknown-a.ensures c.args.cache.kept).answer) c.say_unknown.ensures
