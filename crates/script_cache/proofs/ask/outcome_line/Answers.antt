use mathlib.Core.Path.{refl, sym, ◌∙◌}
use Rattle.script_cache.specs.Asks.{outcome_at}
use Rattle.script_cache.proofs.ask.outcome_line.Goals as goal

pub returns-then-not-is_done : goal.returns-then-not-is_done
unfolding outcome_at
returns-then-not-is_done c =
    let d = c.is_done in
    rw (sym d.ensures ∙ c.if-not-is_done.true) (record { line = refl; content = refl })

pub returns : goal.returns
unfolding outcome_at
returns c =
    let d = c.is_done in
    let yes = sym d.ensures ∙ c.if-not-is_done.false in
    rw (yes, ← (c.outcome-e.ensures c.args.cache.kept).answer) c.say_outcome.ensures
