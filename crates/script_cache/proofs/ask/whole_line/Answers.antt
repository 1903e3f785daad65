use mathlib.Core.Path.{refl, sym, ◌∙◌}
use Rattle.script_cache.specs.Asks.{whole_at}
use Rattle.script_cache.proofs.ask.whole_line.Goals as goal

pub returns-then-not-is_done : goal.returns-then-not-is_done
unfolding whole_at
returns-then-not-is_done c =
    let p = c.read_place-a.ensures in
    let d = c.is_done in
    let no = sym d.ensures ∙ c.if-not-is_done.true in
    rw (← p, no) (record { line = refl; content = refl })

pub returns : goal.returns
unfolding whole_at
returns c =
    let p = c.read_place-a.ensures in
    let d = c.is_done in
    let yes = sym d.ensures ∙ c.if-not-is_done.false in
    let w = (c.coherent-w.ensures c.args.cache.kept).answer in
    rw (← p, yes, ← w) c.say_whole.ensures
