use mathlib.Core.Path.{refl, sym, ◌∙◌}
use Rattle.script_cache.specs.Acts.{begin_turn}
use Rattle.script_cache.proofs.begin_line.Goals as goal

pub returns-then-same_bytes : goal.returns-then-same_bytes
unfolding begin_turn
returns-then-same_bytes c = rw (sym c.same_bytes.ensures ∙ c.if-same_bytes.true) c.write_line.ensures

pub returns-then-not-is_done : goal.returns-then-not-is_done
unfolding begin_turn
returns-then-not-is_done c =
    let d = c.is_done in
    let t = sym c.same_bytes.ensures ∙ c.if-same_bytes.false in
    rw (t, sym d.ensures ∙ c.if-not-is_done.true) (record { says = refl; texts = refl; buffer = refl })

pub returns : goal.returns
unfolding begin_turn
returns c =
    let d = c.is_done in
    let t = sym c.same_bytes.ensures ∙ c.if-same_bytes.false in
    rw (t, sym d.ensures ∙ c.if-not-is_done.false, ← c.same_bytes-2.ensures) c.ask_again.ensures
