use mathlib.Core.Path.{refl, sym, ◌∙◌}
use Rattle.script_cache.specs.Asks.{ask_shown}
use Rattle.script_cache.proofs.ask.ask_line.Goals as goal

pub returns-then-same_bytes : goal.returns-then-same_bytes
unfolding ask_shown
returns-then-same_bytes c =
    rw (sym c.same_bytes.ensures ∙ c.if-same_bytes.true) c.whole_line.ensures

pub returns-then-same_bytes-2 : goal.returns-then-same_bytes-2
unfolding ask_shown
returns-then-same_bytes-2 c =
    let t = sym c.same_bytes.ensures ∙ c.if-same_bytes.false in
    rw (t, sym c.same_bytes-2.ensures ∙ c.if-same_bytes-2.true) c.entry_line.ensures

pub returns-then-same_bytes-3 : goal.returns-then-same_bytes-3
unfolding ask_shown
returns-then-same_bytes-3 c =
    let t = sym c.same_bytes.ensures ∙ c.if-same_bytes.false in
    let u = sym c.same_bytes-2.ensures ∙ c.if-same_bytes-2.false in
    rw (t, u, sym c.same_bytes-3.ensures ∙ c.if-same_bytes-3.true) c.outcome_line.ensures

pub returns-then-same_bytes-4 : goal.returns-then-same_bytes-4
unfolding ask_shown
returns-then-same_bytes-4 c =
    let t = sym c.same_bytes.ensures ∙ c.if-same_bytes.false in
    let u = sym c.same_bytes-2.ensures ∙ c.if-same_bytes-2.false in
    let v = sym c.same_bytes-3.ensures ∙ c.if-same_bytes-3.false in
    rw (t, u, v, sym c.same_bytes-4.ensures ∙ c.if-same_bytes-4.true) c.unknown_line.ensures

pub returns : goal.returns
unfolding ask_shown
returns c =
    let t = sym c.same_bytes.ensures ∙ c.if-same_bytes.false in
    let u = sym c.same_bytes-2.ensures ∙ c.if-same_bytes-2.false in
    let v = sym c.same_bytes-3.ensures ∙ c.if-same_bytes-3.false in
    rw (t, u, v, sym c.same_bytes-4.ensures ∙ c.if-same_bytes-4.false) (record { line = refl; content = refl })
