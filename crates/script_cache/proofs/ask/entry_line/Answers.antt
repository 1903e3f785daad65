use mathlib.Core.Path.{refl, sym, ◌∙◌}
use Rattle.script_cache.specs.Asks.{entry_at}
use Rattle.script_cache.specs.Lines.{state_of}
use Rattle.script_cache.proofs.EntryLaws.{showable}
use Rattle.script_cache.proofs.ask.entry_line.Goals as goal

pub returns-then-not-is_done : goal.returns-then-not-is_done
unfolding entry_at
returns-then-not-is_done c =
    let p = c.read_path-a.ensures in
    let d = c.is_done in
    let no = sym d.ensures ∙ c.if-not-is_done.true in
    rw (← p, no) (record { line = refl; content = refl })

pub say_entry-requires : goal.say_entry-requires
say_entry-requires c =
    let a = c.args in
    let p = c.read_path-a.result in
    showable a.cache.asked a.page.now (state_of a.cache) p.endpoint p.cluster p.attribute c.entry-h.result (c.entry-h.ensures a.cache.kept).answer

pub returns : goal.returns
unfolding entry_at
returns c =
    let p = c.read_path-a.ensures in
    let d = c.is_done in
    let yes = sym d.ensures ∙ c.if-not-is_done.false in
    let w = (c.entry-h.ensures c.args.cache.kept).answer in
    rw (← p, yes, ← w) c.say_entry.ensures
