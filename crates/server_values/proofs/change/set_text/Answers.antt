use mathlib.Core.Bool.{true, false}
use mathlib.Core.Path.{◌≡◌, sym, ◌∙◌}
use Rattle.tlv_reader.specs.Value.{datum_in}
use Rattle.server_values.specs.Change.{is_text, edits_set}
use Rattle.server_values.proofs.change.set_text.Goals as goal

pub store_text-requires : goal.store_text-requires
store_text-requires c =
    let t : is_text (datum_in c.args.src.now c.args.new) ≡ true = sym (c.is_text.ensures c.args.src.now) ∙ c.if-is_text.true in
    rw (c.first_value-rank.ensures, c.bytes_of.ensures) ((c.requires.1.0 t).1, c.requires.1.1 t)

pub returns-then-is_text : goal.returns-then-is_text
unfolding edits_set
returns-then-is_text c =
    let t : is_text (datum_in c.args.src.now c.args.new) ≡ true = sym (c.is_text.ensures c.args.src.now) ∙ c.if-is_text.true in
    rw t (c.store_text.ensures ∙ rw (c.first_value-rank.ensures, c.bytes_of.ensures))

pub returns-else-is_text : goal.returns-else-is_text
unfolding edits_set
returns-else-is_text c =
    let a = c.args in
    let t : is_text (datum_in a.src.now a.new) ≡ false = sym (c.is_text.ensures a.src.now) ∙ c.if-is_text.false in
    rw t
