use mathlib.Core.Path.{◌∙◌}
use Rattle.tlv_reader.specs.Value.{datum_in}
use Rattle.server_values.specs.Values.{values_of}
use Rattle.server_values.proofs.ChangeLaws.{null-in, set-whole}
use Rattle.server_values.proofs.change.set_value.Goals as goal

pub set_mark-requires : goal.set_mark-requires
set_mark-requires c = rw c.first_value.ensures c.requires.2

pub returns : goal.returns
returns c =
    let a = c.args in
    let s = a.src.now in
    set-whole a.w.now (values_of a.words.now a.nulls.now a.texts.now a.versions.now) a.i (datum_in s a.new) (c.stored_word.ensures s)
    (c.is_null.ensures ∙ null-in s a.new) c.first_value.ensures c.set_mark.ensures c.attribute_cluster-k.ensures c.next_version.ensures
