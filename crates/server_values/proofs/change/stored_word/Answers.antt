use mathlib.Core.Path.{sym, ◌∙◌}
use Rattle.tlv_reader.specs.Value.{datum_in}
use Rattle.server_values.proofs.ChangeLaws.{text-word, plain_word}
use Rattle.server_values.proofs.change.stored_word.Goals as goal

pub returns-then-is_text : goal.returns-then-is_text
returns-then-is_text c = λ s. text-word (datum_in s c.args.v) (sym (c.is_text.ensures s) ∙ c.if-is_text.true)

pub returns : goal.returns
returns c = λ s. c.word_of.ensures ∙ plain_word s c.args.v (sym (c.is_text.ensures s) ∙ c.if-is_text.false)
