use mathlib.Core.Path.{ap, ◌∙◌}
use mathlib.Core.List.{List}
use Prim.Native.Nat.{ℕ}
use Rattle.tlv_reader.specs.Value.{datum_in}
use Rattle.server_values.specs.Change.{differs_from}
use Rattle.server_values.proofs.change.differs_at.Goals as goal

pub returns : goal.returns
returns c = c.differs_from.ensures ∙ ap (λ (l : List ℕ). differs_from c.args.word c.args.null l (datum_in c.args.src.now c.args.new)) c.text_at-text.ensures
