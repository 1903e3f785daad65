use mathlib.Core.Path.{◌≡◌}
use mathlib.Core.Bool.{true}
use Rattle.node_schema.specs.Check.{every}
use Rattle.cache_entries.specs.Texts.{Marked}
use Rattle.cache_entries.specs.Valid.{text_right_at}
use Rattle.cache_entries.proofs.valid.texts_ok.Given as goal

abbrev pub invariant-loop-i : goal.invariant-loop-i
invariant-loop-i l = Marked l.kinds l.words l.i l.marks × (every (text_right_at l.page l.kinds l.words l.lengths) l.i ≡ true)
