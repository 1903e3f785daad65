use mathlib.Core.Path.{sym, ap, ◌∙◌}
use lib.ListN.{length}
use Rattle.base_bounds.specs.Bounds.{depth_limit}
use Rattle.tlv_reader.specs.Walk.{element_at, ends_at}
use Rattle.tlv_reader.proofs.WalkLaws.{broken, past}
use Rattle.tlv_vectors.proofs.is_element.Goals as goal

pub returns-in_default : goal.returns-in_default
returns-in_default c = let s = c.args.s.now in sym (ap (ends_at (length s)) (broken (element_at depth_limit s 0) (sym c.walk.ensures ∙ c.in_default.is)))

pub returns : goal.returns
returns c = let s = c.args.s.now in sym (ap (ends_at (length s)) (past (element_at depth_limit s 0) (sym c.walk.ensures ∙ c.in-Some.is)))
