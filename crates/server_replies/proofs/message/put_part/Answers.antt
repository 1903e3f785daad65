use mathlib.Core.Path.{sym, ap}
use native.Mathlib.Omega.{arith}
use Rattle.server_selection.proofs.RequestLaws.{paths-in}
use Rattle.server_selection.specs.Request.{filters_in}
use Rattle.server_values.specs.Values.{values_of}
use Rattle.server_report.specs.Blocks.{view_of, blocks_from}
use Rattle.server_replies.proofs.MessageLaws.{after-envelope, part-sent, sent-of}
use Rattle.server_replies.proofs.message.put_part.Goals as goal

pub make_part-requires : goal.make_part-requires
make_part-requires c = let o = after-envelope _ _ _ _ c.put_envelope-p.ensures in let p = c.requires in (p.0, (p.1.0, omega (arith, p.1.1.1.1, o.0, o.1)))

pub returns : goal.returns
returns c = let a = c.args in sent-of (ap (λ (ps : _). blocks_from (view_of a.w.now (values_of a.words.now a.nulls.now a.texts.now a.versions.now) a.defaults.now a.edits.now a.g (filters_in a.row.now)) ps a.from) (sym (paths-in a.row.now a.asked c.requires.1.0))) (part-sent c.put_envelope-p.ensures c.make_part.ensures)
