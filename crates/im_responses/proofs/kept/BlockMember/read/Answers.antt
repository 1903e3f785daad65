use mathlib.Core.Path.{sym, ◌∙◌}
use Rattle.im_blocks.specs.Data.{report_on}
use Rattle.im_responses.proofs.KeptLaws.{block-lacks, block-has}
use Rattle.im_responses.proofs.kept.BlockMember.read.Goals as goal

pub returns-in_err-report : goal.returns-in_err-report
returns-in_err-report c = let a = c.args in c.from_residual.ensures ∙ sym (block-lacks (report_on a.left a.s.now a.e) (sym c.report_of.ensures ∙ c.in_err-report.was))

pub returns : goal.returns
returns c = let a = c.args in sym (block-has (report_on a.left a.s.now a.e) (sym c.report_of.ensures ∙ c.in_ok-report.was))
