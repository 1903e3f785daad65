use mathlib.Core.Path.{sym, ap, ◌∙◌}
use Rattle.im_blocks.specs.Data.{data_on}
use Rattle.im_blocks.proofs.DataLaws.{data-has, data-lacks, data_found}
use Rattle.im_requests.specs.Message.{read_as}
use Rattle.im_requests.specs.Write.{entry_struct}
use Rattle.im_requests.proofs.EntryLaws.{entry-bad, entry-inexact, entry-got}
use Rattle.im_requests.proofs.write.WriteEntryMember.read.Goals as goal

pub returns-in_err-p : goal.returns-in_err-p
returns-in_err-p c = let a = c.args in let d = a.left in let s = a.s.now in c.from_residual.ensures ∙ sym (ap (read_as entry_struct) (entry-bad d s a.e (data-lacks (data_on d s a.e) (sym c.data_of.ensures ∙ c.in_err-p.was))))

pub returns-then-not-exact : goal.returns-then-not-exact
unfolding data_found
returns-then-not-exact c = let a = c.args in let d = a.left in let s = a.s.now in sym (ap (read_as entry_struct) (entry-inexact d s a.e (data-has (data_on d s a.e) (sym c.data_of.ensures ∙ c.in_ok-p.was)) (sym c.exact.ensures ∙ c.if-not-exact.true)))

pub returns : goal.returns
unfolding data_found
returns c = let a = c.args in let d = a.left in let s = a.s.now in rw c.entry_of.ensures (sym (ap (read_as entry_struct) (entry-got d s a.e (data-has (data_on d s a.e) (sym c.data_of.ensures ∙ c.in_ok-p.was)) (sym c.exact.ensures ∙ c.if-not-exact.false))))
