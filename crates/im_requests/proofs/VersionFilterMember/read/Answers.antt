use mathlib.Core.Path.{sym, ap, ◌∙◌}
use Rattle.im_blocks.specs.Filter.{filter_on}
use Rattle.tlv_reader.proofs.WalkLaws.{read-lacks, read-has}
use Rattle.im_requests.proofs.ReadLaws.{version-filter-bad, version-filter-remote, version-filter-got}
use Rattle.im_requests.proofs.VersionFilterMember.read.Goals as goal
use Rattle.im_requests.specs.Message.{read_as}

pub returns-in_err-p : goal.returns-in_err-p
returns-in_err-p c = let a = c.args in let d = a.left in let s = a.s.now in c.from_residual.ensures ∙ sym (ap (read_as (λ f. f)) (version-filter-bad d s a.e (read-lacks (filter_on d s a.e) (sym c.filter_of.ensures ∙ c.in_err-p.was))))

pub returns-then-not-is_local : goal.returns-then-not-is_local
returns-then-not-is_local c = let a = c.args in let d = a.left in let s = a.s.now in sym (ap (read_as (λ f. f)) (version-filter-remote d s a.e (read-has (filter_on d s a.e) (sym c.filter_of.ensures ∙ c.in_ok-p.was)) (sym c.is_local.ensures ∙ c.if-not-is_local.true)))

pub returns : goal.returns
returns c = let a = c.args in let d = a.left in let s = a.s.now in rw c.version_filter_of.ensures (sym (ap (read_as (λ f. f)) (version-filter-got d s a.e (read-has (filter_on d s a.e) (sym c.filter_of.ensures ∙ c.in_ok-p.was)) (sym c.is_local.ensures ∙ c.if-not-is_local.false))))
