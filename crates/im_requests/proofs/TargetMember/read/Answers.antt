use mathlib.Core.Path.{sym, ap, ◌∙◌}
use Rattle.im_blocks.specs.Path.{path_on}
use Rattle.im_requests.proofs.ReadLaws.{asked-bad, asked-banned, asked-got}
use Rattle.im_requests.proofs.TargetMember.read.Goals as goal
use Rattle.im_requests.specs.Message.{read_as}
use Rattle.tlv_reader.proofs.WalkLaws.{read-lacks, read-has}

pub returns-in_err-p : goal.returns-in_err-p
returns-in_err-p c = let a = c.args in let d = a.left in let s = a.s.now in c.from_residual.ensures ∙ sym (ap (read_as (λ t. t)) (asked-bad d s a.e (read-lacks (path_on d s a.e) (sym c.path_of.ensures ∙ c.in_err-p.was))))

pub returns-then-not-askable : goal.returns-then-not-askable
returns-then-not-askable c = let a = c.args in let d = a.left in let s = a.s.now in sym (ap (read_as (λ t. t)) (asked-banned d s a.e (read-has (path_on d s a.e) (sym c.path_of.ensures ∙ c.in_ok-p.was)) (sym c.askable.ensures ∙ c.if-not-askable.true)))

pub returns : goal.returns
returns c = let a = c.args in let d = a.left in let s = a.s.now in rw c.target_of.ensures (sym (ap (read_as (λ t. t)) (asked-got d s a.e (read-has (path_on d s a.e) (sym c.path_of.ensures ∙ c.in_ok-p.was)) (sym c.askable.ensures ∙ c.if-not-askable.false))))
