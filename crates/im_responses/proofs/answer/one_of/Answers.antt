use mathlib.Core.Path.{sym, ap, ◌∙◌}
use Rattle.im_blocks.specs.Status.{answer_at}
use Rattle.im_requests.proofs.PassLaws.{list-other, list-deeper, list-in}
use Rattle.im_responses.specs.Answered.{answers_at, answers_from, only_of}
use Rattle.im_responses.proofs.answer.one_of.Goals as goal
use Rattle.tlv_reader.specs.Walk.{read_of}

pub returns-then-e-ne-ARRAY : goal.returns-then-e-ne-ARRAY
returns-then-e-ne-ARRAY c = let a = c.args in sym (ap (λ g. read_of (only_of g)) (list-other answer_at a.left a.s.now a.e c.if-e-ne-ARRAY.true))

pub returns-then-left-eq0 : goal.returns-then-left-eq0
returns-then-left-eq0 c = let a = c.args in sym (ap (λ g. read_of (only_of g)) (list-deeper answer_at a.left a.s.now a.e c.if-left-eq0.true))

pub returns : goal.returns
unfolding answers_at answers_from
returns c = let a = c.args in c.one_from.ensures ∙ sym (ap (λ g. read_of (only_of g)) (list-in answer_at a.left a.s.now a.e c.if-e-ne-ARRAY.false c.if-left-eq0.false))
