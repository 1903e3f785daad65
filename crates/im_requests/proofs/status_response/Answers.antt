use mathlib.Core.Path.{refl, sym, ◌∙◌}
use mathlib.Core.Bool.{false}
use native.Mathlib.Omega.{arith}
use Rattle.im_members.proofs.PassLaws.{pass-as, number-coded, nowhere}
use Rattle.im_requests.specs.Status.{response_from, response_in}
use Rattle.im_requests.proofs.PassLaws.{opened, whole-bad, whole-short, whole-ends}
use Rattle.im_requests.proofs.StatusLaws.{response-no-code, response-no-revision, response-has}
use Rattle.im_requests.proofs.status_response.Goals as goal

pub returns-in_err-m : goal.returns-in_err-m
unfolding response_in
returns-in_err-m c = let s = c.args.s.now in let L = opened (pass-as c.in_err-m.was c.begin_message.ensures) in
    c.from_residual.ensures ∙ sym (whole-short (response_from s) L (nowhere L) (whole-bad _ _ refl))

pub returns-then-not-is_whole : goal.returns-then-not-is_whole
unfolding response_in
returns-then-not-is_whole c = let s = c.args.s.now in let m = c.begin_message in let xs = m.new.at in let ks = m.new.codes in let L = opened (pass-as c.in_ok-m.was m.ensures) in
    sym ((whole-short (response_from s) L (nowhere L) (sym (c.is_whole.ensures xs ks) ∙ c.if-not-is_whole.true)))

pub returns-then-code-ge-ABSENT : goal.returns-then-code-ge-ABSENT
unfolding response_in
returns-then-code-ge-ABSENT c = let s = c.args.s.now in let m = c.begin_message in let xs = m.new.at in let ks = m.new.codes in let L = opened (pass-as c.in_ok-m.was m.ensures) in
    sym ((whole-ends (response_from s) L (nowhere L) (sym (c.is_whole.ensures xs ks) ∙ c.if-not-is_whole.false) (response-no-code s xs (number-coded s ks xs L.coded 0 255 false (omega arith) c.number_by-code.ensures) c.if-code-ge-ABSENT.true)))

pub returns-then-revision-ge-ABSENT : goal.returns-then-revision-ge-ABSENT
unfolding response_in
returns-then-revision-ge-ABSENT c = let s = c.args.s.now in let m = c.begin_message in let xs = m.new.at in let ks = m.new.codes in let L = opened (pass-as c.in_ok-m.was m.ensures) in
    sym ((whole-ends (response_from s) L (nowhere L) (sym (c.is_whole.ensures xs ks) ∙ c.if-not-is_whole.false) (response-no-revision s xs (number-coded s ks xs L.coded 9 255 false (omega arith) c.number_by-revision.ensures) c.if-revision-ge-ABSENT.true)))

pub returns : goal.returns
unfolding response_in
returns c = let s = c.args.s.now in let m = c.begin_message in let xs = m.new.at in let ks = m.new.codes in let L = opened (pass-as c.in_ok-m.was m.ensures) in
    sym ((whole-ends (response_from s) L (nowhere L) (sym (c.is_whole.ensures xs ks) ∙ c.if-not-is_whole.false) (response-has s xs (number-coded s ks xs L.coded 0 255 false (omega arith) c.number_by-code.ensures) c.if-code-ge-ABSENT.false (number-coded s ks xs L.coded 9 255 false (omega arith) c.number_by-revision.ensures) c.if-revision-ge-ABSENT.false)))
