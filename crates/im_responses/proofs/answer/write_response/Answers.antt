use Rattle.std.specs.Prelude.{Some, Option}
use mathlib.Core.Path.{◌≡◌, refl, sym, ◌∙◌}
use mathlib.Core.Bool.{true, false}
use mathlib.Core.List.{◌∷◌}
use native.Mathlib.Omega.{arith}
use lib.ListN.{length, get_or, replicate}
use Rattle.tlv_reader.specs.Octet.{structure}
use Rattle.im_members.specs.Array.{required_in}
use Rattle.im_members.specs.declared.Stop.{Stop}
use Rattle.im_members.specs.Pass.{pass_with}
use Rattle.im_members.proofs.ArrayLaws.{required-none}
use Rattle.im_members.proofs.PassLaws.{Left, pass-as, frame-none, number-coded, nowhere, only-first, nest-refused, nest-on, nest-found}
use Rattle.im_blocks.specs.declared.Answer.{Answer}
use Rattle.im_blocks.specs.Status.{answer_at}
use Rattle.im_requests.specs.Message.{structure_at, whole_pass, list_at}
use Rattle.im_requests.proofs.PassLaws.{opened, whole-bad, whole-good, whole-refused, whole-short, whole-ends, whole-lacks}
use Rattle.im_responses.specs.Answered.{only_of, answered_tags, answered_from, answered_in}
use Rattle.im_responses.proofs.AnsweredLaws.{one-reads, answered-lacks, answered-no, answered-has}
use Rattle.im_responses.proofs.answer.write_response.Goals as goal
use Rattle.im_responses.proofs.answer.write_response.Goals.{After-begin_message, After-finish, Else-m-ge10, Else-not-is_whole}
use Rattle.tlv_reader.proofs.WalkLaws.{read-lacks, read-has}

-- the pass to the statuses
first : (c : After-begin_message) {r : Option Stop} → c.begin_message.result ≡ r → let s = c.args.s.now in Left 9 s structure answered_tags (true ∷ replicate 9 false) (replicate 10 0) (structure_at answered_tags s) (pass_with r c.begin_message.new.at c.begin_message.new.codes)
first c w = opened (pass-as w c.begin_message.ensures)

at-statuses : (c : Else-m-ge10) → c.in_ok-m.m.slot ≡ 0
at-statuses c = only-first _ (((opened (pass-as c.in_ok-m.was c.begin_message.ensures))).stopped c.if-m-ge10.false).wanted

-- the pass after them
second : (c : After-finish) {r : Option Stop} → c.finish.result ≡ r → let s = c.args.s.now in Left 9 s structure answered_tags (replicate 10 false) c.begin_message.new.at (structure_at answered_tags s) (pass_with r c.finish.new.at c.finish.new.codes)
second c w = nest-on ((opened (pass-as c.in_ok-m.was c.begin_message.ensures))) ((only-first _ (((opened (pass-as c.in_ok-m.was c.begin_message.ensures))).stopped c.if-m-ge10.false).wanted)) c.if-m-ge10.false (one-reads c.args.s.now) (read-has _ (sym c.one_of.ensures ∙ c.in_ok-x.was)) _ (pass-as w c.finish.ensures)

whole : (c : Else-not-is_whole) → let z = c.finish in whole_pass (length c.args.s.now) (pass_with (Some c.in_ok-z.z) z.new.at z.new.codes) ≡ true
whole c = let z = c.finish in sym (c.is_whole.ensures z.new.at z.new.codes) ∙ c.if-not-is_whole.false

found : (c : Else-not-is_whole) → required_in (λ at. only_of (list_at answer_at 9 c.args.s.now at)) (get_or c.finish.new.at 0 0) ≡ Some c.in_ok-x.x
found c = nest-found ((opened (pass-as c.in_ok-m.was c.begin_message.ensures))) ((only-first _ (((opened (pass-as c.in_ok-m.was c.begin_message.ensures))).stopped c.if-m-ge10.false).wanted)) c.if-m-ge10.false (one-reads c.args.s.now) (read-has _ (sym c.one_of.ensures ∙ c.in_ok-x.was)) _ (pass-as c.in_ok-z.was c.finish.ensures) (whole-good _ _ (whole c))

ends : (c : Else-not-is_whole) {o : Option Answer} → let s = c.args.s.now in answered_from s c.finish.new.at ≡ o → answered_in s ≡ o
unfolding answered_in
ends c f = let N = (nest-on ((opened (pass-as c.in_ok-m.was c.begin_message.ensures))) ((only-first _ (((opened (pass-as c.in_ok-m.was c.begin_message.ensures))).stopped c.if-m-ge10.false).wanted)) c.if-m-ge10.false (one-reads c.args.s.now) (read-has _ (sym c.one_of.ensures ∙ c.in_ok-x.was)) _ (pass-as c.in_ok-z.was c.finish.ensures)) in whole-ends (answered_from c.args.s.now) N (nowhere N) (whole c) f

pub returns-in_err-m : goal.returns-in_err-m
unfolding answered_in
returns-in_err-m c = let s = c.args.s.now in let L = first (goal.at.returns-in_err-m c).After-begin_message c.in_err-m.was in
    c.from_residual.ensures ∙ sym (whole-refused answered_tags (answered_from s) s (frame-none (answered_from s) L refl))

pub returns-in_err-z : goal.returns-in_err-z
unfolding answered_in
returns-in_err-z c = let s = c.args.s.now in let N = second (goal.at.returns-in_err-z c).After-finish c.in_err-z.was in
    c.from_residual-in_err-z.ensures ∙ sym (whole-short (answered_from s) N (nowhere N) (whole-bad _ _ refl))

pub returns-then-m-ge10 : goal.returns-then-m-ge10
unfolding answered_in
returns-then-m-ge10 c = let s = c.args.s.now in let L = first (goal.at.returns-then-m-ge10 c).After-begin_message c.in_ok-m.was in let o = c.if-m-ge10.true in
    sym ((whole-lacks (answered_from s) L o (λ g. answered-lacks s _ (required-none _ _ (L.passed g 0 refl (λ z. omega arith))))))

pub returns-in_err-x : goal.returns-in_err-x
unfolding answered_in
returns-in_err-x c = let s = c.args.s.now in
    c.from_residual-in_err-x.ensures ∙ sym ((whole-refused answered_tags (answered_from s) s (nest-refused (first (goal.at.returns-in_err-x c).After-begin_message c.in_ok-m.was) (at-statuses (goal.at.returns-in_err-x c).Else-m-ge10) c.if-m-ge10.false (one-reads s) (answered_from s) (read-lacks _ (sym c.one_of.ensures ∙ c.in_err-x.was)) (λ xs n k. answered-lacks s xs k))))

pub returns-then-not-is_whole : goal.returns-then-not-is_whole
unfolding answered_in
returns-then-not-is_whole c = let s = c.args.s.now in let z = c.finish in let N = second (goal.at.returns-then-not-is_whole c).After-finish c.in_ok-z.was in
    sym ((whole-short (answered_from s) N (nowhere N) (sym (c.is_whole.ensures z.new.at z.new.codes) ∙ c.if-not-is_whole.true)))

pub returns-then-revision-ge-ABSENT : goal.returns-then-revision-ge-ABSENT
returns-then-revision-ge-ABSENT c = let s = c.args.s.now in let xs = c.finish.new.at in
    sym ((ends (goal.at.returns-then-revision-ge-ABSENT c).Else-not-is_whole (answered-no s xs (found (goal.at.returns-then-revision-ge-ABSENT c).Else-not-is_whole) (number-coded s _ xs (second (goal.at.returns-then-revision-ge-ABSENT c).After-finish c.in_ok-z.was).coded 9 255 false (omega arith) c.number_by-revision.ensures) c.if-revision-ge-ABSENT.true)))

pub returns : goal.returns
returns c = let s = c.args.s.now in let xs = c.finish.new.at in
    sym ((ends (goal.at.returns c).Else-not-is_whole (answered-has s xs (found (goal.at.returns c).Else-not-is_whole) (number-coded s _ xs (second (goal.at.returns c).After-finish c.in_ok-z.was).coded 9 255 false (omega arith) c.number_by-revision.ensures) c.if-revision-ge-ABSENT.false)))
