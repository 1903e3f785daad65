use Rattle.std.specs.Prelude.{Option}
use mathlib.Core.Path.{◌≡◌, refl, sym, ap, ◌∙◌}
use mathlib.Core.Bool.{true, false}
use mathlib.Core.List.{◌∷◌}
use Prim.Native.Nat.{◌-◌}
use native.Mathlib.Omega.{arith}
use native.Mathlib.Nat.{pos_of_ne-zero}
use lib.ListN.{get_or, replicate}
use Rattle.tlv_reader.specs.Octet.{structure}
use Rattle.im_members.specs.declared.Stop.{Stop}
use Rattle.im_members.specs.Pass.{pass_with, inside_on}
use Rattle.im_members.proofs.ArrayLaws.{required-none, required-some}
use Rattle.im_members.proofs.PassLaws.{Over, Finished, begun, pass-as, frame-deep, frame-none, frame-end, only-first, nest-refused, nest_last}
use Rattle.im_blocks.specs.Path.{path_at}
use Rattle.im_blocks.specs.Filter.{pair_tags}
use Rattle.im_blocks.specs.Status.{status_at, answer_on, answer_from}
use Rattle.im_blocks.proofs.OnLaws.{path-reads}
use Rattle.im_blocks.proofs.CodeLaws.{answer-lacks-path, answer-lacks-status, answer-has}
use Rattle.im_blocks.proofs.answer_of.Goals as goal
use Rattle.im_blocks.proofs.answer_of.Goals.{After-begin, After-finish, Else-m-ge10}
use Rattle.tlv_reader.specs.Walk.{read_of}
use Rattle.tlv_reader.proofs.WalkLaws.{read-lacks, read-has}

-- the pass to the path
first : (c : After-begin) {r : Option Stop} → c.begin.result ≡ r → let a = c.args in let s = a.s.now in Over structure a.left s pair_tags (true ∷ replicate 9 false) a.e (pass_with r c.begin.new.at c.begin.new.codes)
first c w = begun c.args.left c.args.e (pass-as w c.begin.ensures)

at_path : (c : Else-m-ge10) → c.in_ok-m.m.slot ≡ 0
at_path c = only-first _ (((let a = c.args in begun a.left a.e (pass-as c.in_ok-m.was c.begin.ensures))).stopped c.if-m-ge10.false).wanted

-- the path, and the pass after it
after : (c : After-finish) {r : Option Stop} → c.finish.result ≡ r → let a = c.args in let s = a.s.now in let d = a.left - 1 in Finished s (answer_from d s) (inside_on structure a.left s pair_tags a.e) (path_at d s) 0 c.in_ok-path.path (pass_with r c.finish.new.at c.finish.new.codes)
after c w = let a = c.args in let s = a.s.now in let d = a.left - 1 in
    nest_last ((let a = c.args in begun a.left a.e (pass-as c.in_ok-m.was c.begin.ensures))) ((only-first _ (((let a = c.args in begun a.left a.e (pass-as c.in_ok-m.was c.begin.ensures))).stopped c.if-m-ge10.false).wanted)) c.if-m-ge10.false (path-reads d s) (answer_from d s) (read-has _ (sym c.path_of.ensures ∙ c.in_ok-path.was)) (pass-as w c.finish.ensures)

pub returns-then-left-eq0 : goal.returns-then-left-eq0
unfolding answer_on
returns-then-left-eq0 c = let a = c.args in let s = a.s.now in let d = a.left - 1 in
    sym (ap read_of (frame-deep structure a.left s pair_tags (answer_from d s) a.e c.if-left-eq0.true))

pub returns-in_err-m : goal.returns-in_err-m
unfolding answer_on
returns-in_err-m c = let a = c.args in let s = a.s.now in let d = a.left - 1 in
    c.from_residual.ensures ∙ sym (ap read_of (frame-none (answer_from d s) (first (goal.at.returns-in_err-m c).After-begin c.in_err-m.was) refl))

pub returns-then-m-ge10 : goal.returns-then-m-ge10
unfolding answer_on
returns-then-m-ge10 c = let a = c.args in let s = a.s.now in let d = a.left - 1 in let L = first (goal.at.returns-then-m-ge10 c).After-begin c.in_ok-m.was in let xs = c.begin.new.at in
    sym (ap read_of (frame-end (answer_from d s) L refl c.if-m-ge10.true (answer-lacks-path d s xs (required-none (path_at d s) (get_or xs 0 0) (L.passed refl 0 refl (λ z. (let o = c.if-m-ge10.true in omega arith)))))))

pub returns-in_err-path : goal.returns-in_err-path
unfolding answer_on
returns-in_err-path c = let a = c.args in let s = a.s.now in let d = a.left - 1 in
    c.from_residual-in_err-path.ensures ∙ sym (ap read_of (nest-refused (first (goal.at.returns-in_err-path c).After-begin c.in_ok-m.was) (at_path (goal.at.returns-in_err-path c).Else-m-ge10) c.if-m-ge10.false (path-reads d s) (answer_from d s) (read-lacks _ (sym c.path_of.ensures ∙ c.in_err-path.was)) (λ xs n k. answer-lacks-path d s xs k)))

pub returns-in_err-z : goal.returns-in_err-z
unfolding answer_on
returns-in_err-z c = c.from_residual-in_err-z.ensures ∙ sym (ap read_of ((after (goal.at.returns-in_err-z c).After-finish c.in_err-z.was).none refl))

pub returns-then-q-eq0 : goal.returns-then-q-eq0
unfolding answer_on
returns-then-q-eq0 c = let a = c.args in let s = a.s.now in let d = a.left - 1 in let z = after (goal.at.returns-then-q-eq0 c).After-finish c.in_ok-z.was in let xs = c.finish.new.at in
    sym (ap read_of (z.ends refl (answer-lacks-status d s xs (required-none (status_at d s) (get_or xs 1 0) c.if-q-eq0.true))))

pub overflow_sub-left-3 : goal.overflow_sub-left-3
overflow_sub-left-3 c = omega (arith, pos_of_ne-zero c.if-left-eq0.false)

pub returns-in_err-status : goal.returns-in_err-status
unfolding answer_on
returns-in_err-status c = let a = c.args in let s = a.s.now in let d = a.left - 1 in let z = after (goal.at.returns-in_err-status c).After-finish c.in_ok-z.was in let xs = c.finish.new.at in
    c.from_residual-in_err-status.ensures ∙ sym (ap read_of (z.ends refl (answer-lacks-status d s xs (required-some (status_at d s) (get_or xs 1 0) c.if-q-eq0.false (read-lacks _ (sym c.status_at.ensures ∙ c.in_err-status.was))))))

pub returns : goal.returns
unfolding answer_on
returns c = let a = c.args in let s = a.s.now in let d = a.left - 1 in let z = after (goal.at.returns c).After-finish c.in_ok-z.was in let xs = c.finish.new.at in
    sym (ap read_of (z.ends refl (answer-has d s xs (z.found refl) (required-some (status_at d s) (get_or xs 1 0) c.if-q-eq0.false (read-has _ (sym c.status_at.ensures ∙ c.in_ok-status.was))))))
