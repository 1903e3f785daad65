use Rattle.std.specs.Prelude.{Option}
use mathlib.Core.Path.{◌≡◌, refl, sym, ap, ◌∙◌}
use mathlib.Core.Bool.{true, false}
use mathlib.Core.List.{◌∷◌}
use Prim.Native.Nat.{◌-◌}
use native.Mathlib.Omega.{arith}
use native.Mathlib.Nat.{pos_of_ne-zero}
use lib.ListN.{replicate}
use Rattle.tlv_reader.specs.Octet.{structure}
use Rattle.im_members.specs.declared.Stop.{Stop}
use Rattle.im_members.specs.Pass.{pass_with, inside_on}
use Rattle.im_members.proofs.PassLaws.{Over, Finished, begun, pass-as, frame-deep, frame-none, frame-end, first-or-second, nest-refused, nest_last}
use Rattle.im_blocks.specs.Filter.{pair_tags}
use Rattle.im_blocks.specs.Status.{answer_at}
use Rattle.im_blocks.specs.Data.{data_at, report_on, report_read, report_from}
use Rattle.im_blocks.proofs.DataLaws.{data-lacks, data-has, data_found}
use Rattle.im_blocks.proofs.CodeLaws.{report-neither, report-data, report-both, report-status, report-no-answer, report-no-data}
use Rattle.im_blocks.proofs.OnLaws.{answer-reads, data_reads}
use Rattle.im_blocks.proofs.report_of.Goals as goal
use Rattle.im_blocks.proofs.report_of.Goals.{After-begin, After-finish, After-finish-2, Else-m-eq0}
use Rattle.tlv_reader.proofs.WalkLaws.{read-lacks, read-has}

-- the pass to the first of the two
first : (c : After-begin) {r : Option Stop} → c.begin.result ≡ r → let a = c.args in let s = a.s.now in Over structure a.left s pair_tags (true ∷ true ∷ replicate 8 false) a.e (pass_with r c.begin.new.at c.begin.new.codes)
first c w = begun c.args.left c.args.e (pass-as w c.begin.ensures)

at-data : (c : Else-m-eq0) → c.in_ok-m.m.slot ≡ 1
at-data c = first-or-second _ (((let a = c.args in begun a.left a.e (pass-as c.in_ok-m.was c.begin.ensures))).stopped c.if-m-ge10.false).wanted c.if-m-eq0.false

-- a status and the pass after it, or data and the pass after that
status-after : (c : After-finish) {r : Option Stop} → c.finish.result ≡ r → let a = c.args in let s = a.s.now in let d = a.left - 1 in Finished s (report_from d s) (inside_on structure a.left s pair_tags a.e) (answer_at d s) 0 c.in_ok-x.x (pass_with r c.finish.new.at c.finish.new.codes)
status-after c w = let a = c.args in let s = a.s.now in let d = a.left - 1 in
    nest_last ((let a = c.args in begun a.left a.e (pass-as c.in_ok-m.was c.begin.ensures))) c.if-m-eq0.true c.if-m-ge10.false (answer-reads d s) (report_from d s) (read-has _ (sym c.answer_of.ensures ∙ c.in_ok-x.was)) (pass-as w c.finish.ensures)

data-after : (c : After-finish-2) {r : Option Stop} → c.finish-2.result ≡ r → let a = c.args in let s = a.s.now in let d = a.left - 1 in Finished s (report_from d s) (inside_on structure a.left s pair_tags a.e) (data_at d s) 1 (data_found c.in_ok-d.d) (pass_with r c.finish-2.new.at c.finish-2.new.codes)
data-after c w = let a = c.args in let s = a.s.now in let d = a.left - 1 in
    nest_last ((let a = c.args in begun a.left a.e (pass-as c.in_ok-m.was c.begin.ensures))) ((first-or-second _ (((let a = c.args in begun a.left a.e (pass-as c.in_ok-m.was c.begin.ensures))).stopped c.if-m-ge10.false).wanted c.if-m-eq0.false)) c.if-m-ge10.false (data_reads d s) (report_from d s) (data-has _ (sym c.data_of.ensures ∙ c.in_ok-d.was)) (pass-as w c.finish-2.ensures)

pub returns-then-left-eq0 : goal.returns-then-left-eq0
unfolding report_on
returns-then-left-eq0 c = let a = c.args in let s = a.s.now in let d = a.left - 1 in
    sym (ap report_read (frame-deep structure a.left s pair_tags (report_from d s) a.e c.if-left-eq0.true))

pub returns-in_err-m : goal.returns-in_err-m
unfolding report_on
returns-in_err-m c = let a = c.args in let s = a.s.now in let d = a.left - 1 in
    c.from_residual.ensures ∙ sym (ap report_read (frame-none (report_from d s) (first (goal.at.returns-in_err-m c).After-begin c.in_err-m.was) refl))

pub returns-then-m-ge10 : goal.returns-then-m-ge10
unfolding report_on
returns-then-m-ge10 c = let a = c.args in let s = a.s.now in let d = a.left - 1 in let L = first (goal.at.returns-then-m-ge10 c).After-begin c.in_ok-m.was in let o = c.if-m-ge10.true in
    sym (ap report_read (frame-end (report_from d s) L refl c.if-m-ge10.true (report-neither d s c.begin.new.at (L.passed refl 0 refl (λ z. omega arith)) (L.passed refl 1 refl (λ z. omega arith)))))

pub returns-in_err-x : goal.returns-in_err-x
unfolding report_on
returns-in_err-x c = let a = c.args in let s = a.s.now in let d = a.left - 1 in
    c.from_residual-in_err-x.ensures ∙ sym (ap report_read (nest-refused (first (goal.at.returns-in_err-x c).After-begin c.in_ok-m.was) c.if-m-eq0.true c.if-m-ge10.false (answer-reads d s) (report_from d s) (read-lacks _ (sym c.answer_of.ensures ∙ c.in_err-x.was)) (λ xs n k. report-no-answer d s xs n k)))

pub overflow_sub-left-then-m-eq0 : goal.overflow_sub-left-then-m-eq0
overflow_sub-left-then-m-eq0 c = omega (arith, pos_of_ne-zero c.if-left-eq0.false)

pub returns-in_err-z : goal.returns-in_err-z
unfolding report_on
returns-in_err-z c = c.from_residual-in_err-z.ensures ∙ sym (ap report_read ((status-after (goal.at.returns-in_err-z c).After-finish c.in_err-z.was).none refl))

pub returns-then-at-ne0 : goal.returns-then-at-ne0
unfolding report_on
returns-then-at-ne0 c = let a = c.args in let s = a.s.now in let d = a.left - 1 in let z = status-after (goal.at.returns-then-at-ne0 c).After-finish c.in_ok-z.was in let xs = c.finish.new.at in
    sym (ap report_read (z.ends refl (report-both d s xs (z.there refl) c.if-at-ne0.true)))

pub returns-then-m-eq0 : goal.returns-then-m-eq0
unfolding report_on
returns-then-m-eq0 c = let a = c.args in let s = a.s.now in let d = a.left - 1 in let z = status-after (goal.at.returns-then-m-eq0 c).After-finish c.in_ok-z.was in let xs = c.finish.new.at in
    sym (ap report_read (z.ends refl (report-status d s xs (z.there refl) c.if-at-ne0.false (z.found refl))))

pub returns-in_err-d : goal.returns-in_err-d
unfolding report_on
returns-in_err-d c = let a = c.args in let s = a.s.now in let d = a.left - 1 in
    c.from_residual-in_err-d.ensures ∙ sym (ap report_read (nest-refused (first (goal.at.returns-in_err-d c).After-begin c.in_ok-m.was) (at-data (goal.at.returns-in_err-d c).Else-m-eq0) c.if-m-ge10.false (data_reads d s) (report_from d s) (data-lacks _ (sym c.data_of.ensures ∙ c.in_err-d.was)) (λ xs n k. report-no-data d s xs n k)))

pub overflow_sub-left-3 : goal.overflow_sub-left-3
overflow_sub-left-3 c = omega (arith, pos_of_ne-zero c.if-left-eq0.false)

pub returns-in_err-z-2 : goal.returns-in_err-z-2
unfolding report_on
returns-in_err-z-2 c = c.from_residual-in_err-z-2.ensures ∙ sym (ap report_read ((data-after (goal.at.returns-in_err-z-2 c).After-finish-2 c.in_err-z-2.was).none refl))

pub returns-then-at-ne0-2 : goal.returns-then-at-ne0-2
unfolding report_on
returns-then-at-ne0-2 c = let a = c.args in let s = a.s.now in let d = a.left - 1 in let z = data-after (goal.at.returns-then-at-ne0-2 c).After-finish-2 c.in_ok-z-2.was in let xs = c.finish-2.new.at in
    sym (ap report_read (z.ends refl (report-both d s xs c.if-at-ne0-2.true (z.there refl))))

pub returns : goal.returns
unfolding report_on data_found
returns c = let a = c.args in let s = a.s.now in let d = a.left - 1 in let z = data-after (goal.at.returns c).After-finish-2 c.in_ok-z-2.was in let xs = c.finish-2.new.at in
    sym (ap report_read (z.ends refl (report-data d s xs c.if-at-ne0-2.false (z.there refl) (z.found refl))))
