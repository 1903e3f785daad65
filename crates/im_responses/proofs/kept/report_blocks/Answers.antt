use Rattle.std.specs.Prelude.{Some, Option}
use mathlib.Core.Path.{refl, sym, ap, ◌∙◌}
use mathlib.Core.List.{[]}
use native.Mathlib.Omega.{arith}
use lib.ListN.{length}
use Rattle.base_octets.specs.Store.{store}
use Rattle.im_members.specs.Pass.{Pass, pass_with}
use Rattle.im_members.proofs.ArrayLaws.{optional-none}
use Rattle.im_members.proofs.PassLaws.{pass-as, frame-none, nowhere, only-second, nest-no-option, nest-on, nest-option}
use Rattle.im_blocks.specs.Data.{report_at}
use Rattle.im_requests.specs.Message.{list_at, list_on, words_of, kept_as}
use Rattle.im_requests.proofs.PassLaws.{list-as, kept-bad, kept-good, opened, whole-refused}
use Rattle.im_responses.specs.declared.PartRead.{PartRead}
use Rattle.im_responses.specs.Report.{part_tags, part_from, part_in, part_by}
use Rattle.im_responses.specs.Kept.{block_size, max_blocks, block_words, part_left, part_kept}
use Rattle.im_responses.proofs.PassLaws.{blocks-reads, part-lacks, part_out}
use Rattle.im_responses.proofs.kept.report_blocks.Goals as goal

pub returns-in_err-m : goal.returns-in_err-m
unfolding part_in
returns-in_err-m c = let s = c.args.s.now in let old = c.args.kept.now in let L = opened (pass-as c.in_err-m.was c.begin_message.ensures) in
    ap (λ (r : Option PartRead). part_left r old) c.from_residual.ensures ∙ sym (ap (part_kept old) (whole-refused part_tags (part_from s) s (frame-none (part_from s) L refl)))

pub returns-then-m-ge10 : goal.returns-then-m-ge10
unfolding store words_of
returns-then-m-ge10 c = let s = c.args.s.now in let old = c.args.kept.now in let L = opened (pass-as c.in_ok-m.was c.begin_message.ensures) in let o = c.if-m-ge10.true in
    ap (λ (p : Option PartRead). part_left p old) (c.part_of.ensures c.begin_message.new.at)
    ∙ part_out L o [] (λ g. optional-none [] (list_at report_at 9 s) _ (L.passed g 1 refl (λ z. omega arith))) (λ p. part_left p old) (part_kept old) refl (λ more. refl)

pub returns-in_err-f : goal.returns-in_err-f
unfolding part_in
returns-in_err-f c = let s = c.args.s.now in let old = c.args.kept.now in let L = opened (pass-as c.in_ok-m.was c.begin_message.ensures) in let l = c.if-m-ge10.false in let is = only-second _ (L.stopped l).wanted in
    let b = kept-bad max_blocks block_size block_words old (list_on report_at 9 s c.in_ok-m.m.head) (list-as c.in_err-f.was c.list_of.ensures) refl in
    ap (λ (r : Option PartRead). part_left r c.list_of.new.kept) c.from_residual-in_err-f.ensures
    ∙ sym (ap (part_kept old) (whole-refused part_tags (part_from s) s (nest-no-option L is l (blocks-reads s) (part_from s) b [] (part-lacks s))))

pub returns-in_err-z : goal.returns-in_err-z
unfolding part_in
returns-in_err-z c = let s = c.args.s.now in let old = c.args.kept.now in let L = opened (pass-as c.in_ok-m.was c.begin_message.ensures) in let l = c.if-m-ge10.false in let is = only-second _ (L.stopped l).wanted in
    let k = kept-good max_blocks block_size block_words old (list_on report_at 9 s c.in_ok-m.m.head) (list-as c.in_ok-f.was c.list_of.ensures) refl in
    let N = nest-on L is l (blocks-reads s) k.1 _ (pass-as c.in_err-z.was c.finish.ensures) in
    ap (λ (r : Option PartRead). part_left r c.list_of.new.kept) c.from_residual-in_err-z.ensures
    ∙ sym (ap (part_kept old) (whole-refused part_tags (part_from s) s (frame-none (part_from s) N refl)))

pub returns : goal.returns
returns c = let s = c.args.s.now in let old = c.args.kept.now in let L = opened (pass-as c.in_ok-m.was c.begin_message.ensures) in let l = c.if-m-ge10.false in let is = only-second _ (L.stopped l).wanted in
    let k = kept-good max_blocks block_size block_words old (list_on report_at 9 s c.in_ok-m.m.head) (list-as c.in_ok-f.was c.list_of.ensures) refl in
    let xs = c.finish.new.at in let Z : Pass = pass_with (Some c.in_ok-z.z) xs c.finish.new.codes in
    let q = pass-as c.in_ok-z.was c.finish.ensures in
    let N = nest-on L is l (blocks-reads s) k.1 _ q in
    ap (λ (p : Option PartRead). part_left p c.list_of.new.kept) (c.part_of-2.ensures xs)
    ∙ (λ j. part_left (part_by (length s) Z (k.2 j).count) (k.2 j).words)
    ∙ part_out N (nowhere N) k.0
    (λ g. nest-option L is l (blocks-reads s) k.1 _ q [] g)
    (λ p. part_left p (kept_as max_blocks block_words old k.0).words) (part_kept old) refl (λ more. refl)
