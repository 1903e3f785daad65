use Rattle.std.specs.Prelude.{Some, Option}
use mathlib.Core.Path.{refl, sym, ap, ◌∙◌}
use Prim.Native.Nat.{ℕ}
use native.Mathlib.Omega.{arith}
use lib.ListN.{length}
use Rattle.base_bounds.specs.Bounds.{write_limit}
use Rattle.im_members.specs.Pass.{Pass, pass_with}
use Rattle.im_members.proofs.ArrayLaws.{required-none}
use Rattle.im_members.proofs.PassLaws.{pass-as, nowhere, only_third, nest-refused, nest-on, nest-found, frame-none}
use Rattle.im_requests.specs.Message.{list_at, list_on, Kept, kept_as}
use Rattle.im_requests.proofs.PassLaws.{list-as, kept-bad, kept-good, opened, whole-refused, whole-lacks}
use Rattle.im_requests.specs.declared.write.WriteCounts.{WriteCounts}
use Rattle.im_requests.specs.Write.{entry_at, entry_size, kept_words, write_tags, write_from, write_in, write_left, write_kept, write_by}
use Rattle.im_requests.proofs.WriteLaws.{entries-reads, write-lacks, write-passed}
use Rattle.im_requests.proofs.write.write_entries.Goals as goal

pub returns-in_err-m : goal.returns-in_err-m
unfolding write_in
returns-in_err-m c = let s = c.args.s.now in let old = c.args.entries.now in let L = opened (pass-as c.in_err-m.was c.begin_message.ensures) in
    ap (λ (r : Option WriteCounts). write_left r old) c.from_residual.ensures ∙ sym (ap (write_kept old) (whole-refused write_tags (write_from s) s (frame-none (write_from s) L refl)))

pub returns-then-m-ge10 : goal.returns-then-m-ge10
unfolding write_in
returns-then-m-ge10 c = let s = c.args.s.now in let old = c.args.entries.now in let L = opened (pass-as c.in_ok-m.was c.begin_message.ensures) in let o = c.if-m-ge10.true in
    sym (ap (write_kept old) (whole-lacks (write_from s) L o (λ g. write-lacks s _ (required-none (list_at entry_at 9 s) _ (L.passed g 2 refl (λ z. omega arith))))))

pub returns-in_err-f : goal.returns-in_err-f
unfolding write_in
returns-in_err-f c = let s = c.args.s.now in let old = c.args.entries.now in let L = opened (pass-as c.in_ok-m.was c.begin_message.ensures) in let l = c.if-m-ge10.false in let is = only_third _ (L.stopped l).wanted in
    let b = kept-bad write_limit entry_size kept_words old (list_on entry_at 9 s c.in_ok-m.m.head) (list-as c.in_err-f.was c.list_of.ensures) refl in
    ap (λ (r : Option WriteCounts). write_left r c.list_of.new.kept) c.from_residual-in_err-f.ensures
    ∙ sym (ap (write_kept old) (whole-refused write_tags (write_from s) s (nest-refused L is l (entries-reads s) (write_from s) b (λ xs n k. write-lacks s xs k))))

pub returns-in_err-z : goal.returns-in_err-z
unfolding write_in
returns-in_err-z c = let s = c.args.s.now in let old = c.args.entries.now in let L = opened (pass-as c.in_ok-m.was c.begin_message.ensures) in let l = c.if-m-ge10.false in let is = only_third _ (L.stopped l).wanted in
    let k = kept-good write_limit entry_size kept_words old (list_on entry_at 9 s c.in_ok-m.m.head) (list-as c.in_ok-f.was c.list_of.ensures) refl in
    let N = nest-on L is l (entries-reads s) k.1 _ (pass-as c.in_err-z.was c.finish.ensures) in
    ap (λ (r : Option WriteCounts). write_left r c.list_of.new.kept) c.from_residual-in_err-z.ensures
    ∙ sym (ap (write_kept old) (whole-refused write_tags (write_from s) s (frame-none (write_from s) N refl)))

pub returns : goal.returns
returns c = let s = c.args.s.now in let old = c.args.entries.now in let L = opened (pass-as c.in_ok-m.was c.begin_message.ensures) in let l = c.if-m-ge10.false in let is = only_third _ (L.stopped l).wanted in
    let k = kept-good write_limit entry_size kept_words old (list_on entry_at 9 s c.in_ok-m.m.head) (list-as c.in_ok-f.was c.list_of.ensures) refl in
    let xs = c.finish.new.at in let Z : Pass = pass_with (Some c.in_ok-z.z) xs c.finish.new.codes in
    let q = pass-as c.in_ok-z.was c.finish.ensures in
    let N = nest-on L is l (entries-reads s) k.1 _ q in
    (λ j. write_left (c.write_of.ensures xs j) (k.2 j).words)
    ∙ ap (λ (n : ℕ). write_left (write_by (length s) Z n) (kept_as write_limit kept_words old k.0).words) (ap (λ (y : Kept). y.count) k.2)
    ∙ write-passed old N (nowhere N) k.0 (λ h. nest-found L is l (entries-reads s) k.1 _ q h)
