use Rattle.std.specs.Prelude.{Option}
use mathlib.Core.Path.{◌≡◌, sym, ap, ◌∙◌}
use lib.ListN.{length}
use Rattle.im_members.specs.declared.Stop.{Stop}
use Rattle.im_members.specs.Pass.{pass_with}
use Rattle.im_requests.specs.declared.ReadCounts.{ReadCounts}
use Rattle.im_requests.specs.Read.{read_in, read_left, read_kept, read_by}
use Rattle.im_requests.proofs.ReadPass.{read-passed, read-lost}
use Rattle.im_requests.proofs.read_lists.Goals as goal
use Rattle.im_requests.proofs.read_lists.Goals.{After-pass_paths-third}

-- the request that the pass makes
passed : (c : After-pass_paths-third) {r : Option Stop} → c.pass_paths-third.result.stop ≡ r → let z = c.pass_paths-third in read_by (length c.args.s.now) (pass_with r z.new.at z.new.codes) (record { count = z.result.count; words = z.new.kept }) (record { count = c.pass_version_filters-second.result.count; words = c.pass_version_filters-second.new.kept }) ≡ read_kept c.args.paths.now c.args.filters.now (read_in c.args.s.now)
passed c w = let a = c.args in let z = c.pass_paths-third in
    ap (λ (x : Option Stop). read_by (length a.s.now) (pass_with x z.new.at z.new.codes) (record { count = z.result.count; words = z.new.kept }) (record { count = c.pass_version_filters-second.result.count; words = c.pass_version_filters-second.new.kept })) (sym w)
    ∙ read-passed a.paths.now a.filters.now a.s.now c.begin_message-m.ensures c.pass_paths-first.ensures c.pass_version_filters-second.ensures z.ensures

pub returns-in_err-end : goal.returns-in_err-end
returns-in_err-end c = let z = c.pass_paths-third in let f = c.pass_version_filters-second in
    ap (λ (x : Option ReadCounts). read_left x z.new.kept f.new.kept) c.from_residual.ensures
    ∙ sym (read-lost (length c.args.s.now) z.new.at z.new.codes _ _)
    ∙ passed (goal.at.returns-in_err-end c).After-pass_paths-third c.in_err-end.was

pub returns-then-not-is_read : goal.returns-then-not-is_read
unfolding read_by
returns-then-not-is_read c = sym (simp (sym (c.is_read.ensures c.pass_paths-third.new.at) ∙ c.if-not-is_read.true)) ∙ passed (goal.at.returns-then-not-is_read c).After-pass_paths-third c.in_ok-end.was

pub returns : goal.returns
unfolding read_by
returns c = sym (simp (sym (c.is_read.ensures c.pass_paths-third.new.at) ∙ c.if-not-is_read.false)) ∙ passed (goal.at.returns c).After-pass_paths-third c.in_ok-end.was
