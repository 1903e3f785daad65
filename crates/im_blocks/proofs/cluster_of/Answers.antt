use Rattle.std.specs.Prelude.{Option}
use mathlib.Core.Path.{◌≡◌, refl, sym, ap, ◌∙◌}
use native.Mathlib.Omega.{arith}
use Rattle.tlv_reader.specs.Decode.{place}
use Rattle.im_members.proofs.PassLaws.{begun, pass-as, number-coded, wide-coded, frame-none, frame-end, nowhere}
use Rattle.im_blocks.specs.declared.ClusterPath.{ClusterPath}
use Rattle.im_blocks.specs.Path.{checked}
use Rattle.im_blocks.specs.Filter.{cluster_on, cluster_from, sound_cluster}
use Rattle.im_blocks.proofs.CodeLaws.{checked-no, checked-yes, cluster-gathered}
use Rattle.im_blocks.proofs.cluster_of.Goals as goal
use Rattle.im_blocks.proofs.cluster_of.Goals.{After-number_by-2}
use Rattle.tlv_reader.specs.Walk.{read_of}

-- what was gathered
abbrev gathered : After-number_by-2 → ClusterPath
gathered c = record { node = c.wide_by.result; endpoint = c.number_by.result; cluster = c.number_by-2.result }

read : (c : After-number_by-2) {o : Option ClusterPath} → checked sound_cluster (gathered c) ≡ o → cluster_on c.args.left c.args.s.now c.args.e ≡ place o c.in_ok-m.m.head.next.at
unfolding cluster_on
read c q = let s = c.args.s.now in let L = begun c.args.left c.args.e (pass-as c.in_ok-m.was c.begin.ensures) in let k = L.coded in let xs = c.begin.new.at in
    frame-end (cluster_from s) L refl (nowhere L) (cluster-gathered s xs (gathered c) (wide-coded s _ xs k 0 c.wide_by.ensures) (number-coded s _ xs k 1 _ _ (omega arith) c.number_by.ensures) (number-coded s _ xs k 2 _ _ (omega arith) c.number_by-2.ensures) ∙ q)

pub returns-in_err-m : goal.returns-in_err-m
unfolding cluster_on
returns-in_err-m c = c.from_residual.ensures ∙ sym (ap read_of (frame-none (cluster_from c.args.s.now) (begun c.args.left c.args.e (pass-as c.in_err-m.was c.begin.ensures)) refl))

pub returns-then-not-sound_cluster : goal.returns-then-not-sound_cluster
returns-then-not-sound_cluster c = sym (ap read_of (read (goal.at.returns-then-not-sound_cluster c).After-number_by-2 (checked-no sound_cluster _ (sym c.sound_cluster.ensures ∙ c.if-not-sound_cluster.true))))

pub returns : goal.returns
returns c = sym (ap read_of (read (goal.at.returns c).After-number_by-2 (checked-yes sound_cluster _ (sym c.sound_cluster.ensures ∙ c.if-not-sound_cluster.false))))
