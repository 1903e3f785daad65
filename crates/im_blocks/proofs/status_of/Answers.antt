use Rattle.std.specs.Prelude.{Option}
use mathlib.Core.Path.{◌≡◌, refl, sym, ap, ◌∙◌}
use native.Mathlib.Omega.{arith}
use Rattle.tlv_reader.specs.Decode.{place}
use Rattle.im_members.proofs.PassLaws.{begun, pass-as, number-coded, frame-none, frame-end, nowhere}
use Rattle.im_blocks.specs.declared.Status.{Status}
use Rattle.im_blocks.specs.Path.{checked}
use Rattle.im_blocks.specs.Status.{status_on, status_from, sound_status}
use Rattle.im_blocks.proofs.CodeLaws.{checked-no, checked-yes, status-gathered}
use Rattle.im_blocks.proofs.status_of.Goals as goal
use Rattle.im_blocks.proofs.status_of.Goals.{After-number_by-2}
use Rattle.tlv_reader.specs.Walk.{read_of}

-- what was gathered
abbrev gathered : After-number_by-2 → Status
gathered c = record { code = c.number_by.result; cluster = c.number_by-2.result }

read : (c : After-number_by-2) {o : Option Status} → checked sound_status (gathered c) ≡ o → status_on c.args.left c.args.s.now c.args.e ≡ place o c.in_ok-m.m.head.next.at
unfolding status_on
read c q = let s = c.args.s.now in let L = begun c.args.left c.args.e (pass-as c.in_ok-m.was c.begin.ensures) in let k = L.coded in let xs = c.begin.new.at in
    frame-end (status_from s) L refl (nowhere L) (status-gathered s xs (gathered c) (number-coded s _ xs k 0 _ _ (omega arith) c.number_by.ensures) (number-coded s _ xs k 1 _ _ (omega arith) c.number_by-2.ensures) ∙ q)

pub returns-in_err-m : goal.returns-in_err-m
unfolding status_on
returns-in_err-m c = c.from_residual.ensures ∙ sym (ap read_of (frame-none (status_from c.args.s.now) (begun c.args.left c.args.e (pass-as c.in_err-m.was c.begin.ensures)) refl))

pub returns-then-not-sound_status : goal.returns-then-not-sound_status
returns-then-not-sound_status c = sym (ap read_of (read (goal.at.returns-then-not-sound_status c).After-number_by-2 (checked-no sound_status _ (sym c.sound_status.ensures ∙ c.if-not-sound_status.true))))

pub returns : goal.returns
returns c = sym (ap read_of (read (goal.at.returns c).After-number_by-2 (checked-yes sound_status _ (sym c.sound_status.ensures ∙ c.if-not-sound_status.false))))
