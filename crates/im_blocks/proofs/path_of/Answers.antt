use Rattle.std.specs.Prelude.{Option}
use mathlib.Core.Path.{◌≡◌, refl, sym, ap, ◌∙◌}
use native.Mathlib.Omega.{arith}
use Rattle.tlv_reader.specs.Decode.{place}
use Rattle.im_members.proofs.PassLaws.{begun, pass-as, number-coded, flag-coded, wide-coded, frame-none, frame-end, nowhere}
use Rattle.im_blocks.specs.declared.Path.{Path}
use Rattle.im_blocks.specs.Path.{path_on, path_from, checked, sound_path}
use Rattle.im_blocks.proofs.CodeLaws.{checked-no, checked-yes, path-gathered}
use Rattle.im_blocks.proofs.path_of.Goals as goal
use Rattle.im_blocks.proofs.path_of.Goals.{After-number_by-4}
use Rattle.tlv_reader.specs.Walk.{read_of}

-- what was gathered
abbrev gathered : After-number_by-4 → Path
gathered c = record { compress = c.flag_by.result; node = c.wide_by.result; endpoint = c.number_by.result; cluster = c.number_by-2.result; attribute = c.number_by-3.result; index = c.number_by-4.result }

read : (c : After-number_by-4) {o : Option Path} → checked sound_path (gathered c) ≡ o → path_on c.args.left c.args.s.now c.args.e ≡ place o c.in_ok-m.m.head.next.at
unfolding path_on
read c q = let s = c.args.s.now in let L = begun c.args.left c.args.e (pass-as c.in_ok-m.was c.begin.ensures) in let k = L.coded in let xs = c.begin.new.at in
    frame-end (path_from s) L refl (nowhere L) (path-gathered s xs (gathered c) (flag-coded s _ xs k 0 c.flag_by.ensures) (wide-coded s _ xs k 1 c.wide_by.ensures) (number-coded s _ xs k 2 _ _ (omega arith) c.number_by.ensures) (number-coded s _ xs k 3 _ _ (omega arith) c.number_by-2.ensures) (number-coded s _ xs k 4 _ _ (omega arith) c.number_by-3.ensures) (number-coded s _ xs k 5 _ _ (omega arith) c.number_by-4.ensures) ∙ q)

pub returns-in_err-m : goal.returns-in_err-m
unfolding path_on
returns-in_err-m c = c.from_residual.ensures ∙ sym (ap read_of (frame-none (path_from c.args.s.now) (begun c.args.left c.args.e (pass-as c.in_err-m.was c.begin.ensures)) refl))

pub returns-then-not-sound_path : goal.returns-then-not-sound_path
returns-then-not-sound_path c = sym (ap read_of (read (goal.at.returns-then-not-sound_path c).After-number_by-4 (checked-no sound_path _ (sym c.sound_path.ensures ∙ c.if-not-sound_path.true))))

pub returns : goal.returns
returns c = sym (ap read_of (read (goal.at.returns c).After-number_by-4 (checked-yes sound_path _ (sym c.sound_path.ensures ∙ c.if-not-sound_path.false))))
