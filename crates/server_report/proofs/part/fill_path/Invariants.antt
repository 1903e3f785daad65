use mathlib.Core.Path.{◌≡◌}
use mathlib.Core.List.{List}
use Prim.Native.Nat.{ℕ, ◌+◌}
use lib.ListN.{length}
use Rattle.server_report.specs.declared.Filled.{Filled}
use Rattle.server_report.specs.Blocks.{path_blocks}
use Rattle.server_report.specs.Part.{Filling}
use Rattle.server_report.proofs.FillLaws.{seen}
use Rattle.server_report.proofs.part.fill_path.Given as goal

abbrev pub invariant-loop-i : goal.invariant-loop-i
invariant-loop-i l =
    (l.end + l.left ≡ l.start + l.room)
    × ((length l.out ≡ length l.initial.out)
    × ((new : List ℕ) (r : Filled) → Filling l.out l.end l.left l.place (path_blocks (seen l.w l.words l.nulls l.texts l.versions l.defaults l.edits (record { level = l.level }) l.skips) l.path l.p l.i) new r →
    Filling l.initial.out l.start l.room l.initial.place (path_blocks (seen l.w l.words l.nulls l.texts l.versions l.defaults l.edits (record { level = l.level }) l.skips) l.path l.p l.first) new r))
