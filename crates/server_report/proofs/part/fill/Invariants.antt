use mathlib.Core.Path.{◌≡◌}
use mathlib.Core.List.{List}
use Prim.Native.Nat.{ℕ, ◌+◌}
use lib.ListN.{length}
use Rattle.server_report.specs.declared.Filled.{Filled}
use Rattle.server_selection.specs.Request.{asked_paths}
use Rattle.server_report.specs.Blocks.{blocks_from}
use Rattle.server_report.specs.Chunk.{block_room}
use Rattle.server_report.specs.Part.{Filling}
use Rattle.server_report.proofs.BlockLaws.{ahead}
use Rattle.server_report.proofs.FillLaws.{seen}
use Rattle.server_report.proofs.part.fill.Given as goal

abbrev pub invariant-loop-path : goal.invariant-loop-path
invariant-loop-path l =
    (l.end + l.room ≡ l.start + block_room)
    × ((length l.out ≡ length l.initial.out)
    × ((new : List ℕ) (r : Filled) → Filling l.out l.end l.room l.place (ahead (seen l.w l.words l.nulls l.texts l.versions l.defaults l.edits (record { level = l.level }) l.skips) (asked_paths l.row l.asked) l.path l.i) new r →
    Filling l.initial.out l.start block_room l.initial.place (blocks_from (seen l.w l.words l.nulls l.texts l.versions l.defaults l.edits (record { level = l.level }) l.skips) (asked_paths l.row l.asked) l.initial.place) new r))
