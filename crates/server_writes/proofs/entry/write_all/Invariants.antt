use mathlib.Core.Path.{◌≡◌}
use Prim.Native.Nat.{◌*◌}
use lib.ListN.{length}
use Rattle.node_schema.specs.Layout.{text_size}
use Rattle.node_schema.specs.Check.{count_of_texts}
use Rattle.server_writes.specs.Offer.{held_of}
use Rattle.server_writes.specs.Entry.{entries_in}
use Rattle.server_writes.proofs.LoopLaws.{Writing}
use Rattle.server_writes.proofs.entry.write_all.Given as goal

abbrev pub invariant-loop-i : goal.invariant-loop-i
invariant-loop-i l =
    (length l.edits ≡ text_size * count_of_texts l.w) × Writing l.w l.g l.defaults l.s (held_of l.initial.words l.initial.nulls l.initial.texts l.initial.versions l.initial.edits) (entries_in l.entries l.n) (held_of l.words l.nulls l.texts l.versions l.edits) l.codes l.i
