use Prim.Native.Nat.{◌≤◌, ◌+◌, ◌*◌}
use lib.ListN.{take}
use Rattle.base_octets.specs.Store.{Stored}
use Rattle.im_writer.specs.Spelling.{joined}
use Rattle.server_writes.specs.Entry.{entries_in}
use Rattle.server_writes.specs.Response.{answer_trees}
use Rattle.server_writes.proofs.response.put_statuses.Given as goal

abbrev pub invariant-loop-i : goal.invariant-loop-i
invariant-loop-i l = (l.at ≤ l.start + l.i * 27) × Stored l.initial.out l.start (joined (answer_trees (take l.i (entries_in l.entries l.n)) (take l.i l.codes))) l.out l.at
