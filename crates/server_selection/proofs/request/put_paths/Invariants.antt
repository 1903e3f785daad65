use mathlib.Core.Path.{◌≡◌}
use lib.ListN.{length, drop}
use Rattle.base_octets.specs.Store.{store}
use Rattle.server_selection.proofs.request.put_paths.Given as goal

abbrev pub invariant-loop-k : goal.invariant-loop-k
invariant-loop-k l = (length l.row ≡ length l.initial.row) × (store l.initial.row 0 l.paths ≡ store l.row l.k (drop l.k l.paths))
