use mathlib.Core.Path.{◌≡◌}
use lib.ListN.{length}
use Rattle.base_octets.specs.Store.{store}
use Rattle.server_selection.specs.Request.{filters_at}
use Rattle.server_selection.specs.Filters.{filter_words, version_filter_list}
use Rattle.server_selection.proofs.filters.put_filters.Given as goal

abbrev pub invariant-loop-i : goal.invariant-loop-i
invariant-loop-i l = (length l.row ≡ length l.initial.row) × (l.row ≡ store l.initial.row filters_at (filter_words l.w (version_filter_list l.filters l.i)))
