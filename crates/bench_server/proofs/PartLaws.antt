-- A read that goes on from the start of a place does so after each part.
use mathlib.Core.Path.{◌≡◌, refl, sym, subst, ◌∙◌}
use mathlib.Core.List.{List}
use Prim.Native.Nat.{ℕ, ◌+◌}
use native.Mathlib.Omega.{arith}
use lib.ListN.{length}
use Rattle.server_selection.specs.declared.asked.Asked.{Asked}
use Rattle.server_report.specs.declared.ReadPlace.{ReadPlace}
use Rattle.server_report.specs.declared.Filled.{Filled}
use Rattle.server_report.specs.Blocks.{View, start_of, blocks_from}
use Rattle.server_report.specs.Chunk.{block_room}
use Rattle.server_report.specs.Part.{Made}
use Rattle.server_report.proofs.PlaceLaws.{part-place}

abbrev Starts : ReadPlace → Type 0
Starts q = start_of q.path q.index ≡ q

pub made-start : {old new : List ℕ} {start k i : ℕ} (s : View) (ps : List Asked) {f : Filled} → Made old start (start_of k i) (blocks_from s ps (start_of k i)) new f →
    Made old start (start_of k i) (blocks_from s ps (start_of k i)) new (record { end = f.end; place = start_of f.place.path f.place.index; more = f.more })
made-start {k = k} {i = i} s ps {f} m =
    let q = part-place Starts (length ps + k) (λ n j p r. refl) s ps (start_of k i) block_room (omega arith) (omega arith) refl in
    record { stored = m.stored; place = subst Starts (sym m.place) q ∙ m.place; more = m.more }
