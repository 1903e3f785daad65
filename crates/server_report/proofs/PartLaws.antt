-- The frame around the blocks of a part.
use mathlib.Core.Path.{◌≡◌, refl, sym, ap, subst, ◌∙◌}
use mathlib.Core.Bool.{Bool, true, false}
use mathlib.Core.List.{List, [], ◌∷◌}
use Prim.Native.Nat.{ℕ, ◌+◌, ◌-◌, ◌≤◌}
use native.Mathlib.Omega.{arith}
use borrow.Author.Tests.{leb-true}
use lib.Dec.{leb}
use lib.ListN.{length, length-append}
use Rattle.base_octets.specs.Store.{store, Stored}
use Rattle.tlv_reader.specs.Octet.{pick}
use Rattle.im_writer.specs.Spelling.{spelling, joined}
use Rattle.im_writer.specs.Block.{block_tree}
use Rattle.im_writer.specs.Message.{message_tree, report_members, report_opening, report_closing}
use Rattle.im_writer.proofs.MessageLaws.{report-stored, empty-stored}
use Rattle.node_access.specs.declared.Grants.{Grants}
use Rattle.server_values.specs.declared.Values.{Values}
use Rattle.server_selection.specs.declared.asked.Asked.{Asked}
use Rattle.server_selection.specs.Filters.{skips_now}
use Rattle.server_report.specs.declared.ReadPlace.{ReadPlace}
use Rattle.server_report.specs.declared.Filled.{Filled}
use Rattle.server_report.specs.Blocks.{PlacedBlock, view_of, blocks_from}
use Rattle.server_report.specs.Chunk.{block_room, size, taken, left, any, trees}
use Rattle.server_report.specs.Part.{part_payload, Filling, Made}
use Rattle.server_report.proofs.OfferLaws.{some-octets}

-- the skips worked out beforehand
pub same_blocks : (w : List ℕ) (v : Values) (defaults edits : List ℕ) (g : Grants) (filters : List ℕ) (ps : List Asked) (from : ReadPlace) {skips : List Bool} → skips ≡ skips_now w filters v.versions →
    blocks_from (view_of w v defaults edits g filters) ps from ≡ blocks_from (record { schema = w; values = v; defaults = defaults; edits = edits; grants = g; skips = skips }) ps from
same_blocks w v defaults edits g filters ps from e =
    ap (λ (k : List Bool). blocks_from (record { schema = w; values = v; defaults = defaults; edits = edits; grants = g; skips = k }) ps from) (sym e)

-- what is taken has room
pub taken-within : (room : ℕ) (l : List PlacedBlock) → length (joined (trees (taken room l))) ≤ room
unfolding taken joined
taken-within room [] = omega arith
taken-within room (x ∷ l) = go (leb (size x) room) refl (taken-within (room - size x) l)
  where
    go : (b : Bool) → leb (size x) room ≡ b → length (joined (trees (taken (room - size x) l))) ≤ room - size x → length (joined (trees (pick b (x ∷ taken (room - size x) l) []))) ≤ room
    go true e h = omega (arith, leb-true (size x) room e, h, length-append (spelling (block_tree x.block)) (joined (trees (taken (room - size x) l))))
    go false e h = omega arith

no-octets : (t : List PlacedBlock) → length (joined (trees t)) ≡ 0 → t ≡ []
unfolding joined
no-octets [] h = refl
no-octets (x ∷ t) h = absurd (omega (arith, length-append (spelling (block_tree x.block)) (joined (trees t)), some-octets x.block))

pub end-within : {o new : List ℕ} {at room : ℕ} {from : ReadPlace} {l : List PlacedBlock} {f : Filled} → Filling o at room from l new f → f.end ≤ at + room
end-within {room = room} {l = l} g = omega (arith, g.stored.place, taken-within room l)

module _ {o o₁ o₂ o₃ : List ℕ} {at p e : ℕ} {from : ReadPlace} {l : List PlacedBlock} {f : Filled} (w : Stored o at report_opening o₁ p) (g : Filling o₁ p block_room from l o₂ f) where
  -- no block was taken: a report with none is written over the opening
  pub made_none : f.end ≡ p → Stored o₂ at (spelling (message_tree (report_members [] f.more))) o₃ e → Made o at from l o₃ (record { end = e; place = f.place; more = f.more })
  unfolding part_payload store joined
  made_none q v =
      let t : taken block_room l ≡ [] = no-octets (taken block_room l) (omega (arith, g.stored.place, q)) in
      let c : o₂ ≡ o₁ = g.stored.content ∙ rw t refl in
      let u : Stored o₁ at (spelling (message_tree (report_members [] f.more))) o₃ e = subst (λ (b : List ℕ). Stored b at (spelling (message_tree (report_members [] f.more))) o₃ e) c v in
      let m = g.more in
      record { stored = rw (t, ← m) (empty-stored f.more w u); place = g.place; more = m }

  -- some were
  pub made_some : (f.end ≡ p → ⊥) → Stored o₂ f.end (report_closing f.more) o₃ e → Made o at from l o₃ (record { end = e; place = f.place; more = f.more })
  unfolding part_payload joined
  made_some n v = record { stored = go (taken block_room l) refl; place = g.place; more = g.more }
    where
      go : (t : List PlacedBlock) → taken block_room l ≡ t → Stored o at (spelling (message_tree (report_members (trees (taken block_room l)) (any (left block_room l))))) o₃ e
      go [] q = absurd (n (g.stored.place ∙ rw q (omega arith)))
      go (x ∷ t) q =
          let m = g.more in
          let s : Stored o₁ p (joined (trees (x ∷ t))) o₂ f.end = subst (λ (y : List PlacedBlock). Stored o₁ p (joined (trees y)) o₂ f.end) q g.stored in
          rw (q, ← m) (report-stored (block_tree x.block) (trees t) f.more w s v)
