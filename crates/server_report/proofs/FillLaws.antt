-- The turns of the loop that fills a part.
use mathlib.Core.Path.{◌≡◌, refl, sym, ap, subst, ◌∙◌}
use mathlib.Core.Bool.{Bool, true, false}
use mathlib.Core.List.{List, [], ◌∷◌, ◌++◌}
use Prim.Native.Nat.{ℕ, ◌+◌, ◌-◌, ◌≤◌, ◌<◌}
use native.Mathlib.Nat.{add-zero}
use native.Mathlib.Omega.{arith}
use borrow.Author.Tests.{le-leb, lt-leb}
use lib.Dec.{leb}
use Rattle.base_octets.specs.Store.{store, Stored}
use Rattle.base_octets.proofs.StoreLaws.{then}
use Rattle.im_writer.specs.Spelling.{spelling, joined}
use Rattle.im_writer.specs.Block.{block_tree}
use Rattle.node_access.specs.declared.Grants.{Grants}
use Rattle.server_values.specs.Values.{values_of}
use Rattle.server_selection.specs.declared.asked.Asked.{Asked}
use Rattle.server_selection.specs.declared.items.Item.{Item}
use Rattle.server_selection.specs.Items.{span, item_at}
use Rattle.server_report.specs.declared.ReadPlace.{ReadPlace}
use Rattle.server_report.specs.declared.Filled.{Filled}
use Rattle.server_report.specs.Blocks.{View, PlacedBlock, is_nothing, block_of, start_of, placed_at, path_blocks}
use Rattle.server_report.specs.Offer.{Offered, OfferedIf}
use Rattle.server_report.specs.Chunk.{size, any, sizes, taken, left, after, trees}
use Rattle.server_report.specs.Part.{Filling}
use Rattle.server_report.proofs.OfferLaws.{offered-just, offered-none, offered-some, offered-within}
use Rattle.server_report.proofs.BlockLaws.{some_block, places-block}
use Rattle.server_report.proofs.ChunkLaws.{sizes-joined, joined-both, after_both, taken-all, taken-both, taken-full}

-- the view, of what is lent
abbrev pub seen : List ℕ → List ℕ → List Bool → List ℕ → List ℕ → List ℕ → List ℕ → Grants → List Bool → View
seen w words nulls texts versions defaults edits g skips =
    record { schema = w; values = values_of words nulls texts versions; defaults = defaults; edits = edits; grants = g; skips = skips }

stored-none : (o : List ℕ) (at : ℕ) → Stored o at [] o at
unfolding store
stored-none o at = record { content = refl; place = sym (add-zero at) }

-- no block is left
pub fill-ends : (o : List ℕ) (at room : ℕ) (from : ReadPlace) (l : List PlacedBlock) → l ≡ [] → Filling o at room from l o (record { end = at; place = from; more = false })
unfolding taken left after joined
fill-ends o at room from l e = rw e (record { stored = stored-none o at; place = refl; more = refl })

module _ (x : PlacedBlock) (m : List PlacedBlock) where
  -- the next block does not fit
  pub fill_stops : (o : List ℕ) (at room : ℕ) (from : ReadPlace) (l : List PlacedBlock) → l ≡ x ∷ m → room < size x → Filling o at room from l o (record { end = at; place = from; more = true })
  unfolding taken left after joined
  fill_stops o at room from l e h =
      let t : leb (size x) room ≡ false = lt-leb (size x) room h in
      rw e (record { stored = rw t (stored-none o at); place = rw t; more = rw t })

  -- it does, and was stored
  pub fill-takes : {o o₁ new : List ℕ} {at at₁ room : ℕ} {from : ReadPlace} {r : Filled} (l : List PlacedBlock) → l ≡ x ∷ m → size x ≤ room → Stored o at (spelling (block_tree x.block)) o₁ at₁ →
      Filling o₁ at₁ (room - (at₁ - at)) x.next m new r → Filling o at room from l new r
  unfolding taken left after joined
  fill-takes {o} {o₁} {new} {at} {at₁} {room} {from} {r} l e h w f =
      let t : leb (size x) room ≡ true = le-leb (size x) room h in
      let q : room - (at₁ - at) ≡ room - size x = omega (arith, w.place) in
      let g : Filling o₁ at₁ (room - size x) x.next m new r = subst (λ (n : ℕ). Filling o₁ at₁ n x.next m new r) q f in
      rw e (record { stored = rw t (then w g.stored); place = rw t g.place; more = rw t g.more })

pub filling-of : {o new : List ℕ} {at room : ℕ} {from : ReadPlace} {l m : List PlacedBlock} {r : Filled} → l ≡ m → Filling o at room from m new r → Filling o at room from l new r
filling-of {o} {new} {at} {room} {from} {l} {m} {r} e f = subst (λ (y : List PlacedBlock). Filling o at room from y new r) (sym e) f

-- what offering the first of these blocks comes to: it was stored and the others follow, or the part ends
pub record Turn (old : List ℕ) (start room : ℕ) (l : List PlacedBlock) (next : ReadPlace) (rest : List PlacedBlock) (new : List ℕ) (r : ℕ) : Type 0 where
  pub low : start ≤ r
  pub high : r ≤ start + room
  pub stops : (at : ReadPlace) → r ≡ start → Filling old start room at l new (record { end = start; place = at; more = true })
  pub takes : (at : ReadPlace) (last : List ℕ) (f : Filled) → (r ≡ start → ⊥) → Filling new r (room - (r - start)) next rest last f → Filling old start room at l last f

turn-of : {old new : List ℕ} {start room r : ℕ} (l : List PlacedBlock) (x : PlacedBlock) (m : List PlacedBlock) → l ≡ x ∷ m → Offered old start room x.block new r → Turn old start room l x.next m new r
turn-of {old} {new} {start} {room} {r} l x m e y =
    record {
      low = (offered-within y).0;
      high = (offered-within y).1;
      stops = λ at q. let f = offered-none y q in rw f.1 (fill_stops x m old start room at l e f.0);
      takes = λ at last f q g. let s = offered-some y q in fill-takes x m l e s.0 s.1 g;
    }

-- at place i of path k, which is p
pub turn : (s : View) (k i : ℕ) (p : Asked) → i < span s.schema p →
    (x : Item) → x ≡ item_at s.schema s.grants s.skips p i → is_nothing x ≡ false →
    (old : List ℕ) (start room : ℕ) (new : List ℕ) (r : ℕ) → OfferedIf old start room (block_of s.schema s.values s.defaults s.edits p x) new r →
    Turn old start room (path_blocks s k p i) (start_of k (i + 1)) (path_blocks s k p (i + 1)) new r
turn s k i p h x e t old start room new r y =
    let b = some_block s p x t in
    turn-of (path_blocks s k p i) (placed_at k i b.block) (path_blocks s k p (i + 1)) (places-block s k p i h x e b.block b.there) (offered-just old start room _ b.block new r b.there y)

-- ---- blocks of which the first ones, l, were offered by themselves

module _ {o o₁ : List ℕ} {start room : ℕ} {at : ReadPlace} {l : List PlacedBlock} {f : Filled} (g : Filling o start room at l o₁ f) (m : List PlacedBlock) where
  -- one of them did not fit: nothing of what follows is taken
  pub fill-full : f.more ≡ true → Filling o start room at (l ++ m) o₁ f
  fill-full t =
      let (q, r) = taken-full room l m (sym g.more ∙ t) in
      record { stored = rw q g.stored; place = rw q g.place; more = t ∙ sym r }

  -- all did: then those that follow, in the room that is left
  pub fill-both : f.more ≡ false → {new : List ℕ} {r : Filled} → Filling o₁ f.end (room - (f.end - start)) f.place m new r → Filling o start room at (l ++ m) new r
  fill-both t {new} {r} h =
      let z : any (left room l) ≡ false = sym g.more ∙ t in
      let all = taken-all room l z in
      let (q, e) = taken-both room l m z in
      let n : f.end - start ≡ sizes l = omega (arith, g.stored.place, sizes-joined (taken room l), ap sizes all) in
      let k : Filling o₁ f.end (room - sizes l) f.place m new r = subst (λ (j : ℕ). Filling o₁ f.end (room - j) f.place m new r) n h in
      let w : Stored o start (joined (trees l)) o₁ f.end = subst (λ (t : List PlacedBlock). Stored o start (joined (trees t)) o₁ f.end) all g.stored in
      record {
        stored = rw (q, joined-both l (taken (room - sizes l) m)) (then w k.stored);
        place = k.place ∙ ap (λ (p : ReadPlace). after p (taken (room - sizes l) m)) (g.place ∙ ap (after at) all) ∙ sym (ap (after at) q ∙ after_both at l (taken (room - sizes l) m));
        more = k.more ∙ sym (ap any e);
      }
