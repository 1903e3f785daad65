-- A block offered to a buffer, by whether there is room for it.
use Rattle.std.specs.Prelude.{Some, Option}
use mathlib.Core.Path.{◌≡◌, refl, sym, subst}
use mathlib.Core.Bool.{true}
use mathlib.Core.List.{List}
use Prim.Native.Nat.{ℕ, ◌+◌, ◌-◌, ◌<◌, ◌≤◌}
use native.Mathlib.Omega.{arith}
use borrow.Author.Tests.{leb-true, leb-false, le-leb}
use lib.Dec.{leb}
use lib.ListN.{length}
use Rattle.base_octets.specs.Store.{Stored}
use Rattle.im_writer.specs.Spelling.{spelling}
use Rattle.im_writer.specs.Block.{Block, block_tree}
use Rattle.im_writer.proofs.LengthLaws.{length-data-block, length-status-block}
use Rattle.node_schema.proofs.BoolLaws.{by-test, same}
use Rattle.server_report.specs.Offer.{Offered, OfferedIf}

-- there is room for what is no longer than that
pub within-room : (k m room : ℕ) → k ≤ m → leb m room ≡ true → true ≡ leb k room
within-room k m room l h = sym (le-leb k room (omega (arith, leb-true m room h)))

-- a part of the room left free, or the part added
pub beside : (k n room : ℕ) → k ≤ room → leb n (room - k) ≡ leb (k + n) room
beside k n room l =
    same (leb n (room - k)) (leb (k + n) room) (λ h. le-leb (k + n) room (omega (arith, leb-true n (room - k) h)))
    (λ h. le-leb n (room - k) (omega (arith, leb-true (k + n) room h)))

-- there is none
pub offered-full : {old : List ℕ} {start room : ℕ} {b : Block} → room < length (spelling (block_tree b)) → Offered old start room b old start
offered-full h = record { fits = λ l. absurd (omega arith); full = λ l. record { content = refl; place = refl } }

-- there is
pub offered-fits : {old new : List ℕ} {start room : ℕ} {b : Block} {r : ℕ} → length (spelling (block_tree b)) ≤ room → Stored old start (spelling (block_tree b)) new r → Offered old start room b new r
offered-fits h s = record { fits = λ l. s; full = λ l. absurd (omega arith) }

pub offered-as : {old new : List ℕ} {start room : ℕ} {a b : Block} {r : ℕ} → a ≡ b → Offered old start room a new r → Offered old start room b new r
offered-as {old} {new} {start} {room} {a} {b} {r} e x = subst (λ (y : Block). Offered old start room y new r) e x

-- every block has some octets
pub some-octets : (b : Block) → 0 < length (spelling (block_tree b))
unfolding block_tree
some-octets (Block.value version e c a d) = omega (arith, length-data-block e c a version d)
some-octets (Block.status e c a code) = omega (arith, length-status-block e c a code)

module _ {old new : List ℕ} {start room : ℕ} {b : Block} {r : ℕ} (x : Offered old start room b new r) where
  -- so the place after it tells whether it was stored
  pub offered-none : r ≡ start → (room < length (spelling (block_tree b))) × (new ≡ old)
  offered-none e =
      by-test (leb (length (spelling (block_tree b))) room) (λ t. absurd (omega (arith, e, some-octets b, (x.fits (leb-true _ _ t)).place)))
      (λ t. let h : room < length (spelling (block_tree b)) = leb-false _ _ t in (h, (x.full h).content))

  pub offered-some : (r ≡ start → ⊥) → (length (spelling (block_tree b)) ≤ room) × Stored old start (spelling (block_tree b)) new r
  offered-some n =
      by-test (leb (length (spelling (block_tree b))) room) (λ t. let h : length (spelling (block_tree b)) ≤ room = leb-true _ _ t in (h, x.fits h))
      (λ t. absurd (n (x.full (leb-false _ _ t)).place))

  -- it ends not before its start, and within its room
  pub offered-within : (start ≤ r) × (r ≤ start + room)
  offered-within =
      by-test (leb (length (spelling (block_tree b))) room) (λ t. let h : length (spelling (block_tree b)) ≤ room = leb-true _ _ t in (omega (arith, (x.fits h).place), omega (arith, (x.fits h).place)))
      (λ t. let p = (x.full (leb-false _ _ t)).place in (omega (arith, p), omega (arith, p)))

pub offered-just : (old : List ℕ) (start room : ℕ) (o : Option Block) (b : Block) (new : List ℕ) (r : ℕ) → o ≡ Some b → OfferedIf old start room o new r → Offered old start room b new r
unfolding OfferedIf
offered-just old start room o b new r e x = subst (λ (y : Option Block). OfferedIf old start room y new r) e x
