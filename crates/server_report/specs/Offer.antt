-- One block offered to a buffer that has so much room for it: stored if it fits, else nothing is.
use Rattle.std.specs.Prelude.{◌≡◌, List, ℕ, ◌≤◌, ◌<◌, length, Some, None, Option}
use Rattle.base_octets.specs.Store.{Stored}
use Rattle.im_writer.specs.Spelling.{spelling}
use Rattle.im_writer.specs.Block.{Block, block_tree}

-- nothing was stored
pub record Unstored (old : List ℕ) (start : ℕ) (new : List ℕ) (r : ℕ) : Type 0 where
  pub content : new ≡ old
  pub place : r ≡ start

pub record Offered (old : List ℕ) (start room : ℕ) (b : Block) (new : List ℕ) (r : ℕ) : Type 0 where
  pub fits : length (spelling (block_tree b)) ≤ room → Stored old start (spelling (block_tree b)) new r
  pub full : room < length (spelling (block_tree b)) → Unstored old start new r

unfoldable pub OfferedIf : List ℕ → ℕ → ℕ → Option Block → List ℕ → ℕ → Type 0
OfferedIf old start room None new r = Unstored old start new r
OfferedIf old start room (Some b) new r = Offered old start room b new r
