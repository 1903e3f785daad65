-- Bytes stored in a buffer.
use Rattle.std.specs.Prelude.{◌≡◌, List, [], ◌∷◌, ℕ, suc, ◌+◌, length, set}

-- a list with the bytes bs stored from at on
unfoldable pub store : List ℕ → ℕ → List ℕ → List ℕ
store l at [] = l
store l at (b ∷ bs) = store (set l at b) (suc at) bs

-- what a writer does: exactly these bytes from at on, the rest as it was; its answer is the place after them
pub record Stored (old : List ℕ) (at : ℕ) (bytes new : List ℕ) (next : ℕ) : Type 0 where
  pub content : new ≡ store old at bytes
  pub place : next ≡ at + length bytes
