-- Where a byte stands first.
use Rattle.std.specs.Prelude.{List, [], ◌∷◌, ℕ, suc, ◌-◌, eqb, take, drop}
use Rattle.tlv_reader.specs.Octet.{pick}

-- the place of the first b in a list; the list's length if it has none
unfoldable pub index_of : ℕ → List ℕ → ℕ
index_of b [] = 0
index_of b (x ∷ xs) = pick (eqb x b) 0 (suc (index_of b xs))

-- the bytes from a place to before another
unfoldable pub slice : ℕ → ℕ → List ℕ → List ℕ
slice at end l = take (end - at) (drop at l)
