-- A search over indices, once for every column: the first k of n with p.
use Rattle.std.specs.Prelude.{ℕ, zero, suc, ◌+◌, Bool, true, false, Some, None, Option}

abbrev pub pick : Bool → Option ℕ → Option ℕ → Option ℕ
pick true x y = x
pick false x y = y

-- the first of the n from k on at which p holds
unfoldable pub first : (ℕ → Bool) → ℕ → ℕ → Option ℕ
first p zero k = None
first p (suc n) k = pick (p k) (Some k) (first p n (k + 1))

abbrev pub is_found : Option ℕ → Bool
is_found (Some i) = true
is_found None = false
