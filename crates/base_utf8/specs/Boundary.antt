-- Where a page may be cut: a part of a well-formed page is well-formed exactly if it begins and ends at boundaries (proofs/Cuts.antt).
use Rattle.std.specs.Prelude.{Bool, not, ◌&&◌, ◌||◌, List, ℕ, ◌+◌, eqb, get_or}
use Rattle.base_utf8.specs.Bytewise.{trails}

-- no sequence goes on at this place of a page: the byte there is no trailing one, or the page has ended
unfoldable pub boundary : List ℕ → ℕ → Bool
boundary page at = not (trails (get_or page at 0))

-- a part of len bytes from start on is cut at boundaries; an empty one may lie anywhere
unfoldable pub cut_well : List ℕ → ℕ → ℕ → Bool
unfolding boundary
cut_well page start len = eqb len 0 || (boundary page start && boundary page (start + len))
