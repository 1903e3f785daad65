-- A number that must be there.
use mathlib.Core.Path.{◌≡◌}
use mathlib.Core.Bool.{true, false}
use Prim.Native.Nat.{ℕ, ◌<◌, ◌≤◌}
use borrow.Author.Tests.{lt-ltb, le-ltb}
use Rattle.im_requests.specs.Message.{given}

pub given-no : (n : ℕ) → 4294967296 ≤ n → given n ≡ false
given-no n l = le-ltb n 4294967296 l

pub given_yes : (n : ℕ) → n < 4294967296 → given n ≡ true
given_yes n l = lt-ltb n 4294967296 l
