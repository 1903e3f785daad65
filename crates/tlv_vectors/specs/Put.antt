-- Where writing again ends.
use Rattle.std.specs.Prelude.{ℕ, ◌≤◌, Some, None, Option}

-- the place after what was written is within a buffer's length
abbrev pub Within : ℕ → Option ℕ → Type 0
Within l (Some n) = n ≤ l
Within l None = Unit {0}
