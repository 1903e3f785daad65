-- What the next word is, from what the tests of a line found.
use mathlib.Core.Path.{◌≡◌, refl}
use mathlib.Core.List.{List, [], ◌∷◌}
use mathlib.Core.Bool.{true, false}
use Prim.Native.Nat.{ℕ, ◌+◌, ◌<◌, ◌≤◌}
use native.Mathlib.Omega.{arith}
use borrow.Author.Tests.{le-leb, lt-leb}
use lib.Dec.{eqb}
use lib.ListN.{length, get_or, length-drop}
use lib.Seq.{take-length}
use Rattle.script_lines.specs.Find.{index_of, slice}
use Rattle.script_lines.specs.declared.Scan.{Scan}
use Rattle.script_lines.specs.Words.{is_skipped, space, word_end, no_word, word_to, next_word, WordWithin}

pub skipped-empty : (l : List ℕ) → length l ≡ 0 → true ≡ is_skipped l
skipped-empty [] h = refl
skipped-empty (c ∷ l) h = absurd (omega arith)

pub skipped-mark : (l : List ℕ) → (length l ≡ 0 → ⊥) → eqb (get_or l 0 0) 35 ≡ is_skipped l
skipped-mark [] h = absurd (h refl)
skipped-mark (c ∷ l) h = refl

module _ (line : List ℕ) (s : Scan) where
  pub word_none : s.more ≡ false → next_word line s ≡ no_word s.at
  unfolding next_word
  word_none e = rw e

  pub word-past : s.more ≡ true → length line < s.at → next_word line s ≡ no_word s.at
  unfolding next_word
  word-past e h = rw (e, lt-leb s.at (length line) h)

  pub word-here : s.more ≡ true → s.at ≤ length line → next_word line s ≡ word_to line s (word_end line s.at)
  unfolding next_word
  word-here e h = rw (e, le-leb s.at (length line) h)

-- where a search for a space stops
pub end-found : (line : List ℕ) (at : ℕ) → at + index_of space (slice at (length line) line) ≡ word_end line at
unfolding word_end slice
end-found line at = rw (← length-drop at line, take-length)

pub none_within : (at n : ℕ) → WordWithin (no_word at) n
none_within at n = record { starts = omega arith; ends = omega arith }
