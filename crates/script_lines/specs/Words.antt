-- Where a word stands in a line, and how many bytes of a buffer were filled.
use Rattle.std.specs.Prelude.{◌≡◌, List, [], ◌∷◌, Bool, true, false, ◌&&◌, ◌||◌, ℕ, ◌+◌, ◌-◌, ◌≤◌, ltb, leb, eqb, length, take, drop}
use Rattle.script_lines.specs.Find.{index_of}
use Rattle.node_kinds.specs.Stored.{equal}
use Rattle.tlv_reader.specs.Octet.{pick}
use Rattle.script_lines.specs.declared.Scan.{Scan}
use Rattle.script_lines.specs.declared.Word.{Word}

-- at the first word of a line
abbrev pub at_first : Scan
at_first = record { at = 0; more = true; ok = true }

-- the same place, where something before it could not be read
abbrev pub failed_at : Scan → Scan
failed_at s = record { at = s.at; more = s.more; ok = false }

-- the whole line was read
abbrev pub is_done : Scan → Bool
is_done s = pick s.more false s.ok

-- a line to skip: an empty one, or one that starts with #
abbrev pub is_skipped : List ℕ → Bool
is_skipped [] = true
is_skipped (c ∷ cs) = eqb c 35

abbrev pub space : ℕ
space = 32

-- where a word ends that starts at a place: at the next space, or where the line ends
unfoldable pub word_end : List ℕ → ℕ → ℕ
word_end line at = at + index_of space (drop at line)

-- behind a word that ends at a place: a space, and then another word; or nothing more
abbrev pub behind : List ℕ → Scan → ℕ → Scan
behind line s end = pick (ltb end (length line)) (record { at = end + 1; more = true; ok = s.ok }) (record { at = end; more = false; ok = s.ok })

-- the empty word where none is left: it could not be read
abbrev pub no_word : ℕ → Word
no_word at = record { start = 0; end = 0; next = record { at = at; more = false; ok = false } }

abbrev pub word_to : List ℕ → Scan → ℕ → Word
word_to line s end = record { start = s.at; end = end; next = behind line s end }

-- the next word; two spaces side by side have an empty word between them
unfoldable pub next_word : List ℕ → Scan → Word
next_word line s = pick (s.more && leb s.at (length line)) (word_to line s (word_end line s.at)) (no_word s.at)

-- the bytes of a word
abbrev pub word_bytes : List ℕ → Word → List ℕ
word_bytes line w = take (w.end - w.start) (drop w.start line)

-- whether a word is one of these
abbrev pub is_one_of : List ℕ → List (List ℕ) → Bool
is_one_of w [] = false
is_one_of w (x ∷ xs) = equal w x || is_one_of w xs

-- the word lies within the first n bytes
pub record WordWithin (w : Word) (n : ℕ) : Type 0 where
  pub starts : w.start ≤ w.end
  pub ends : w.end ≤ n

-- n bytes at the start of xs. The second part follows from the first; both are said, so that who lends that part of an array finds them
abbrev pub Filled : ℕ → List ℕ → Type 0
Filled n xs = (n ≤ length xs) × (n ≡ length (take n xs))
