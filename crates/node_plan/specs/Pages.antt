-- The two pages of texts, and which of them shows a text (RULES 2.19 to 2.21).
use Rattle.std.specs.Prelude.{◌≡◌, Bool, true, cond, List, ◌++◌, ℕ, ◌*◌, ◌-◌, ◌<◌, eqb, length, take, drop, replicate}
use Rattle.base_utf8.specs.WellFormed.{well_formed}
use Rattle.node_schema.specs.Layout.{text_size}

-- where the text of a rank starts in the page of edits: 200 bytes for each text before it
abbrev pub place : ℕ → ℕ
place rank = text_size * rank

-- what stands in the place of a stored text: its bytes, and zeros behind them
abbrev pub padded : List ℕ → List ℕ
padded text = text ++ replicate (text_size - length text) 0

-- a text's mark: 0 never changed, n + 1 changed, and n bytes long
abbrev pub unchanged : ℕ → Bool
unchanged mark = eqb mark 0

-- the length that a text is shown with, where its factory text has len bytes
abbrev pub shown_length : ℕ → ℕ → ℕ
shown_length len mark = cond (unchanged mark) len (mark - 1)

-- the shown text: the factory text, of len bytes at start of the page of defaults, or the first bytes of its place in the page of edits
unfoldable pub shown_text : List ℕ → List ℕ → ℕ → ℕ → ℕ → ℕ → List ℕ
shown_text defaults edits start len rank mark = cond (unchanged mark) (take len (drop start defaults)) (take (mark - 1) (drop (place rank) edits))

-- what stands in the place of a rank
abbrev pub placed : List ℕ → ℕ → List ℕ
placed edits r = take text_size (drop (place r) edits)

-- the first n places hold valid UTF-8
abbrev pub PlacesFormed : List ℕ → ℕ → Type 0
PlacesFormed edits n = (r : ℕ) → r < n → well_formed (placed edits r) ≡ true
