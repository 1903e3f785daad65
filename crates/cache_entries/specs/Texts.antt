-- The places of texts: a text has a place of its own in the page, given when an entry becomes a text, free again when it becomes something else.
use Rattle.std.specs.Prelude.{Bool, true, false, not, ◌&&◌, ◌||◌, List, ◌≡◌, ℕ, zero, suc, ◌<◌, eqb, ltb, length, get_or, Some, None, Option}
use Rattle.tlv_reader.specs.Octet.{pick}
use Rattle.node_schema.specs.Search.{first}
use Rattle.cache_entries.specs.declared.Cached.{Cached}
use Rattle.cache_entries.specs.Limits.{text_places, text_kind}

abbrev pub is_text : List ℕ → ℕ → Bool
is_text kinds i = eqb (get_or kinds i 0) text_kind

-- one of the first n entries is the text at place p
unfoldable pub place_used : List ℕ → List ℕ → ℕ → ℕ → Bool
place_used kinds words zero p = false
place_used kinds words (suc n) p = (is_text kinds n && eqb (get_or words n 0) p) || place_used kinds words n p

-- the first place that no text of the first n entries has
unfoldable pub free_place : List ℕ → List ℕ → ℕ → Option ℕ
free_place kinds words n = first (λ p. not (place_used kinds words n p)) text_places 0

abbrev pub or_first : Option ℕ → ℕ
or_first (Some p) = p
or_first None = 0

-- where the text of entry i goes: its own place if it is a text, else one that is free; there are as many as entries
unfoldable pub place_given : List ℕ → List ℕ → ℕ → ℕ → ℕ
place_given kinds words n i = pick (ltb i n && is_text kinds i) (get_or words i 0) (or_first (free_place kinds words n))

abbrev pub text_place : Cached → ℕ → ℕ
text_place c i = place_given c.kinds c.words c.count i

-- ---- AS THE CODE HAS IT

-- marks for the places: 0 exactly where none of the first n entries has its text
pub record Marked (kinds words : List ℕ) (n : ℕ) (marks : List ℕ) : Type 0 where
  pub size : length marks ≡ text_places
  pub each : (p : ℕ) → p < text_places → eqb (get_or marks p 0) 0 ≡ not (place_used kinds words n p)

-- place p is there, and no text but entry i has it
pub record Own (kinds words : List ℕ) (n i p : ℕ) : Type 0 where
  pub below : p < text_places
  pub apart : (j : ℕ) → j < n → (j ≡ i → ⊥) → is_text kinds j ≡ true → get_or words j 0 ≡ p → ⊥
