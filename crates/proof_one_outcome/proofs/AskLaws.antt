-- ONLY ONE ANSWER FITS where nothing is lent to be changed.
use mathlib.Core.Path.{◌≡◌, sym, ◌∙◌}
use mathlib.Core.List.{List, []}
use Prim.Native.Nat.{ℕ}
use Rattle.cache_ask.specs.declared.Whole.{Whole}
use Rattle.cache_ask.specs.declared.EntryHeld.{EntryHeld}
use Rattle.cache_ask.specs.declared.Ended.{Ended}
use Rattle.cache_ask.specs.declared.Abandoned.{Abandoned}
use Rattle.proof_one_outcome.specs.CacheCalls.{Columns, WholeMeets, EntryMeets, TextMeets, EndedMeets, UnknownMeets}

-- A contract that is one equation for what is answered, or for the one thing that is lent: `server::server_ok`; `cache_state::is_open_lem`, `cache_ok`, `refuse`,
-- `words::read_standing`, `words_ok`, `put_standing` and `keep`. It covers those below as well.
pub one_answer : {A : Type 0} {x r s : A} → r ≡ x → s ≡ x → r ≡ s
one_answer h k = h ∙ sym k

module _ (page : List ℕ) (columns : Columns) (asked : List ℕ) where
  -- IS A CLUSTER WHOLE
  pub one-whole : (endpoint cluster : ℕ) (r s : Whole) → WholeMeets page columns asked endpoint cluster r → WholeMeets page columns asked endpoint cluster s → r ≡ s
  one-whole endpoint cluster r s h k = one_answer (h []).answer (k []).answer

  -- AN ENTRY
  pub one_entry : (endpoint cluster attribute : ℕ) (r s : EntryHeld) → EntryMeets page columns asked endpoint cluster attribute r → EntryMeets page columns asked endpoint cluster attribute s → r ≡ s
  one_entry endpoint cluster attribute r s h k = one_answer (h []).answer (k []).answer

  -- ITS TEXT
  pub one-text : (endpoint cluster attribute : ℕ) (r s : List ℕ) → TextMeets page columns asked endpoint cluster attribute r → TextMeets page columns asked endpoint cluster attribute s → r ≡ s
  one-text endpoint cluster attribute r s h k = one_answer (h []) (k [])

  -- HOW THE NEWEST REQUEST STANDS
  pub one_ended : (r s : Ended) → EndedMeets page columns asked r → EndedMeets page columns asked s → r ≡ s
  one_ended r s h k = one_answer (h []).answer (k []).answer

  -- THE NEWEST ABANDONED WRITE
  pub one-unknown : (r s : Abandoned) → UnknownMeets page columns asked r → UnknownMeets page columns asked s → r ≡ s
  one-unknown r s h k = one_answer (h []).answer (k []).answer
