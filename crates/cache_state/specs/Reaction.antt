-- What a call of the cache answers and leaves.
use Rattle.std.specs.Prelude.{◌≡◌, List, [], ℕ, length}
use Rattle.base_octets.specs.Store.{store}
use Rattle.tlv_reader.specs.Octet.{pick}
use Rattle.cache_state.specs.declared.CacheState.{CacheState}
use Rattle.cache_state.specs.declared.Outcome.{Outcome}
use Rattle.cache_state.specs.Words.{words_right, put_state}

-- the number of RULES 6.1, the state, the page of texts, and the message to send, which may be none
pub record CacheReaction : Type 0 where
  pub number : ℕ
  pub state : CacheState
  pub page : List ℕ
  pub reply : List ℕ

-- a refusal leaves everything as it was
abbrev pub refusal : ℕ → CacheState → List ℕ → CacheReaction
refusal n s page = record { number = n; state = s; page = page; reply = [] }

-- memory whose words are no cache's is refused
abbrev pub of_cache : List ℕ → List ℕ → CacheState → CacheReaction → CacheReaction
of_cache words page s x = pick (words_right words) x (refusal 2 s page)

-- an answer that sends nothing and leaves the page as it was
pub record Silent : Type 0 where
  pub number : ℕ
  pub state : CacheState

abbrev pub begins-none : ℕ → CacheState → Silent
begins-none n s = record { number = n; state = s }

abbrev pub unsent : Silent → List ℕ → CacheReaction
unsent r page = record { number = r.number; state = r.state; page = page; reply = [] }

-- what is left in the cache's memory: the state that is read from it, and its words
pub record Leaves (x s : CacheState) (asked new_asked : List ℕ) : Type 0 where
  pub state : s ≡ x
  pub words : new_asked ≡ put_state asked x

-- as the code has it: what it answers, and what it leaves in all that was lent: the state that is read from it, its words, the page, the buffer
pub record CacheReacted (x : CacheReaction) (r : Outcome) (s : CacheState) (asked new_asked page old new : List ℕ) : Type 0 where
  pub number : r.number ≡ x.number
  pub len : r.len ≡ length x.reply
  pub state : s ≡ x.state
  pub words : new_asked ≡ put_state asked x.state
  pub texts : page ≡ x.page
  pub buffer : new ≡ store old 0 x.reply
