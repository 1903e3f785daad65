-- A cache that keeps the rules (refusal 2, RULES 6.1).
use Rattle.std.specs.Prelude.{◌≡◌, List, ℕ, length}
use Rattle.im_envelope.specs.Envelope.{max_message}
use Rattle.cache_report.specs.Entry.{Good}
use Rattle.cache_state.specs.declared.CacheState.{CacheState}
use Rattle.cache_state.specs.State.{RightAsked}
use Rattle.cache_state.specs.Reaction.{CacheReaction}

-- a cache that keeps the rules; its arrays have their lengths, as those of the code do
pub record ValidCache (page : List ℕ) (s : CacheState) : Type 0 where
  pub held : Good page s.held
  pub asked : RightAsked s.asked
  pub kept : length s.asked.kept ≡ max_message

-- what a call leaves keeps the rules
abbrev pub Holds : CacheReaction → Type 0
Holds r = ValidCache r.page r.state
