-- THE CACHE'S CONTRACTS, as relations of what stood in all that a call is lent to change, what it answers, and what stands there afterwards. Each is the
-- `ensures` of its function, word for word; a record of memory has a field for each `&mut` of it, by its name.
use Rattle.std.specs.Prelude.{◌≡◌, Bool, List, ℕ, length, replicate}
use Rattle.tlv_reader.specs.declared.Value.{Value}
use Rattle.cache_state.specs.declared.CacheState.{CacheState}
use Rattle.cache_state.specs.declared.Outcome.{Outcome}
use Rattle.cache_state.specs.Words.{asked_size, state_in}
use Rattle.cache_state.specs.Begin.{fresh, begins_read, begins_write, resends}
use Rattle.cache_state.specs.Reaction.{CacheReaction, of_cache, CacheReacted}
use Rattle.cache_receive.specs.Receive.{received}
use Rattle.cache_ask.specs.declared.Whole.{Whole}
use Rattle.cache_ask.specs.declared.EntryHeld.{EntryHeld}
use Rattle.cache_ask.specs.declared.Ended.{Ended}
use Rattle.cache_ask.specs.declared.Abandoned.{Abandoned}
use Rattle.cache_ask.specs.Ask.{AnswersWhole, AnswersEntry, text_shown, AnswersOutcome, AnswersUnknown}

-- the arrays of what a cache holds, which every call is lent
pub record Columns : Type 0 where
  pub clusters : List ℕ
  pub keys : List ℕ
  pub versions : List ℕ
  pub kinds : List ℕ
  pub words : List ℕ
  pub order : List ℕ
  pub lengths : List ℕ

-- the state that they say, with the words and the bytes of the newest request
abbrev pub state_of : Columns → List ℕ → List ℕ → CacheState
state_of c asked kept = state_in c.clusters c.keys c.versions c.kinds c.words c.order c.lengths asked kept

-- `cache_state::begin::fresh`, which answers nothing
pub record FreshMemory : Type 0 where
  pub columns : Columns
  pub asked : List ℕ
  pub kept : List ℕ

abbrev pub FreshMeets : (after : FreshMemory) → Type 0
FreshMeets n = (state_of n.columns n.asked n.kept ≡ fresh) × (n.asked ≡ replicate asked_size 0)

-- `cache_state::begin::begin_read` and `begin_write`: the page and the columns are lent to be read
pub record BeginMemory : Type 0 where
  pub asked : List ℕ
  pub kept : List ℕ
  pub out : List ℕ

abbrev pub BeginMeets : (List ℕ → CacheState → ℕ → CacheReaction) → (page : List ℕ) (columns : Columns) (before : BeginMemory) (outcome : Outcome) (after : BeginMemory) → Type 0
BeginMeets begins page c m r n =
    CacheReacted (of_cache m.asked page (state_of c m.asked m.kept) (begins page (state_of c m.asked m.kept) (length m.out))) r (state_of c n.asked n.kept)
    m.asked
    n.asked
    page
    m.out
    n.out

abbrev pub BeginReadMeets : (page : List ℕ) (columns : Columns) (before : BeginMemory) (outcome : Outcome) (after : BeginMemory) → Type 0
BeginReadMeets = BeginMeets begins_read

abbrev pub BeginWriteMeets : (endpoint cluster attribute : ℕ) (given : Bool) (version : ℕ) (new : Value) (src : List ℕ) (page : List ℕ) (columns : Columns) (before : BeginMemory) (outcome : Outcome) (after : BeginMemory) → Type 0
BeginWriteMeets endpoint cluster attribute given version new src =
    BeginMeets (λ page s room. begins_write page s endpoint cluster attribute given version src new room)

-- `cache_state::begin::resend`: the buffer alone is lent to be changed
abbrev pub ResendMeets : (page : List ℕ) (columns : Columns) (asked kept out : List ℕ) (outcome : Outcome) (new_out : List ℕ) → Type 0
ResendMeets page c asked kept out r new =
    CacheReacted (of_cache asked page (state_of c asked kept) (resends page (state_of c asked kept) (length out))) r (state_of c asked kept) asked asked page out new

-- `cache_receive::receive`
pub record TakeMemory : Type 0 where
  pub page : List ℕ
  pub columns : Columns
  pub asked : List ℕ
  pub kept : List ℕ
  pub out : List ℕ

abbrev pub TakeMeets : (message : List ℕ) (before : TakeMemory) (outcome : Outcome) (after : TakeMemory) → Type 0
TakeMeets message m r n =
    CacheReacted (of_cache m.asked m.page (state_of m.columns m.asked m.kept) (received m.page (state_of m.columns m.asked m.kept) message (length m.out))) r
    (state_of n.columns n.asked n.kept)
    m.asked
    n.asked
    n.page
    m.out
    n.out

-- ---- `cache_ask`: all is lent to be read; the newest message is not lent, and whatever it is the answer is the same

module _ (page : List ℕ) (c : Columns) (asked : List ℕ) where
  -- `coherent`
  abbrev pub WholeMeets : (endpoint cluster : ℕ) (answer : Whole) → Type 0
  WholeMeets endpoint cluster r = (kept : List ℕ) → AnswersWhole asked page (state_of c asked kept) endpoint cluster r

  -- `entry`
  abbrev pub EntryMeets : (endpoint cluster attribute : ℕ) (answer : EntryHeld) → Type 0
  EntryMeets endpoint cluster attribute r = (kept : List ℕ) → AnswersEntry asked page (state_of c asked kept) endpoint cluster attribute r

  -- `text`: what the returned part of the page holds
  abbrev pub TextMeets : (endpoint cluster attribute : ℕ) (shown : List ℕ) → Type 0
  TextMeets endpoint cluster attribute r = (kept : List ℕ) → r ≡ text_shown asked page (state_of c asked kept) endpoint cluster attribute

  -- `outcome`
  abbrev pub EndedMeets : (answer : Ended) → Type 0
  EndedMeets r = (kept : List ℕ) → AnswersOutcome asked page (state_of c asked kept) r

  -- `unknown`
  abbrev pub UnknownMeets : (answer : Abandoned) → Type 0
  UnknownMeets r = (kept : List ℕ) → AnswersUnknown asked page (state_of c asked kept) r
