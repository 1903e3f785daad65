-- ONLY ONE OUTCOME FITS a call of the cache: with the same arguments and the same memory before, the answer and all that was lent are the same afterwards.
use mathlib.Core.Path.{◌≡◌, sym, ◌∙◌}
use mathlib.Core.Bool.{Bool}
use mathlib.Core.List.{List}
use Prim.Native.Nat.{ℕ}
use Rattle.tlv_reader.specs.declared.Value.{Value}
use Rattle.cache_state.specs.declared.CacheState.{CacheState}
use Rattle.cache_state.specs.declared.Outcome.{Outcome}
use Rattle.cache_state.specs.Begin.{begins_read, begins_write}
use Rattle.cache_state.specs.Reaction.{CacheReaction, CacheReacted}
use Rattle.proof_one_outcome.specs.CacheCalls.{Columns, state_of, FreshMemory, FreshMeets, BeginMemory, BeginMeets, BeginReadMeets, BeginWriteMeets, ResendMeets, TakeMemory, TakeMeets}

-- columns that say the same state are the same
same-columns : (c d : Columns) (asked asked' : List ℕ) {kept kept' : List ℕ} → state_of c asked kept ≡ state_of d asked' kept' → c ≡ d
same-columns c d asked asked' e i = record {
  clusters = (e i).held.clusters;
  keys = (e i).held.keys;
  versions = (e i).held.versions;
  kinds = (e i).held.kinds;
  words = (e i).held.words;
  order = (e i).held.order;
  lengths = (e i).held.lengths;
}

-- and what is answered
same_outcome : {x : CacheReaction} {r s : Outcome} {t u : CacheState} {asked p q page page' old m n : List ℕ} → CacheReacted x r t asked p page old m → CacheReacted x s u asked q page' old n → r ≡ s
same_outcome h k i = record { number = (h.number ∙ sym k.number) i; len = (h.len ∙ sym k.len) i }

-- A FRESH CACHE, which is the same whatever stood there
pub one-fresh : (a b : FreshMemory) → FreshMeets a → FreshMeets b → a ≡ b
one-fresh a b h k =
    let state = h.0 ∙ sym k.0 in
    λ i. record { columns = same-columns a.columns b.columns a.asked b.asked state i; asked = (h.1 ∙ sym k.1) i; kept = (state i).asked.kept }

one-begun : (begins : List ℕ → CacheState → ℕ → CacheReaction) (page : List ℕ) (columns : Columns) (before : BeginMemory) (r s : Outcome) (a b : BeginMemory) → BeginMeets begins page columns before r a → BeginMeets begins page columns before s b → (r ≡ s) × (a ≡ b)
one-begun begins page c m r s a b h k =
    let state = h.state ∙ sym k.state in
    (same_outcome h k, λ i. record { asked = (h.words ∙ sym k.words) i; kept = (state i).asked.kept; out = (h.buffer ∙ sym k.buffer) i })

-- A READ BEGUN
pub one-read : (page : List ℕ) (columns : Columns) (before : BeginMemory) (r s : Outcome) (a b : BeginMemory) → BeginReadMeets page columns before r a → BeginReadMeets page columns before s b → (r ≡ s) × (a ≡ b)
one-read = one-begun begins_read

-- A WRITE BEGUN
pub one-write : (endpoint cluster attribute : ℕ) (given : Bool) (version : ℕ) (new : Value) (src : List ℕ) (page : List ℕ) (columns : Columns) (before : BeginMemory) (r s : Outcome) (a b : BeginMemory) → BeginWriteMeets endpoint cluster attribute given version new src page columns before r a → BeginWriteMeets endpoint cluster attribute given version new src page columns before s b → (r ≡ s) × (a ≡ b)
one-write endpoint cluster attribute given version new src = one-begun (λ page s room. begins_write page s endpoint cluster attribute given version src new room)

-- THE NEWEST MESSAGE AGAIN
pub one-resent : (page : List ℕ) (columns : Columns) (asked kept out : List ℕ) (r s : Outcome) (a b : List ℕ) → ResendMeets page columns asked kept out r a → ResendMeets page columns asked kept out s b → (r ≡ s) × (a ≡ b)
one-resent page c asked kept out r s a b h k = (same_outcome h k, h.buffer ∙ sym k.buffer)

-- A MESSAGE
pub one-cache-reaction : (message : List ℕ) (before : TakeMemory) (r s : Outcome) (a b : TakeMemory) → TakeMeets message before r a → TakeMeets message before s b → (r ≡ s) × (a ≡ b)
one-cache-reaction message m r s a b h k =
    let state = h.state ∙ sym k.state in (
      same_outcome h k,
      λ i. record {
        page = (h.texts ∙ sym k.texts) i;
        columns = same-columns a.columns b.columns a.asked b.asked state i;
        asked = (h.words ∙ sym k.words) i;
        kept = (state i).asked.kept;
        out = (h.buffer ∙ sym k.buffer) i;
      },
    )
