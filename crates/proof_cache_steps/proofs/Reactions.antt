-- What a call of the cache leaves, in the terms of the protocol.
use mathlib.Core.Path.{◌≡◌}
use mathlib.Core.Logic.{◌⊎◌}
use mathlib.Core.List.{List, [], ◌∷◌}
use Prim.Native.Nat.{ℕ}
use Rattle.tlv_reader.specs.Value.{Datum}
use Rattle.cache_state.specs.declared.CacheState.{CacheState}
use Rattle.cache_state.specs.Reaction.{CacheReaction}
use Rattle.proof_protocol.specs.Model.{Message, Cache, System}
use Rattle.proof_refinement.specs.Bytes.{MessageAs}
use Rattle.proof_refinement.specs.Cache.{CacheAs}

-- nothing moved and nothing was sent
pub record Still (page : List ℕ) (s : CacheState) (x : CacheReaction) : Type 0 where
  pub state : x.state ≡ s
  pub page-is : x.page ≡ page
  pub reply : x.reply ≡ []

-- a request begun: the message sent, and the cache after it
pub record Begins (w : List ℕ) (sent : List (List ℕ)) (x : CacheReaction) (u : Message) (c : Cache Datum) : Type 0 where
  pub number : x.number ≡ 0
  pub cache : CacheAs w (x.reply ∷ sent) x.page x.state c
  pub message : MessageAs w x.reply u

-- what the cache has then sent
abbrev pub sent_with : List ℕ → List (List ℕ) → List (List ℕ)
sent_with [] l = l
sent_with (b ∷ m) l = (b ∷ m) ∷ l

-- a reply of the server taken, or refused for what is no fault of the server
pub record Takes (w : List ℕ) (sent : List (List ℕ)) (s : System Datum) (x : CacheReaction) (t : System Datum) : Type 0 where
  pub cache : CacheAs w (sent_with x.reply sent) x.page x.state t.cache
  pub told : ((x.reply ≡ []) × (t.messages ≡ s.messages)) ⊎ ((u : Message) × MessageAs w x.reply u × (t.messages ≡ u ∷ s.messages) × (x.reply ≡ [] → ⊥))
  pub never-6 : x.number ≡ 6 → ⊥
  pub never-7 : x.number ≡ 7 → ⊥
