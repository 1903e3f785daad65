-- What a call leaves in a part of a buffer, said of the whole buffer.
use mathlib.Core.Path.{◌≡◌, ap, ◌∙◌}
use mathlib.Core.List.{List, ◌++◌}
use Prim.Native.Nat.{ℕ, min}
use lib.ListN.{length, take, drop}
use Rattle.cache_state.specs.Reaction.{CacheReaction}
use Rattle.script_lines.proofs.Fills.{take-clip, drop-clip}
use Rattle.script_cache.specs.declared.CacheMemory.{CacheMemory}
use Rattle.script_cache.specs.declared.CacheAnswered.{CacheAnswered}
use Rattle.script_cache.specs.Acts.{Reacts, ReactsIn}

pub in-room : (f : ℕ → CacheReaction) (m : CacheMemory) (room : ℕ) {n : ℕ} {page : List ℕ} (old : List ℕ) {part : List ℕ} {r : CacheAnswered} → n ≡ min room (length old) → Reacts (f (length (take n old))) m page (take n old) part r → ReactsIn room (f (length (take room old))) m page old (part ++ drop n old) r
in-room f m room old {part} e h =
    let g = rw (take-clip room old e) at h in
    record {
      number = g.number;
      len = g.len;
      state = g.state;
      words = g.words;
      texts = g.texts;
      buffer = ap (λ (l : List ℕ). part ++ l) (drop-clip room old e) ∙ ap (λ (l : List ℕ). l ++ drop room old) g.buffer;
    }
