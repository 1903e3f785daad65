-- A message that is taken, and one for whose reply there is no room.
use Rattle.std.specs.Prelude.{Some}
use mathlib.Core.Path.{◌≡◌, refl, sym, ap, ◌∙◌}
use mathlib.Core.Bool.{true}
use mathlib.Core.List.{List}
use Prim.Native.Nat.{ℕ, ◌≤◌, ◌<◌}
use borrow.Author.Tests.{le-leb, lt-ltb, le-ltb}
use lib.ListN.{length, drop}
use Rattle.im_envelope.specs.declared.Fields.{Fields}
use Rattle.im_envelope.specs.Envelope.{envelope_in, envelope_length, max_message}
use Rattle.cache_state.specs.declared.CacheState.{CacheState}
use Rattle.cache_state.specs.State.{cache_right}
use Rattle.cache_state.specs.Reaction.{refusal}
use Rattle.cache_receive.specs.Receive.{for_cache, awaited, takes, in_envelope, received}

-- THE MESSAGE
module _ (page : List ℕ) (s : CacheState) (m : List ℕ) (room : ℕ) where
  module _ (h : cache_right page s ≡ true) where
    pub small : room < max_message → received page s m room ≡ refusal 3 s page
    unfolding received
    small l = rw (h, lt-ltb room max_message l) refl

    module _ (l : max_message ≤ room) where
      opened : received page s m room ≡ in_envelope page s m (envelope_in m)
      unfolding received
      opened = rw (h, le-ltb room max_message l) refl

      module _ {e : Fields} (q : envelope_in m ≡ Some e) where
        whole : received page s m room ≡ in_envelope page s m (Some e)
        whole = opened ∙ ap (in_envelope page s m) q

        module _ (k : length m ≤ max_message) (o : for_cache e.edition e.opcode ≡ true) where
          pub taken_as : awaited s.asked e ≡ true → {p : List ℕ} → p ≡ drop envelope_length m → received page s m room ≡ takes page s e.opcode p
          taken_as a {p} d = whole ∙ rw (le-leb (length m) max_message k, o, a) refl ∙ ap (takes page s e.opcode) (sym d)
