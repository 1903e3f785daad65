-- What stands in a state of the run, and what a call makes of it.
use mathlib.Core.Path.{◌≡◌, refl}
use mathlib.Core.List.{List}
use Prim.Native.Nat.{ℕ}
use Rattle.server_replies.specs.Server as server
use Rattle.cache_state.specs.declared.CacheState.{CacheState}
use Rattle.cache_state.specs.Reaction as cache
use Rattle.im_envelope.specs.Envelope.{max_message}
use Rattle.proof_promises.specs.World.{World, subject_of, with, after_server, after_cache, answered}
use Rattle.proof_example.specs.Plan.{plan}
use Rattle.proof_example.specs.Calls.{given, answers, version6, reacts}

pub record Holds (u : World) (s : server.ServerState) (c : CacheState) (t : List ℕ) (qs rs : List (List ℕ)) : Type 0 where
  pub server-is : u.server ≡ s
  pub cache-is : u.cache ≡ c
  pub page-is : u.page ≡ t
  pub requests-are : u.requests ≡ qs
  pub replies-are : u.replies ≡ rs
  -- cluster 6, the schema's first, has not changed
  pub unchanged : u.changes 0 ≡ 0

-- a message handed to the server by the plan's subject, with a buffer of full size
abbrev pub heard : World → List ℕ → World
heard u m = after_server u (answered plan u (subject_of plan) m max_message)

module _ {u : World} {s : server.ServerState} {c : CacheState} {t : List ℕ} {qs rs : List (List ℕ)} (h : Holds u s c t qs rs) where
  -- a call of the server that leaves cluster 6 at its version
  pub served : (f : server.ServerState → server.ServerReaction) {s' : server.ServerState} {reply : List ℕ} {rs' : List (List ℕ)}
      → f s ≡ answers s' reply → with reply rs ≡ rs' → version6 s ≡ 5 → version6 s' ≡ 5
      → Holds (after_server u (f u.server)) s' c t qs rs'
  unfolding after_server
  served f to reply old new =
      record {
        server-is = rw (h.server-is, to) refl;
        cache-is = h.cache-is;
        page-is = h.page-is;
        requests-are = h.requests-are;
        replies-are = rw (h.server-is, to, h.replies-are) reply;
        unchanged = rw (h.unchanged, h.server-is, to, old, new) refl;
      }

  pub hearing : (m : List ℕ) {s' : server.ServerState} {reply : List ℕ} {rs' : List (List ℕ)}
      → given s m ≡ answers s' reply → with reply rs ≡ rs' → version6 s ≡ 5 → version6 s' ≡ 5
      → Holds (heard u m) s' c t qs rs'
  hearing m = served (λ s. given s m)

  -- a call of the cache
  pub reacted : (f : List ℕ → CacheState → cache.CacheReaction) {n : ℕ} {c' : CacheState} {t' q : List ℕ} {qs' : List (List ℕ)}
      → f t c ≡ reacts n c' t' q → with q qs ≡ qs'
      → Holds (after_cache u (f u.page u.cache)) s c' t' qs' rs
  unfolding after_cache
  reacted f to sent =
      record {
        server-is = h.server-is;
        cache-is = rw (h.page-is, h.cache-is, to) refl;
        page-is = rw (h.page-is, h.cache-is, to) refl;
        requests-are = rw (h.page-is, h.cache-is, to, h.requests-are) sent;
        replies-are = h.replies-are;
        unchanged = h.unchanged;
      }
