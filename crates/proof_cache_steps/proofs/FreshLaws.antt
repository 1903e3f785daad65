-- A FRESH CACHE stands for the protocol's.
use mathlib.Core.Path.{◌≡◌, refl}
use mathlib.Core.List.Memᴰ
use mathlib.Core.List.{List}
use Prim.Native.Nat.{ℕ}
use native.Mathlib.Omega.{arith}
use lib.ListN.{length}
use Rattle.tlv_reader.specs.Value.{Datum}
use Rattle.node_schema.specs.Rules.{Rules}
use Rattle.im_blocks.proofs.BlockLaws.{never}
use Rattle.cache_entries.specs.Limits.{page_size}
use Rattle.cache_state.specs.State.{is_open}
use Rattle.cache_state.specs.Begin.{fresh}
use Rattle.proof_cache_laws.proofs.BegunLaws.{fresh-valid}
use Rattle.proof_protocol.specs.Model.{Node, start}
use Rattle.proof_refinement.specs.Cache.{CacheAs}
use Rattle.proof_cache_steps.proofs.EntryLaws.{cluster-held, word-at}

module _ (w : List ℕ) (rules : Rules w) where
  pub fresh-cache : (node : Node Datum) (page : List ℕ) → length page ≡ page_size → (sent : List (List ℕ)) → CacheAs w sent page fresh (start node).cache
  unfolding fresh is_open
  fresh-cache node page size sent = record {
    valid = fresh-valid page size;
    held = record {
      clusters-once = λ j k bj. absurd (omega (arith, bj));
      keys-once = λ j k bj. absurd (omega (arith, bj));
      cluster-rows = λ k b. absurd (omega (arith, b));
      right = λ e m. absurd (Memᴰ.not-nil m);
      has = λ e m. absurd (Memᴰ.not-nil m);
      only = λ e c a fe fc fa x h. let (j, at) = cluster-held fresh.held page e c a h in absurd (omega (arith, (word-at _ 0 _ j at).0));
    };
    primed = refl;
    used = refl;
    exchange = refl;
    reading-is = refl;
    next = λ e. absurd (omega (arith, e));
    turn-fits = omega arith;
    writing-is = λ e. absurd (omega (arith, e));
    newest = λ o. never (cc);
  }
