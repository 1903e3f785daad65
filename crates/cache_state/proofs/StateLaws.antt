-- What a cache that keeps the rules has.
use mathlib.Core.Path.{◌≡◌, refl, sym}
use mathlib.Core.Bool.{Bool, true, false, ◌&&◌, false≢true}
use mathlib.Core.List.{List}
use Prim.Native.Nat.{ℕ}
use borrow.Author.Tests.{leb-true, ltb-true}
use lib.Dec.{leb, ltb}
use lib.ListN.{length}
use Rattle.tlv_reader.specs.Octet.{pick}
use Rattle.node_schema.proofs.BoolLaws.{left, right}
use Rattle.cache_entries.specs.Valid.{held_right}
use Rattle.cache_entries.specs.Limits.{page_size}
use Rattle.cache_entries.proofs.ValidLaws.{held-right, key_below_lem, version-right}
use Rattle.cache_messages.specs.Filters.{Bounded}
use Rattle.im_envelope.specs.Envelope.{max_message}
use Rattle.im_writer.specs.Envelope.{exchange_limit}
use Rattle.cache_state.specs.declared.Request.{Request}
use Rattle.cache_state.specs.declared.CacheState.{CacheState}
use Rattle.cache_state.specs.Words.{words_right}
use Rattle.cache_state.specs.Reaction.{CacheReaction, refusal, of_cache}
use Rattle.cache_state.specs.State.{with_status, asked_right, cache_right, RightAsked}

pub asked-right : (x : Request) → asked_right x ≡ true → RightAsked x
unfolding asked_right
asked-right x h =
    let a = right (ltb x.used exchange_limit) _ h in
    let b = right (leb x.exchange x.used) _ a in
    let c = right (leb x.unknown x.used) _ b in
    let d = right (leb x.stage with_status) _ c in
    record {
      used = ltb-true _ _ (left _ _ h);
      exchange = leb-true _ _ (left _ _ a);
      unknown = leb-true _ _ (left _ _ b);
      stage = leb-true _ _ (left _ _ c);
      len = leb-true _ _ (left _ _ d);
      sent = right (leb x.len max_message) _ d;
    }

module _ (page : List ℕ) (s : CacheState) (h : cache_right page s ≡ true) where
  pub right-held : held_right page s.held ≡ true
  unfolding cache_right
  right-held = left _ _ h

  pub right-asked : RightAsked s.asked
  unfolding cache_right
  right-asked = asked-right s.asked (right (held_right page s.held) _ h)

  pub right-size : length page ≡ page_size
  right-size = (held-right page s.held right-held).size

  -- what the filters of a read need
  pub right-bounded : let c = s.held in Bounded c.clusters c.keys c.versions c.order c.cluster_count c.count
  right-bounded =
      let r = held-right page s.held right-held in
      record {
        few-entries = r.few-entries;
        few-clusters = r.few-clusters;
        cluster-order = r.cluster-order;
        keys_below = key_below_lem s.held r.entries;
        versions-right = version-right s.held r.entries;
      }

-- words that are no cache's, or a cache that breaks the rules: refused
pub broken : (asked page : List ℕ) (s : CacheState) → (words_right asked && cache_right page s) ≡ false → (x : CacheReaction) → of_cache asked page s (pick (cache_right page s) x (refusal 2 s page)) ≡ refusal 2 s page
broken asked page s = go (words_right asked) (cache_right page s)
  where
    go : (a b : Bool) → (a && b) ≡ false → (x : CacheReaction) → pick a (pick b x (refusal 2 s page)) (refusal 2 s page) ≡ refusal 2 s page
    go false b h x = refl
    go true false h x = refl
    go true true h x = absurd (false≢true (sym h))
