-- A cache's messages fit: at most 32 filters of at most 21 octets each.
use Rattle.std.specs.Prelude.{Some, None, Option}
use mathlib.Core.Path.{◌≡◌, refl, sym, ap, ◌∙◌}
use mathlib.Core.Bool.{Bool}
use mathlib.Core.List.{List, [], ◌∷◌, ◌++◌, map}
use Prim.Native.Nat.{ℕ, zero, suc, ◌+◌, ◌*◌, ◌/◌, ◌%◌, ◌^◌, ◌≤◌, ◌<◌}
use native.Mathlib.Omega.{arith}
use lib.ListN.{length, get_or, length-append}
use Rattle.base_bounds.specs.Bounds.{payload_limit}
use Rattle.tlv_reader.specs.Tree.{Tree}
use Rattle.tlv_reader.specs.Value.{Datum}
use Rattle.im_requests.specs.declared.VersionFilter.{VersionFilter}
use Rattle.im_writer.specs.Envelope.{envelope_octets}
use Rattle.im_writer.specs.Spelling.{spelling, Each}
use Rattle.im_writer.specs.Block.{ShortText}
use Rattle.im_writer.specs.Message.{message_tree, status_members}
use Rattle.im_writer.proofs.EnvelopeLaws.{length-envelope}
use Rattle.im_envelope.specs.Envelope.{max_message}
use Rattle.im_writer.proofs.LengthLaws.{length-status-response}
use Rattle.im_request_writer.specs.Request.{read_members, write_members, entry_tree}
use Rattle.im_request_writer.proofs.FilterLaws.{filter-bound}
use Rattle.im_request_writer.proofs.RequestLaws.{read-bound, write-bound}
use Rattle.im_exchange.specs.Rules.{read_opcode, write_opcode, status_opcode}
use Rattle.cache_entries.specs.declared.Cached.{Cached}
use Rattle.cache_entries.specs.Limits.{max_clusters, half}
use Rattle.cache_entries.specs.Coherent.{coherent_at}
use Rattle.cache_entries.proofs.CoherentLaws.{coherent-exactly}
use Rattle.cache_messages.specs.Filters.{least_by, version_filter_as, version_filter_if, filter_for, onwards, filters_from, filters_of, filter_tree_of}
use Rattle.cache_messages.specs.Messages.{read_message, write_message, success_message}

-- the version of a coherent cluster is one
pub coherent-small : (c : Cached) (k : ℕ) {v : ℕ} → coherent_at c k ≡ Some v → v < 2 ^ 32
coherent-small c k {v} e = ((coherent-exactly c k v).0 e).1

-- a filter whose numbers have their widths
pub record Narrow (f : VersionFilter) : Type 0 where
  pub endpoint : f.endpoint < 2 ^ 16
  pub cluster : f.cluster < 2 ^ 32
  pub version : f.version < 2 ^ 32

-- what holds of both lists holds of them together
each_both : {A : Type 0} (P : A → Type 0) (a b : List A) → Each P a → Each P b → Each P (a ++ b)
unfolding Each
each_both P [] b h q = q
each_both P (x ∷ a) b h q = (h.0, each_both P a b h.1 q)

module _ (c : Cached) where
  one-narrow : (k word : ℕ) → Each Narrow (filter_for c k word)
  unfolding filter_for Each
  one-narrow k word = go (coherent_at c k) refl
    where
      go : (o : Option ℕ) → coherent_at c k ≡ o → Each Narrow (version_filter_if word o)
      go None e = tt
      go (Some v) e = (record { endpoint = omega arith; cluster = omega arith; version = coherent-small c k e }, tt)

  from-narrow : (m bound : ℕ) → Each Narrow (filters_from c m bound)
  unfolding filters_from Each
  from-narrow zero bound = tt
  from-narrow (suc m) bound = go (least_by c.clusters bound c.cluster_count) (λ b. from-narrow m b)
    where
      go : (f : (Option ℕ)) → ((b : ℕ) → Each Narrow (filters_from c m b)) → Each Narrow (onwards c (λ b. filters_from c m b) f)
      go (Some k) rest = each_both Narrow (filter_for c k (get_or c.clusters k 0)) _ (one-narrow k (get_or c.clusters k 0)) (rest (get_or c.clusters k 0 + 1))
      go None rest = tt

  -- EVERY FILTER fits
  pub filters-narrow : Each Narrow (filters_of c)
  unfolding filters_of
  filters-narrow = from-narrow c.cluster_count 0

-- at most one for each cluster
one-few : (c : Cached) (k word : ℕ) → length (filter_for c k word) ≤ 1
unfolding filter_for
one-few c k word = go (coherent_at c k)
  where
    go : (o : Option ℕ) → length (version_filter_if word o) ≤ 1
    go None = omega arith
    go (Some v) = omega arith

from-few : (c : Cached) (m bound : ℕ) → length (filters_from c m bound) ≤ m
unfolding filters_from
from-few c zero bound = omega arith
from-few c (suc m) bound = go (least_by c.clusters bound c.cluster_count) (λ b. from-few c m b)
  where
    go : (f : (Option ℕ)) → ((b : ℕ) → length (filters_from c m b) ≤ m) → length (onwards c (λ b. filters_from c m b) f) ≤ suc m
    go (Some k) rest =
        let word = get_or c.clusters k 0 in
        omega (arith, length-append (filter_for c k word) (filters_from c m (word + 1)), one-few c k word, rest (word + 1))
    go None rest = omega arith

pub filters-few : (c : Cached) → length (filters_of c) ≤ c.cluster_count
unfolding filters_of
filters-few c = from-few c c.cluster_count 0

-- A MESSAGE has at least its envelope, and fits the buffer
pub record Sized (message : List ℕ) : Type 0 where
  pub some : 0 < length message
  pub fits : length message ≤ max_message

after-envelope : (edition opcode exchange turn : ℕ) (payload : List ℕ) → length payload ≤ payload_limit → Sized (envelope_octets edition opcode exchange turn ++ payload)
after-envelope edition opcode exchange turn payload l =
    let n = length-append (envelope_octets edition opcode exchange turn) payload in
    let e = length-envelope edition opcode exchange turn in
    record { some = omega (arith, n, e); fits = omega (arith, n, e, l) }

trees-short : (fs : List VersionFilter) → Each Narrow fs → Each (λ (t : Tree). length (spelling t) ≤ 21) (map filter_tree_of fs)
unfolding Each
trees-short [] h = tt
trees-short (f ∷ fs) h = (filter-bound f.endpoint f.cluster f.version h.0.endpoint h.0.cluster h.0.version, trees-short fs h.1)

length-map : (fs : List VersionFilter) → length (map filter_tree_of fs) ≡ length fs
length-map [] = refl
length-map (f ∷ fs) = ap suc (length-map fs)

pub read-sized : (edition exchange : ℕ) (fs : List VersionFilter) → Each Narrow fs → length fs ≤ max_clusters → Sized (read_message edition exchange fs)
unfolding read_message
read-sized edition exchange fs narrow few =
    after-envelope edition read_opcode exchange 0 (spelling (message_tree (read_members (map filter_tree_of fs))))
    (omega (arith, few, length-map fs, read-bound (map filter_tree_of fs) (trees-short fs narrow)))

pub write-sized : (edition exchange : ℕ) (given : Bool) (version e c a : ℕ) (d : Datum) → version < 2 ^ 32 → e < 2 ^ 16 → c < 2 ^ 32 → a < 2 ^ 32 → ShortText d → Sized (write_message edition exchange given version e c a d)
unfolding write_message
write-sized edition exchange given version e c a d fv fe fc fa short =
    after-envelope edition write_opcode exchange 0 (spelling (message_tree (write_members (entry_tree given version e c a d))))
    (omega (arith, write-bound given version e c a d fv fe fc fa short))

pub success-sized : (edition exchange turn : ℕ) → Sized (success_message edition exchange turn)
unfolding success_message
success-sized edition exchange turn =
    after-envelope edition status_opcode exchange turn (spelling (message_tree (status_members 0))) (omega (arith, length-status-response 0 (omega arith)))
