-- WHAT THE CACHE BEGINS IS READ AS IT WAS MEANT: reads, writes and the successes between the parts of a report.
use Rattle.std.specs.Prelude.{Some, None, Option}
use mathlib.Core.Path.{◌≡◌, refl, ap, ◌∙◌}
use mathlib.Core.Bool.{Bool}
use mathlib.Core.List.{List, ◌++◌}
use Prim.Native.Nat.{ℕ, zero, suc, ◌+◌, ◌^◌, ◌≤◌, ◌<◌}
use native.Mathlib.Omega.{arith}
use lib.ListN.{length, get_or, drop, length-append}
use lib.Seq.{drop_at}
use Rattle.tlv_reader.specs.Value.{Datum, value_in, datum_in}
use Rattle.tlv_writer.specs.Meaning.{Writable}
use Rattle.im_members.specs.Array.{map_o}
use Rattle.im_requests.specs.declared.VersionFilter.{VersionFilter}
use Rattle.im_requests.specs.Status.{response_in}
use Rattle.im_requests.specs.Read.{read_in, read_read}
use Rattle.im_requests.specs.Write.{write_in, write_read, write_tree}
use Rattle.im_writer.specs.Envelope.{envelope_octets, envelope_length, exchange_limit}
use Rattle.im_writer.specs.Spelling.{primitive_d, Each}
use Rattle.im_writer.specs.Meaning.{PathFits}
use Rattle.im_writer.proofs.EnvelopeLaws.{length-envelope}
use Rattle.im_writer.proofs.SpellingLaws.{datum-back}
use Rattle.proof_round_trip.specs.Meant.{VersionFilterFits, read_octets, read_answer, write_octets, write_means, write_answer, status_octets}
use Rattle.proof_round_trip.proofs.BackLaws.{status-back, write-back}
use Rattle.proof_round_trip.proofs.ReaderLaws.{read-answered, write-answered}
use Rattle.im_exchange.specs.Rules.{status_opcode, read_opcode, write_opcode}
use Rattle.im_envelope.specs.Envelope.{envelope_in}
use Rattle.im_envelope.proofs.BigLaws.{envelope-read}
use Rattle.cache_entries.specs.declared.Cached.{Cached}
use Rattle.cache_entries.specs.Coherent.{coherent_at}
use Rattle.cache_entries.proofs.CoherentLaws.{coherent-exactly}
use Rattle.cache_messages.specs.Filters.{least_by, version_filter_if, filter_for, onwards, filters_from, filters_of}
use Rattle.cache_messages.specs.Messages.{read_message, write_message, success_message}
use Rattle.proof_trip.specs.Begun.{Sendable, envelope_as}
use Rattle.proof_trip.specs.Taken.{Takable}
use Rattle.proof_trip.proofs.EachLaws.{each_both}
use Rattle.proof_trip.proofs.ByteLaws.{write_bytes}
use Rattle.proof_trip.proofs.PlaceLaws.{place-means}

-- what follows an envelope
pub after-envelope : (edition opcode exchange turn : ℕ) (q : List ℕ) → drop envelope_length (envelope_octets edition opcode exchange turn ++ q) ≡ q
after-envelope edition opcode exchange turn q = drop_at (envelope_octets edition opcode exchange turn) q envelope_length (length-envelope edition opcode exchange turn)

-- THE FILTERS of a cache fit, and are no more than its clusters
module _ (c : Cached) where
  -- a coherent cluster has a version
  version-fits : (k v : ℕ) → coherent_at c k ≡ Some v → v < 2 ^ 32
  version-fits k v e = ((coherent-exactly c k v).0 e).1

  one-fits : (k word : ℕ) → Each VersionFilterFits (filter_for c k word)
  unfolding filter_for Each
  one-fits k word = go (coherent_at c k) refl
    where
      go : (o : Option ℕ) → coherent_at c k ≡ o → Each VersionFilterFits (version_filter_if word o)
      go None e = tt
      go (Some v) e =
          (record { endpoint-fits = omega arith; cluster-fits = omega arith; version-fits = version-fits k v e }, tt)

  from-fit : (m bound : ℕ) → Each VersionFilterFits (filters_from c m bound)
  unfolding filters_from Each
  from-fit zero bound = tt
  from-fit (suc m) bound = go (least_by c.clusters bound c.cluster_count) (from-fit m)
    where
      go : (r : (Option ℕ)) → ((b : ℕ) → Each VersionFilterFits (filters_from c m b)) → Each VersionFilterFits (onwards c (λ b. filters_from c m b) r)
      go None rest = tt
      go (Some k) rest =
          each_both VersionFilterFits (filter_for c k (get_or c.clusters k 0)) (filters_from c m (get_or c.clusters k 0 + 1)) (one-fits k (get_or c.clusters k 0)) (rest (get_or c.clusters k 0 + 1))

  pub filters-fit : Each VersionFilterFits (filters_of c)
  unfolding filters_of
  filters-fit = from-fit c.cluster_count 0

  one-few : (k word : ℕ) → length (filter_for c k word) ≤ 1
  unfolding filter_for
  one-few k word = go (coherent_at c k)
    where
      go : (o : Option ℕ) → length (version_filter_if word o) ≤ 1
      go None = omega arith
      go (Some v) = omega arith

  from-few : (m bound : ℕ) → length (filters_from c m bound) ≤ m
  unfolding filters_from
  from-few zero bound = omega arith
  from-few (suc m) bound = go (least_by c.clusters bound c.cluster_count) (from-few m)
    where
      go : (r : (Option ℕ)) → ((b : ℕ) → length (filters_from c m b) ≤ m) → length (onwards c (λ b. filters_from c m b) r) ≤ suc m
      go None rest = omega arith
      go (Some k) rest =
          omega (arith, length-append (filter_for c k (get_or c.clusters k 0)) (filters_from c m (get_or c.clusters k 0 + 1)), one-few k (get_or c.clusters k 0), rest (get_or c.clusters k 0 + 1))

  pub filters-few : length (filters_of c) ≤ c.cluster_count
  unfolding filters_of
  filters-few = from-few c.cluster_count 0

  -- A READ
  module _ (s : Sendable c) (edition exchange : ℕ) where
    read-payload : drop envelope_length (read_message edition exchange (filters_of c)) ≡ read_octets (filters_of c)
    unfolding read_message
    read-payload = after-envelope edition read_opcode exchange 0 (read_octets (filters_of c))

    -- with no ground to refuse it
    pub read_taken : read_read (read_in (drop envelope_length (read_message edition exchange (filters_of c)))) ≡ read_answer (filters_of c)
    read_taken = ap (λ (q : List ℕ). read_read (read_in q)) read-payload ∙ read-answered (filters_of c) filters-fit

pub read-envelope : (edition exchange : ℕ) (fs : List VersionFilter) → edition < 16 → exchange < exchange_limit → envelope_in (read_message edition exchange fs) ≡ envelope_as edition read_opcode exchange 0
unfolding read_message
read-envelope edition exchange fs f h = envelope-read edition read_opcode exchange 0 f (omega arith) h (omega arith) (read_octets fs)

-- A WRITE
module _ (edition exchange : ℕ) (given : Bool) (version e c a : ℕ) (d : Datum) where
  abbrev m : List ℕ
  m = write_message edition exchange given version e c a d

  pub write-envelope : edition < 16 → exchange < exchange_limit → envelope_in m ≡ envelope_as edition write_opcode exchange 0
  unfolding write_message
  write-envelope f h = envelope-read edition write_opcode exchange 0 f (omega arith) h (omega arith) (write_octets given version e c a d)

  write-payload : drop envelope_length m ≡ write_octets given version e c a d
  unfolding write_message
  write-payload = after-envelope edition write_opcode exchange 0 (write_octets given version e c a d)

  module _ (fv : version < 2 ^ 32) (p : PathFits e c a) (w : Writable (primitive_d d)) where
    pub write-meant : map_o (write_tree 7 (drop envelope_length m)) (write_in (drop envelope_length m)) ≡ Some (write_means given version e c a d)
    write-meant = rw write-payload (write-back given version e c a d fv p w)

    -- one entry, of the path and version meant, and at its place the value meant
    pub write-taken : Takable d → (n : ℕ) × (write_read (write_in (drop envelope_length m)) ≡ write_answer given version e c a n) × (datum_in (drop envelope_length m) (value_in (drop envelope_length m) n) ≡ d)
    write-taken h =
        let (n, answer, tree) = write-answered given version e c a d fv p w in (
          n,
          rw write-payload answer,
          rw write-payload (place-means 7 (write_octets given version e c a d) (write_bytes given version e c a d h fv p w) n tree ∙ datum-back d),
        )

-- A SUCCESS
module _ (edition exchange turn : ℕ) where
  pub success-meant : response_in (drop envelope_length (success_message edition exchange turn)) ≡ Some 0
  unfolding success_message
  success-meant = ap response_in (after-envelope edition status_opcode exchange turn (status_octets 0)) ∙ status-back 0 (omega arith)

  pub success-envelope : edition < 16 → exchange < exchange_limit → turn < 2 ^ 16 → envelope_in (success_message edition exchange turn) ≡ envelope_as edition status_opcode exchange turn
  unfolding success_message
  success-envelope f h t = envelope-read edition status_opcode exchange turn f (omega arith) h t (status_octets 0)
