-- What the code has of a request, its lists in words that are lent, is the request that is meant.
use Rattle.std.specs.Prelude.{Some, None, Option}
use mathlib.Core.Path.{◌≡◌, refl, sym, ap, subst, ◌∙◌}
use mathlib.Core.Bool.{Bool}
use mathlib.Core.List.{List, map}
use Prim.Native.Nat.{ℕ, ◌≤◌, ◌<◌}
use native.Mathlib.Omega.{arith}
use lib.ListN.{length, take, length-map}
use Rattle.base_bounds.specs.Bounds.{path_limit, filter_limit, write_limit}
use Rattle.base_octets.specs.Store.{store, Stored}
use Rattle.im_requests.specs.declared.ReadCounts.{ReadCounts}
use Rattle.im_requests.specs.Message.{words_of}
use Rattle.im_requests.specs.Read.{target_size, target_words, nowhere, version_filter_size, version_filter_words, unwanted, Read, read_in, ReadRequest, read_read, ReadKept, read_with, read_kept}
use Rattle.im_requests.proofs.KeepLaws.{zeros, length-first, first-none, words-map, words-first}
use Rattle.im_requests.specs.declared.write.WriteEntry.{WriteEntry}
use Rattle.im_requests.specs.declared.write.WriteCounts.{WriteCounts}
use Rattle.im_requests.specs.Write.{no_entry, entry_struct, entry_size, entry_words, entry_in, WriteOf, write_in, WriteRequest, write_read, WriteKept, write_with, write_kept}
use Rattle.server_selection.specs.Request.{paths_words}
use Rattle.server_selection.specs.Filters.{version_filter_list}
use Rattle.server_selection.proofs.RequestLaws.{paths-words, version-filter-back}
use Rattle.server_writes.specs.Entry.{InWidth, entries_in}
use Rattle.server_writes.proofs.EntryLaws.{read-widths}
use Rattle.server_writes.proofs.LoopLaws.{entry-back, entries-back}
use Rattle.server_replies.specs.declared.refusal.Asks.{Asks}
use Rattle.server_replies.specs.Refusal.{refusal_code, whole_code, read_asks, write_asks, read_refusal, write_refusal}
use Rattle.server_replies.specs.Messages.{response_message}
use Rattle.server_replies.specs.Begin.{entries_of}

-- ---- a read

abbrev KeptRead : Option Read → ReadKept
KeptRead o = read_kept (zeros 48) (zeros 96) o

abbrev asks_of : ReadKept → Asks
asks_of k = record { timed = 0; paths = k.paths.count; filters = k.filters.count; writes = 0 }

read_same : (o : Option Read) → asks_of (KeptRead o) ≡ read_asks (read_read o)
read_same None = refl
read_same (Some x) = refl

read-good : (o : Option Read) → (KeptRead o).good ≡ (read_read o).good
read-good None = refl
read-good (Some x) = refl

paths-same : (o : Option Read) → (KeptRead o).paths.words ≡ paths_words (read_read o).paths.kept
unfolding paths_words
paths-same None = refl
paths-same (Some x) = words-first target_words target_size (λ t. refl) nowhere refl path_limit x.paths ∙ paths-words _

filters-same : (o : Option Read) → (KeptRead o).filters.words ≡ words_of version_filter_words (read_read o).filters.kept
unfolding words_of
filters-same None = refl
filters-same (Some x) = words-first version_filter_words version_filter_size (λ f. refl) unwanted refl filter_limit x.filters

filters-whole : (o : Option Read) → length (read_read o).filters.kept ≡ filter_limit
filters-whole None = ap length (sym (first-none filter_limit unwanted)) ∙ length-first filter_limit unwanted _
filters-whole (Some x) = length-first filter_limit unwanted x.filters

-- the answer's counts and words are those of what it says
pub read-as : {o r : Option ReadCounts} {paths filters : List ℕ} {k : ReadKept} → o ≡ r → read_with o paths filters ≡ k → read_with r paths filters ≡ k
read-as {paths = ps} {filters = fs} w q = ap (λ (x : Option ReadCounts). read_with x ps fs) (sym w) ∙ q

pub read-malformed : (s : List ℕ) {paths filters : List ℕ} → read_with None paths filters ≡ read_kept (zeros 48) (zeros 96) (read_in s) → read_refusal (read_read (read_in s)) ≡ 0x80
unfolding refusal_code
read-malformed s e = ap (λ (g : Bool). whole_code g (read_asks (read_read (read_in s)))) (sym (ap (λ (k : ReadKept). k.good) e ∙ read-good (read_in s)))

module _ (s : List ℕ) {c : ReadCounts} {paths filters : List ℕ} (e : read_with (Some c) paths filters ≡ read_kept (zeros 48) (zeros 96) (read_in s)) where
  abbrev ReadMeant : ReadRequest
  ReadMeant = read_read (read_in s)

  pub read-asks : record { timed = 0; paths = c.paths; filters = c.filters; writes = 0 } ≡ read_asks ReadMeant
  read-asks = ap asks_of e ∙ read_same (read_in s)

  -- what decides it
  pub read-code : refusal_code (Some (record { timed = 0; paths = c.paths; filters = c.filters; writes = 0 })) ≡ read_refusal ReadMeant
  read-code = (λ j. whole_code ((ap (λ (k : ReadKept). k.good) e ∙ read-good (read_in s)) j) (read-asks j))

  pub read-paths : paths ≡ paths_words ReadMeant.paths.kept
  read-paths = ap (λ (k : ReadKept). k.paths.words) e ∙ paths-same (read_in s)

  pub read-filters : c.filters ≤ filter_limit → version_filter_list filters c.filters ≡ take ReadMeant.filters.count ReadMeant.filters.kept
  read-filters h =
      let n : c.filters ≡ ReadMeant.filters.count = ap (λ (a : Asks). a.filters) read-asks in
      (λ j. version_filter_list ((ap (λ (k : ReadKept). k.filters.words) e ∙ filters-same (read_in s)) j) (n j))
      ∙ version-filter-back ReadMeant.filters.kept ReadMeant.filters.count (omega (arith, h, n, filters-whole (read_in s)))

-- ---- a write

abbrev KeptWrite : Option (WriteOf ℕ) → WriteKept
KeptWrite o = write_kept (zeros 80) o

abbrev writes-of : WriteKept → Asks
writes-of k = record { timed = k.timed; paths = 0; filters = 0; writes = k.entries.count }

write_same : (o : Option (WriteOf ℕ)) → writes-of (KeptWrite o) ≡ write_asks (write_read o)
write_same None = refl
write_same (Some x) = λ j. record { timed = x.timed; paths = 0; filters = 0; writes = sym (length-map x.entries entry_struct) j }

write-good : (o : Option (WriteOf ℕ)) → (KeptWrite o).good ≡ (write_read o).good
write-good None = refl
write-good (Some x) = refl

suppress-same : (o : Option (WriteOf ℕ)) → (KeptWrite o).suppress ≡ (write_read o).suppress
suppress-same None = refl
suppress-same (Some x) = refl

entries-same : (o : Option (WriteOf ℕ)) → (KeptWrite o).entries.words ≡ words_of entry_words (write_read o).entries.kept
unfolding words_of
entries-same None = refl
entries-same (Some x) = go (words-map entry_struct entry_words write_limit x.entries) ∙ words-first entry_words entry_size (λ y. refl) no_entry refl write_limit (map entry_struct x.entries)
  where
    go : {a b : List ℕ} → a ≡ b → store (zeros 80) 0 a ≡ store (zeros 80) 0 b
    go q = ap (store (zeros 80) 0) q

entries-whole : (o : Option (WriteOf ℕ)) → length (write_read o).entries.kept ≡ write_limit
entries-whole None = ap length (sym (first-none write_limit no_entry)) ∙ length-first write_limit no_entry _
entries-whole (Some x) = length-first write_limit no_entry (map entry_struct x.entries)

pub write-as : {o r : Option WriteCounts} {words : List ℕ} {k : WriteKept} → o ≡ r → write_with o words ≡ k → write_with r words ≡ k
write-as {words = xs} w q = ap (λ (x : Option WriteCounts). write_with x xs) (sym w) ∙ q

pub write-malformed : (s : List ℕ) {words : List ℕ} → write_with None words ≡ write_kept (zeros 80) (write_in s) → write_refusal (write_read (write_in s)) ≡ 0x80
unfolding refusal_code
write-malformed s e = ap (λ (g : Bool). whole_code g (write_asks (write_read (write_in s)))) (sym (ap (λ (k : WriteKept). k.good) e ∙ write-good (write_in s)))

module _ (s : List ℕ) {c : WriteCounts} {words : List ℕ} (e : write_with (Some c) words ≡ write_kept (zeros 80) (write_in s)) where
  abbrev WriteMeant : WriteRequest
  WriteMeant = write_read (write_in s)

  pub write-asks : record { timed = c.timed; paths = 0; filters = 0; writes = c.entries } ≡ write_asks WriteMeant
  write-asks = ap writes-of e ∙ write_same (write_in s)

  pub write-code : refusal_code (Some (record { timed = c.timed; paths = 0; filters = 0; writes = c.entries })) ≡ write_refusal WriteMeant
  write-code = (λ j. whole_code ((ap (λ (k : WriteKept). k.good) e ∙ write-good (write_in s)) j) (write-asks j))

  pub write-suppress : c.suppress ≡ WriteMeant.suppress
  write-suppress = ap (λ (k : WriteKept). k.suppress) e ∙ suppress-same (write_in s)

  pub write-count : c.entries ≡ WriteMeant.entries.count
  write-count = ap (λ (a : Asks). a.writes) write-asks

  kept : words ≡ words_of entry_words WriteMeant.entries.kept
  kept = ap (λ (k : WriteKept). k.entries.words) e ∙ entries-same (write_in s)

  module _ (few : c.entries ≤ write_limit) where
    pub write_entries : entries_in words c.entries ≡ entries_of WriteMeant
    write_entries =
        (λ j. entries_in (kept j) (write-count j))
        ∙ entries-back WriteMeant.entries.kept WriteMeant.entries.count (omega (arith, few, write-count, entries-whole (write_in s)))

    pub write-widths : (i : ℕ) → i < c.entries → InWidth (entry_in words i)
    write-widths i h =
        subst InWidth (sym (ap (λ (l : List ℕ). entry_in l i) kept ∙ entry-back WriteMeant.entries.kept i (omega (arith, few, h, entries-whole (write_in s))))) (read-widths s i)

-- the statuses of the entries in words are those of the entries that are meant
pub response-as : (edition exchange turn : ℕ) (codes : List ℕ) {n m end : ℕ} {xs ys : List WriteEntry} {old new : List ℕ} → xs ≡ ys → n ≡ m → Stored old 0 (response_message edition exchange turn xs (take n codes)) new end → Stored old 0 (response_message edition exchange turn ys (take m codes)) new end
response-as edition exchange turn codes {end = end} {old = old} {new} q k u = subst (λ (l : List ℕ). Stored old 0 l new end) (λ j. response_message edition exchange turn (q j) (take (k j) codes)) u
