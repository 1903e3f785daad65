-- Runs of wrong ends, which break what is promised. Runs 1 to 4 end with the cache primed and cluster 0 at one version, though its entries are not what was held: the first half is false
-- of them. Run 5 is one of true ends, at a state that a cache must not call coherent. After run 6, whose read has ended, nothing is coherent: the second half is false of it.
-- 7 is no run but a step of true ends, which a count of steps would have wrong.
use mathlib.Core.Path.{◌≡◌, refl, sym, ◌∙◌, ap}
use mathlib.Core.Bool.{true, false, true≢false}
use mathlib.Core.List.{List, [], ◌∷◌, map}
use Prim.Native.Nat.{ℕ, zero, suc, ◌+◌, ◌%◌, ◌^◌}
use Rattle.proof_protocol.specs.Model.{Store, Entry, Filter, Node, read, success, Part, Cluster, System, update, changed, stores_of, start, stored_in, store_all, change, begin_read, serve, send, part_of, reported, remaining, skips, changes_of, receive, accept, set_entry, set_entries, CoherentIn}
use Rattle.proof_protocol.specs.Steps.{alters, none, then}
use Rattle.proof_protocol.proofs.Inductive.{reach-inv}
use Rattle.proof_protocol.proofs.CountLaws.{stored-changes}

abbrev node : Node ℕ
node =
    record { first_version = λ c. 0; first_value = λ c a. 7; readable = record { cluster = 0; attribute = 0 } ∷ record { cluster = 0; attribute = 1 } ∷ record { cluster = 0; attribute = 2 } ∷ [] }

entry : ℕ → ℕ → Entry ℕ
entry a w = record { place = record { cluster = 0; attribute = a }; version = 0; value = w }

-- the newest part is taken
unfoldable newest : System ℕ → List (Part ℕ) → System ℕ
newest s [] = s
newest s (m ∷ l) = receive s m

abbrev take : System ℕ → System ℕ
take s = newest s s.parts

-- 1. A cache that sends filters before it is primed: read 1 is given up after its first part, and read 2, with a filter, ends at once.
abbrev given-up : System ℕ
given-up = take (serve node (begin_read (start node) []) (read 1 []) 0 [])

abbrev early : List Filter
early = record { cluster = 0; version = 0 } ∷ []

abbrev too-early : System ℕ
too-early = take (serve node (begin_read given-up early) (read 2 early) 0 [])

lacks-two : too-early.cache.entries ≡ entry 0 7 ∷ []
unfolding newest entry begin_read serve send part_of reported remaining skips receive accept set_entry set_entries
lacks-two = refl

primed-early : too-early.cache.primed ≡ true
unfolding newest begin_read serve send part_of reported remaining skips receive accept set_entry set_entries
primed-early = refl

-- 2. A server that makes the newest part anew where the kept one is due, as one does whose exchange can start twice: the cache has taken a short first part, the server goes on behind a long one.
unfoldable anew : System ℕ → ℕ → ℕ → System ℕ
anew s exchange size = send s (part_of s.clusters exchange 1 node.readable [] (changes_of s.clusters) size)

abbrev remade : System ℕ
remade = take (serve node (anew (take (serve node (begin_read (start node) []) (read 1 []) 0 [])) 1 1) (success 1 1) 5 [])

lacks-one : remade.cache.entries ≡ entry 2 7 ∷ entry 0 7 ∷ []
unfolding anew newest entry begin_read serve send part_of reported remaining skips receive accept set_entry set_entries
lacks-one = refl

primed-remade : remade.cache.primed ≡ true
unfolding anew newest begin_read serve send part_of reported remaining skips receive accept set_entry set_entries
primed-remade = refl

-- 3. A server that shows a made-up version: attribute 1 changes between the parts, and its new value stands under the old version.
unfoldable stale : Entry ℕ → Entry ℕ
stale e = record { place = e.place; version = 0; value = e.value }

unfoldable made_up : System ℕ → Part ℕ → System ℕ
made_up s m =
    send s
    record {
      exchange = m.exchange;
      turn = m.turn;
      entries = map stale m.entries;
      more = m.more;
      filters = m.filters;
      before = m.before;
      after = m.after;
      since = m.since;
      made = m.made;
    }

abbrev altered : System ℕ
altered = change given-up 0 1 8

abbrev mixed : System ℕ
mixed = take (made_up altered (part_of altered.clusters 1 2 altered.row.ahead [] altered.row.since 5))

mixes : mixed.cache.entries ≡ entry 2 7 ∷ entry 1 8 ∷ entry 0 7 ∷ []
unfolding store_all stored_in stale made_up newest entry begin_read serve send part_of reported remaining skips receive accept set_entry set_entries
mixes = refl

primed-mixed : mixed.cache.primed ≡ true
unfolding store_all stored_in stale made_up newest begin_read serve send part_of reported remaining skips receive accept set_entry set_entries
primed-mixed = refl

-- 4. A server whose first part says that all is sent: the read ends with it, and attributes 1 and 2 are never told.
unfoldable all_sent : System ℕ → Part ℕ → System ℕ
all_sent s m =
    send s
    record {
      exchange = m.exchange;
      turn = m.turn;
      entries = m.entries;
      more = false;
      filters = m.filters;
      before = m.before;
      after = m.after;
      since = m.since;
      made = m.made;
    }

abbrev begun : System ℕ
begun = begin_read (start node) []

abbrev cut_off : System ℕ
cut_off = take (all_sent begun (part_of begun.clusters 1 1 node.readable [] (changes_of begun.clusters) 0))

lacks-the-rest : cut_off.cache.entries ≡ entry 0 7 ∷ []
unfolding all_sent newest entry begin_read serve send part_of reported remaining skips receive accept set_entry set_entries
lacks-the-rest = refl

primed-cut-off : cut_off.cache.primed ≡ true
unfolding all_sent newest begin_read serve send part_of reported remaining skips receive accept set_entry set_entries
primed-cut-off = refl

-- 5. A cache that calls coherent what is not primed: of true ends, after the first part of a read, attribute 0 alone is there, and all entries share one version.
always-coherent : given-up.cache.entries ≡ entry 0 7 ∷ []
unfolding newest entry begin_read serve send part_of reported remaining skips receive accept set_entry set_entries
always-coherent = refl

not-primed : given-up.cache.primed ≡ false
unfolding newest begin_read serve send part_of reported remaining skips receive accept set_entry set_entries
not-primed = refl

-- 6. A cache that is never primed: a whole read has ended, all entries are there at one version, and nothing is coherent.
unfoldable never_primed : System ℕ → System ℕ
never_primed s =
    record {
      clusters = s.clusters;
      row = s.row;
      cache = record { exchange = s.cache.exchange; reading = s.cache.reading; next = s.cache.next; entries = s.cache.entries; primed = false; filters = s.cache.filters };
      messages = s.messages;
      parts = s.parts;
    }

abbrev whole-read : System ℕ
whole-read = never_primed (take (serve node begun (read 1 []) 5 []))

has_all : whole-read.cache.entries ≡ entry 2 7 ∷ entry 1 7 ∷ entry 0 7 ∷ []
unfolding never_primed newest entry begin_read serve send part_of reported remaining skips receive accept set_entry set_entries
has_all = refl

read-over : whole-read.cache.reading ≡ false
unfolding never_primed newest begin_read serve send part_of reported remaining skips receive accept set_entry set_entries
read-over = refl

never-coherent : (cluster version : ℕ) → CoherentIn whole-read.cache cluster version → ⊥
unfolding never_primed
never-coherent cluster version w = true≢false (sym w.primed-is)

-- 7. A count of one a step: one step can make 2^32 changes, after which the version is back and the value another. Counted as one change, it is within the bound of the first half.
abbrev eight : Store ℕ
eight = record { cluster = 0; attribute = 0; value = 8 }

unfoldable times : ℕ → List (Store ℕ)
times zero = []
times (suc n) = eight ∷ times n

times-count : (n : ℕ) → stores_of 0 (times n) ≡ n
unfolding times
times-count zero = refl
times-count (suc n) = ap suc (times-count n)

eight-stays : (n : ℕ) (clusters : ℕ → Cluster ℕ) → (clusters 0).values 0 ≡ 8 → (stored_in clusters (times n) 0).values 0 ≡ 8
unfolding times stored_in
eight-stays zero clusters e = e
eight-stays (suc n) clusters e = eight-stays n (update clusters 0 (changed (clusters 0) 0 8)) refl

abbrev turned : ℕ → System ℕ
turned n = store_all (start node) (times n)

version-back : ((turned (2 ^ 32)).clusters 0).version ≡ ((start node).clusters 0).version
unfolding store_all
version-back = (reach-inv node (then none (alters (times (2 ^ 32))))).clusters 0 ∙ ap (λ (n : ℕ). (0 + n) % 2 ^ 32) (stored-changes (start node).clusters (times (2 ^ 32)) 0 ∙ ap (λ (n : ℕ). 0 + n) (times-count (2 ^ 32)))

value-other : (n : ℕ) → ((turned (suc n)).clusters 0).values 0 ≡ 8
unfolding times store_all stored_in
value-other n = eight-stays n (update (start node).clusters 0 (changed ((start node).clusters 0) 0 8)) refl
