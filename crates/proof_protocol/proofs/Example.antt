-- A run in which the theorems say something: a read in three parts, the first lost, sent again and arriving twice, between the second and the third one step that changes a value three times;
-- one cluster ends coherent and one not. A second read, with a filter, mends it.
use mathlib.Core.Path.{◌≡◌, refl, sym}
use mathlib.Core.Logic.{inl, inr}
use mathlib.Core.Bool.{true, true≢false}
use mathlib.Core.List.Memᴰ
use mathlib.Core.List.{List, [], ◌∷◌}
use Prim.Native.Nat.{ℕ, ◌+◌}
use native.Mathlib.Omega.{arith}
use Rattle.proof_protocol.specs.Model.{Entry, Node, Message, read, success, Part, Store, System, exchange_of, start, stored_in, store_all, change, begin_read, serve, send, send_again, part_of, reported, remaining, skips, changes_of, receive, accept, set_entry, set_entries, CoherentIn, FiltersFor}
use Rattle.proof_protocol.specs.Steps.{Step, alters, begins_read, serves, receives, Run, none, then, Reach, Heard, Got}
use Rattle.proof_protocol.specs.Claims.{moved, Arrived, Ending}
use Rattle.proof_protocol.proofs.SmallLaws.{all_cons}
use Rattle.proof_protocol.proofs.FilterLaws.{coherents, filters_of, filters-are}
use Rattle.proof_protocol.proofs.Main.{progress}

unfoldable pub entry : ℕ → ℕ → ℕ → ℕ → Entry ℕ
entry c a v w = record { place = record { cluster = c; attribute = a }; version = v; value = w }

abbrev store : ℕ → ℕ → ℕ → Store ℕ
store c a w = record { cluster = c; attribute = a; value = w }

abbrev pub node : Node ℕ
node =
    record {
      first_version = λ c. 4294967295;
      first_value = λ c a. 7;
      readable = record { cluster = 0; attribute = 0 } ∷ record { cluster = 0; attribute = 1 } ∷ record { cluster = 1; attribute = 0 } ∷ record { cluster = 1; attribute = 1 } ∷ [];
    }

-- cluster 0 changes, its version going from 2^32 - 1 to 0; the read begins
abbrev pub begun : System ℕ
begun = begin_read (change (start node) 0 1 9) []

-- the first part, of two entries, is lost; the request arrives again and gets the same part
abbrev pub first : Part ℕ
first = part_of begun.clusters 1 1 node.readable [] (changes_of begun.clusters) 1

abbrev pub answered : System ℕ
answered = serve node (serve node begun (read 1 []) 1 []) (read 1 []) 0 []

-- it is taken, and once more refused
abbrev pub taken : System ℕ
taken = receive (receive answered first) first

-- the second part, of one entry, is taken
abbrev pub second : Part ℕ
second = part_of taken.clusters 1 2 taken.row.ahead [] taken.row.since 0

abbrev pub further : System ℕ
further = receive (serve node taken (success 1 1) 0 []) second

-- cluster 1 changes three times in one step; the third part is the last
abbrev pub thrice : List (Store ℕ)
thrice = store 1 0 8 ∷ store 1 0 9 ∷ store 1 0 8 ∷ []

abbrev pub altered : System ℕ
altered = store_all further thrice

abbrev pub third : Part ℕ
third = part_of altered.clusters 1 3 altered.row.ahead [] altered.row.since 5

abbrev pub ended : System ℕ
ended = receive (serve node altered (success 1 2) 5 []) third

holds : ended.cache.entries ≡ entry 1 1 2 7 ∷ entry 1 0 4294967295 7 ∷ entry 0 1 0 9 ∷ entry 0 0 0 7 ∷ []
unfolding entry store_all stored_in begin_read serve send send_again part_of reported remaining skips receive accept set_entry set_entries
holds = refl

primed : ended.cache.primed ≡ true
unfolding store_all stored_in begin_read serve send send_again part_of reported remaining skips receive accept set_entry set_entries
primed = refl

-- cluster 0 is coherent, at the version that wrapped; cluster 1 is not, at any
pub coherent : CoherentIn ended.cache 0 0
unfolding entry
coherent =
    record {
      primed-is = primed;
      same =
          rw holds
          (all_cons (λ (e : Entry ℕ). e.place.cluster ≡ 0 → e.version ≡ 0) (λ q. absurd (omega arith))
          (all_cons (λ (e : Entry ℕ). e.place.cluster ≡ 0 → e.version ≡ 0) (λ q. absurd (omega arith))
          (all_cons (λ (e : Entry ℕ). e.place.cluster ≡ 0 → e.version ≡ 0) (λ q. refl)
          (all_cons (λ (e : Entry ℕ). e.place.cluster ≡ 0 → e.version ≡ 0) (λ q. refl) (λ e i. absurd (Memᴰ.not-nil i))))));
      some = rw holds (entry 0 1 0 9, Memᴰ.tail (Memᴰ.tail (Memᴰ.head refl)), refl);
    }

pub torn : (version : ℕ) → CoherentIn ended.cache 1 version → ⊥
unfolding entry
torn version w = absurd (omega (arith, a, b))
  where
    a : 2 ≡ version
    a = (rw holds at w.same) (entry 1 1 2 7) (Memᴰ.head refl) refl

    b : 4294967295 ≡ version
    b = (rw holds at w.same) (entry 1 0 4294967295 7) (Memᴰ.tail (Memᴰ.head refl)) refl

-- all that happened since the read began is a run, calm, in which each message and each reply arrived
no-filters : FiltersFor (change (start node) 0 1 9).cache []
unfolding store_all stored_in
no-filters = record { only = λ f i. absurd (Memᴰ.not-nil i); all = λ c v w. absurd (true≢false (sym w.primed-is)) }

abbrev reach : Reach node begun
reach = then (then none (alters (store 0 1 9 ∷ []))) (begins_read [] no-filters)

abbrev pub run : Run node begun ended
unfolding store_all stored_in begin_read serve send send_again part_of reported remaining skips receive accept set_entry set_entries
run =
    then
    (then
    (then
    (then
    (then
    (then (then (then (then none (serves (read 1 []) 1 [] (Memᴰ.head refl))) (serves (read 1 []) 0 [] (Memᴰ.head refl))) (receives first (Memᴰ.head refl))) (receives first (Memᴰ.head refl)))
    (serves (success 1 1) 0 [] (Memᴰ.head refl)))
    (receives second (Memᴰ.head refl)))
    (alters thrice))
    (serves (success 1 2) 5 [] (Memᴰ.head refl)))
    (receives third (Memᴰ.head refl))

arrived : Arrived run
unfolding store_all stored_in begin_read serve send send_again part_of reported remaining skips receive accept set_entry set_entries
arrived =
    record {
      messages =
          all_cons (λ (m : Message). exchange_of m ≡ 1 → Heard m run) (λ e. inl (inr refl))
          (all_cons (λ (m : Message). exchange_of m ≡ 1 → Heard m run) (λ e. inl (inl (inl (inl (inr refl)))))
          (all_cons (λ (m : Message). exchange_of m ≡ 1 → Heard m run) (λ e. inl (inl (inl (inl (inl (inl (inl (inr refl)))))))) (λ m i. absurd (Memᴰ.not-nil i))));
      parts =
          all_cons (λ (m : Part ℕ). m.exchange ≡ 1 → Got m run) (λ e. inr refl)
          (all_cons (λ (m : Part ℕ). m.exchange ≡ 1 → Got m run) (λ e. inl (inl (inl (inr refl))))
          (all_cons (λ (m : Part ℕ). m.exchange ≡ 1 → Got m run) (λ e. inl (inl (inl (inl (inl (inr refl))))))
          (all_cons (λ (m : Part ℕ). m.exchange ≡ 1 → Got m run) (λ e. inl (inl (inl (inl (inl (inr refl)))))) (λ m i. absurd (Memᴰ.not-nil i)))));
    }

-- that step counts three changes, which is what the two versions tell
counts : (altered.clusters 1).changes ≡ (further.clusters 1).changes + 3
unfolding store_all stored_in begin_read serve send send_again part_of reported remaining skips receive accept set_entry set_entries
counts = refl

tells : 3 ≡ moved 4294967295 2
tells = refl

-- so the read has ended, by the theorem
pub ends : Ending run
unfolding begin_read run
ends = progress.ends ℕ node begun ended reach refl run (((((((((tt, tt), tt), tt), tt), tt), tt), tt), tt), tt) arrived

-- the second read: cluster 0 is passed over by its filter, cluster 1 comes again
abbrev pub renewed : System ℕ
renewed = begin_read ended (filters_of ended.cache)

pub may-begin : Step node ended renewed
may-begin = begins_read (filters_of ended.cache) (filters-are ended.cache)

abbrev pub fourth : Part ℕ
fourth = part_of renewed.clusters 2 1 node.readable (filters_of ended.cache) (changes_of renewed.clusters) 5

pub mended : (receive (serve node renewed (read 2 (filters_of ended.cache)) 5 []) fourth).cache.entries ≡ entry 1 1 2 7 ∷ entry 1 0 2 8 ∷ entry 0 1 0 9 ∷ entry 0 0 0 7 ∷ []
unfolding entry store_all stored_in begin_read serve send send_again part_of reported remaining skips receive accept set_entry set_entries filters_of coherents
mended = refl
