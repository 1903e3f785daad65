-- What a cache answers when it is asked. `..Said` gives the number (RULES 6.1) and the values of each case of an answer, `says..` what is to be said.
use Rattle.std.specs.Prelude.{◌≡◌, true, not, List, [], ◌∷◌, ℕ, ◌%◌, ◌≤◌, eqb, ltb, get_or, take, drop, Some, None, Option}
use Rattle.std.specs.Int.{w64}
use Rattle.std.proofs.Common.{to_z}
use Rattle.tlv_reader.specs.declared.Value.{Value}
use Rattle.tlv_reader.specs.declared.Value.TheVariants as value
use Rattle.tlv_reader.specs.Octet.{pick}
use Rattle.tlv_reader.specs.Value.{datum_in}
use Rattle.cache_order.specs.Order.{order_right}
use Rattle.cache_entries.specs.declared.Cached.{Cached}
use Rattle.cache_entries.specs.Limits.{max_entries, max_clusters, half, no_version, null_kind, boolean_kind, unsigned_kind, signed_kind, float_kind}
use Rattle.cache_entries.specs.Entries.{CacheEntry, cluster_word, cluster_at, cluster_order, place_start, path_at, lookup}
use Rattle.cache_entries.specs.Coherent.{coherent_at}
use Rattle.cache_state.specs.declared.Request.{Request}
use Rattle.cache_state.specs.declared.CacheState.{CacheState}
use Rattle.cache_ask.specs.declared.Whole.{Whole}
use Rattle.cache_ask.specs.declared.Whole.TheVariants as whole
use Rattle.cache_ask.specs.declared.EntryHeld.{EntryHeld}
use Rattle.cache_ask.specs.declared.EntryHeld.TheVariants as held
use Rattle.cache_ask.specs.declared.Ended.{Ended}
use Rattle.cache_ask.specs.declared.Ended.TheVariants as ended
use Rattle.cache_ask.specs.declared.Abandoned.{Abandoned}
use Rattle.cache_ask.specs.declared.Abandoned.TheVariants as abandoned
use Rattle.cache_state.specs.State.{none_yet, last_part, with_status, cache_right}
use Rattle.cache_state.specs.Words.{words_right}

-- the number of RULES 6.1, and what goes with it
pub record Said : Type 0 where
  pub number : ℕ
  pub values : List ℕ

abbrev pub said : ℕ → List ℕ → Said
said n l = record { number = n; values = l }

-- refusal 2 (RULES 6.1)
abbrev pub unless_broken : List ℕ → CacheState → Said → Said
unless_broken page s x = pick (cache_right page s) x (said 2 [])

-- IS A CLUSTER COHERENT, and at which version
abbrev pub coherent_there : Cached → Option ℕ → Option ℕ
coherent_there c (Some k) = coherent_at c k
coherent_there c None = None

unfoldable pub coherent_of : Cached → ℕ → Option ℕ
coherent_of c word = coherent_there c (cluster_at c word)

abbrev pub whole_read : Option ℕ → Whole
whole_read None = whole.No
whole_read (Some v) = whole.At v

unfoldable pub whole_of : List ℕ → CacheState → ℕ → ℕ → Whole
whole_of page s endpoint cluster =
    pick (cache_right page s) (whole_read (coherent_of s.held (cluster_word endpoint cluster))) whole.Broken

abbrev pub whole_said : Whole → Said
whole_said whole.Broken = said 2 []
whole_said whole.No = said 1 []
whole_said (whole.At v) = said 0 (v ∷ [])

abbrev pub version_said : Option ℕ → Said
version_said None = said 1 []
version_said (Some v) = said 0 (v ∷ [])

-- 0 and the version, or 1
abbrev pub says_whole : List ℕ → CacheState → ℕ → ℕ → Said
says_whole page s endpoint cluster = unless_broken page s (version_said (coherent_of s.held (cluster_word endpoint cluster)))

-- AN ENTRY: a text stands at its place of the page, which is its word
unfoldable pub value_by : ℕ → ℕ → ℕ → Value
value_by kind word len =
    pick (eqb kind null_kind) value.Null
    (pick (eqb kind boolean_kind) (value.Boolean (not (eqb word 0)))
    (pick (eqb kind unsigned_kind) (value.Unsigned word)
    (pick (eqb kind signed_kind) (value.Signed (to_z w64 word))
    (pick (eqb kind float_kind) (value.Float (word % half)) (value.Text (place_start word) len)))))

-- one with no version, which no call of ours makes yet, is not shown: it is answered like one that is not there
abbrev pub versioned : Option CacheEntry → Option CacheEntry
versioned None = None
versioned (Some x) = pick (ltb x.version no_version) (Some x) None

abbrev pub entry_read : Cached → Option ℕ → EntryHeld
entry_read c (Some i) =
    pick (ltb (get_or c.versions i 0) no_version)
    (held.Here (get_or c.versions i 0) (value_by (get_or c.kinds i 0) (get_or c.words i 0) (get_or c.lengths (get_or c.words i 0) 0)))
    held.Nothing
entry_read c None = held.Nothing

unfoldable pub entry_of : List ℕ → CacheState → ℕ → ℕ → ℕ → EntryHeld
entry_of page s e c a = pick (cache_right page s) (entry_read s.held (path_at s.held e c a)) held.Broken

-- 0 with version and value, or 1; of the map that the cache holds
pub record EntrySaid : Type 0 where
  pub number : ℕ
  pub entry : Option CacheEntry

abbrev pub held_said : List ℕ → EntryHeld → EntrySaid
held_said page held.Broken = record { number = 2; entry = None }
held_said page held.Nothing = record { number = 1; entry = None }
held_said page (held.Here v x) = record { number = 0; entry = Some (record { version = v; value = datum_in page x }) }

abbrev pub entry_said : Option CacheEntry → EntrySaid
entry_said None = record { number = 1; entry = None }
entry_said (Some x) = record { number = 0; entry = Some x }

abbrev pub says_entry : List ℕ → CacheState → ℕ → ℕ → ℕ → EntrySaid
says_entry page s e c a = pick (cache_right page s) (entry_said (versioned (lookup s.held page e c a))) (record { number = 2; entry = None })

-- its text, as the part of the page
abbrev pub text_of_value : List ℕ → Value → List ℕ
text_of_value page value.Null = []
text_of_value page (value.Boolean b) = []
text_of_value page (value.Unsigned n) = []
text_of_value page (value.Signed z) = []
text_of_value page (value.Float n) = []
text_of_value page (value.Text a n) = take n (drop a page)
text_of_value page value.Other = []

abbrev pub text_of_entry : List ℕ → EntryHeld → List ℕ
text_of_entry page held.Broken = []
text_of_entry page held.Nothing = []
text_of_entry page (held.Here v x) = text_of_value page x

unfoldable pub text_of : List ℕ → CacheState → ℕ → ℕ → ℕ → List ℕ
text_of page s e c a = text_of_entry page (entry_of page s e c a)

-- HOW THE NEWEST REQUEST STANDS
abbrev pub ended_by : Request → Ended
ended_by x =
    pick (eqb x.stage none_yet) ended.NoneYet
    (pick (eqb x.stage last_part) ended.LastPart (pick (eqb x.stage with_status) (ended.Status x.status) ended.Open))

abbrev pub ended_said : Ended → Said
ended_said ended.Broken = said 2 []
ended_said ended.NoneYet = said 1 []
ended_said ended.Open = said 1 (0 ∷ [])
ended_said ended.LastPart = said 0 []
ended_said (ended.Status code) = said 0 (code ∷ [])

-- 1 and nothing before the first request, 1 and 00 while it is open, 0 after the last part, 0 and the status otherwise
abbrev pub says_outcome : List ℕ → CacheState → Said
says_outcome page s =
    unless_broken page s
    (pick (eqb s.asked.stage none_yet) (said 1 [])
    (pick (eqb s.asked.stage last_part) (said 0 []) (pick (eqb s.asked.stage with_status) (said 0 (s.asked.status ∷ [])) (said 1 (0 ∷ [])))))

unfoldable pub outcome_of : List ℕ → CacheState → Ended
outcome_of page s = pick (cache_right page s) (ended_by s.asked) ended.Broken

-- THE NEWEST ABANDONED WRITE
unfoldable pub unknown_of : List ℕ → CacheState → Abandoned
unknown_of page s =
    pick (cache_right page s) (pick (eqb s.asked.unknown 0) abandoned.Nothing (abandoned.Exchange s.asked.unknown)) abandoned.Broken

abbrev pub abandoned_said : Abandoned → Said
abandoned_said abandoned.Broken = said 2 []
abandoned_said abandoned.Nothing = said 1 []
abandoned_said (abandoned.Exchange n) = said 0 (n ∷ [])

-- 0 and the exchange, or 1
abbrev pub says_unknown : List ℕ → CacheState → Said
says_unknown page s = unless_broken page s (pick (eqb s.asked.unknown 0) (said 1 []) (said 0 (s.asked.unknown ∷ [])))

-- ---- AS THE CODE HAS IT: memory whose words are no cache's answers 2 as well

-- what is answered, and what that says
pub record Answers {A B : Type 0} (says : A → B) (broken : A) (asked : List ℕ) (x : A) (y : B) (r : A) : Type 0 where
  pub answer : r ≡ pick (words_right asked) x broken
  pub said : says r ≡ pick (words_right asked) y (says broken)

abbrev pub AnswersWhole : List ℕ → List ℕ → CacheState → ℕ → ℕ → Whole → Type 0
AnswersWhole asked page s endpoint cluster r =
    Answers (λ x. whole_said x) whole.Broken asked (whole_of page s endpoint cluster) (says_whole page s endpoint cluster) r

abbrev pub AnswersEntry : List ℕ → List ℕ → CacheState → ℕ → ℕ → ℕ → EntryHeld → Type 0
AnswersEntry asked page s e c a r = Answers (λ x. held_said page x) held.Broken asked (entry_of page s e c a) (says_entry page s e c a) r

abbrev pub text_shown : List ℕ → List ℕ → CacheState → ℕ → ℕ → ℕ → List ℕ
text_shown asked page s e c a = pick (words_right asked) (text_of page s e c a) []

abbrev pub AnswersOutcome : List ℕ → List ℕ → CacheState → Ended → Type 0
AnswersOutcome asked page s r = Answers (λ x. ended_said x) ended.Broken asked (outcome_of page s) (says_outcome page s) r

abbrev pub AnswersUnknown : List ℕ → List ℕ → CacheState → Abandoned → Type 0
AnswersUnknown asked page s r = Answers (λ x. abandoned_said x) abandoned.Broken asked (unknown_of page s) (says_unknown page s) r

-- what the search of an entry needs: counts within the limits, clusters and entries in their orders
pub record Ordered (clusters keys order : List ℕ) (count_of_clusters count : ℕ) : Type 0 where
  pub few-entries : count ≤ max_entries
  pub few-clusters : count_of_clusters ≤ max_clusters
  pub cluster-order : order_right clusters (cluster_order order) count_of_clusters ≡ true
  pub entry-order : order_right keys order count ≡ true
