-- What a line that asks the cache says, by its first word and what it spells (docs/SCRIPTS.md).
use Rattle.std.specs.Prelude.{List, [], ◌∷◌, ℕ, Ok, Result}
use Rattle.tlv_reader.specs.Octet.{pick}
use Rattle.node_kinds.specs.Stored.{equal}
use Rattle.cache_state.specs.Words.{words_right}
use Rattle.cache_ask.specs.declared.Whole.TheVariants as whole
use Rattle.cache_ask.specs.declared.EntryHeld.TheVariants as held
use Rattle.cache_ask.specs.declared.Ended.TheVariants as ended
use Rattle.cache_ask.specs.declared.Abandoned.TheVariants as abandoned
use Rattle.cache_ask.specs.Ask.{whole_of, entry_of, outcome_of, unknown_of}
use Rattle.script_answer.specs.declared.Fault.{Fault}
use Rattle.script_lines.specs.declared.Scan.{Scan}
use Rattle.script_lines.specs.declared.path.ClusterWords.{ClusterWords}
use Rattle.script_lines.specs.declared.path.PathWords.{PathWords}
use Rattle.script_lines.specs.Words.{is_done}
use Rattle.script_lines.specs.Paths.{place_at, path_at}
use Rattle.script_cache.specs.declared.CacheMemory.{CacheMemory}
use Rattle.script_cache.specs.Shown.{Shown, unread, whole_shown, entry_shown, outcome_shown, unknown_shown}
use Rattle.script_cache.specs.Lines.{state_of}

-- whole, entry, outcome, unknown
abbrev pub whole_name : List ℕ
whole_name = 119 ∷ 104 ∷ 111 ∷ 108 ∷ 101 ∷ []

abbrev pub entry_name : List ℕ
entry_name = 101 ∷ 110 ∷ 116 ∷ 114 ∷ 121 ∷ []

abbrev pub outcome_name : List ℕ
outcome_name = 111 ∷ 117 ∷ 116 ∷ 99 ∷ 111 ∷ 109 ∷ 101 ∷ []

abbrev pub unknown_name : List ℕ
unknown_name = 117 ∷ 110 ∷ 107 ∷ 110 ∷ 111 ∷ 119 ∷ 110 ∷ []

-- memory whose words are no cache's answers as a broken one does
abbrev pub of_memory : {A : Type 0} → CacheMemory → A → A → A
of_memory m x broken = pick (words_right m.asked) x broken

-- what is said if the whole line was read
abbrev pub when_read : Scan → Shown → Result Shown Fault
when_read s x = pick (is_done s) (Ok x) unread

-- of a cluster, of an attribute
abbrev pub whole_by : CacheMemory → List ℕ → ClusterWords → Result Shown Fault
whole_by m page p = when_read p.next (whole_shown (of_memory m (whole_of page (state_of m) p.endpoint p.cluster) whole.Broken))

unfoldable pub whole_at : List ℕ → Scan → CacheMemory → List ℕ → Result Shown Fault
whole_at line s m page = whole_by m page (place_at line s)

abbrev pub entry_by : CacheMemory → List ℕ → PathWords → Result Shown Fault
entry_by m page p =
    when_read p.next (entry_shown page (of_memory m (entry_of page (state_of m) p.endpoint p.cluster p.attribute) held.Broken))

unfoldable pub entry_at : List ℕ → Scan → CacheMemory → List ℕ → Result Shown Fault
entry_at line s m page = entry_by m page (path_at line s)

-- of the newest request, of the newest abandoned write
unfoldable pub outcome_at : Scan → CacheMemory → List ℕ → Result Shown Fault
outcome_at s m page = when_read s (outcome_shown (of_memory m (outcome_of page (state_of m)) ended.Broken))

unfoldable pub unknown_at : Scan → CacheMemory → List ℕ → Result Shown Fault
unknown_at s m page = when_read s (unknown_shown (of_memory m (unknown_of page (state_of m)) abandoned.Broken))

unfoldable pub ask_shown : List ℕ → List ℕ → Scan → CacheMemory → List ℕ → Result Shown Fault
ask_shown name line s m page =
    pick (equal name whole_name) (whole_at line s m page)
    (pick (equal name entry_name) (entry_at line s m page)
    (pick (equal name outcome_name) (outcome_at s m page) (pick (equal name unknown_name) (unknown_at s m page) unread)))
