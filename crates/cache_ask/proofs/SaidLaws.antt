-- What is answered says what the rules say (RULES 6.1, 7).
use Rattle.std.specs.Prelude.{Some, None, Option}
use mathlib.Core.Path.{◌≡◌, refl, sym, ap, ◌∙◌}
use mathlib.Core.Bool.{Bool, true, false, not, ◌&&◌, false≢true}
use mathlib.Core.List.{List, []}
use Prim.Native.Nat.{ℕ, ◌%◌}
use lib.Dec.{eqb, ltb}
use lib.ListN.{get_or}
use mir.Syntax.{w64}
use mir.Val.{to_z}
use Rattle.tlv_reader.specs.declared.Value.TheVariants as value
use Rattle.tlv_reader.specs.Octet.{pick}
use Rattle.tlv_reader.specs.Value.{Datum, datum_in}
use Rattle.cache_entries.specs.Limits.{half, no_version, null_kind, boolean_kind, unsigned_kind, signed_kind, float_kind}
use Rattle.cache_entries.specs.Entries.{cluster_word, text_in, place_start, datum_by, entry_of, at_entry, path_at, lookup}
use Rattle.cache_state.specs.declared.CacheState.{CacheState}
use Rattle.cache_state.specs.State.{none_yet, last_part, with_status, cache_right}
use Rattle.cache_state.specs.Words.{words_right}
use Rattle.cache_ask.specs.declared.EntryHeld.{EntryHeld}
use Rattle.cache_ask.specs.declared.Whole.{Whole}
use Rattle.cache_ask.specs.declared.Ended.{Ended}
use Rattle.cache_ask.specs.declared.Abandoned.{Abandoned}
use Rattle.cache_ask.specs.declared.Whole.TheVariants as whole
use Rattle.cache_ask.specs.declared.EntryHeld.TheVariants as held
use Rattle.cache_ask.specs.declared.Ended.TheVariants as ended
use Rattle.cache_ask.specs.declared.Abandoned.TheVariants as abandoned
use Rattle.cache_ask.specs.Ask as Ask

module _ (page : List ℕ) (s : CacheState) where
  pub whole-said : (endpoint cluster : ℕ) → Ask.whole_said (Ask.whole_of page s endpoint cluster) ≡ Ask.says_whole page s endpoint cluster
  unfolding Ask.whole_of
  whole-said endpoint cluster = go (cache_right page s) (Ask.coherent_of s.held (cluster_word endpoint cluster))
    where
      go : (b : Bool) (o : Option ℕ) → Ask.whole_said (pick b (Ask.whole_read o) whole.Broken) ≡ pick b (Ask.version_said o) (Ask.said 2 [])
      go true None = refl
      go true (Some v) = refl
      go false o = refl

  -- the value that is answered is the one that the map holds
  pub value-said : (kind word : ℕ) (lengths : List ℕ) → datum_in page (Ask.value_by kind word (get_or lengths word 0)) ≡ datum_by kind word (text_in page lengths word)
  unfolding Ask.value_by datum_by
  value-said kind word lengths = go (eqb kind null_kind) (eqb kind boolean_kind) (eqb kind unsigned_kind) (eqb kind signed_kind) (eqb kind float_kind)
    where
      go : (p q r t u : Bool) → datum_in page (pick p value.Null (pick q (value.Boolean (not (eqb word 0))) (pick r (value.Unsigned word) (pick t (value.Signed (to_z w64 word)) (pick u (value.Float (word % half)) (value.Text (place_start word) (get_or lengths word 0))))))) ≡ pick p Datum.null (pick q (Datum.boolean (not (eqb word 0))) (pick r (Datum.unsigned word) (pick t (Datum.signed (to_z w64 word)) (pick u (Datum.float (word % half)) (Datum.text (text_in page lengths word))))))
      go true q r t u = refl
      go false true r t u = refl
      go false false true t u = refl
      go false false false true u = refl
      go false false false false true = refl
      go false false false false false = refl

  pub entry-said : (e c a : ℕ) → Ask.held_said page (Ask.entry_of page s e c a) ≡ Ask.says_entry page s e c a
  unfolding Ask.entry_of lookup
  entry-said e c a = go (cache_right page s) (path_at s.held e c a)
    where
      at : (i : ℕ) (b : Bool) → Ask.held_said page (pick b (held.Here (get_or s.held.versions i 0) (Ask.value_by (get_or s.held.kinds i 0) (get_or s.held.words i 0) (get_or s.held.lengths (get_or s.held.words i 0) 0))) held.Nothing) ≡ Ask.entry_said (pick b (Some (entry_of s.held page i)) None)
      at i true = ap (λ (d : Datum). Ask.entry_said (Some (record { version = get_or s.held.versions i 0; value = d }))) (value-said (get_or s.held.kinds i 0) (get_or s.held.words i 0) s.held.lengths)
      at i false = refl

      go : (b : Bool) (f : (Option ℕ)) → Ask.held_said page (pick b (Ask.entry_read s.held f) held.Broken) ≡ pick b (Ask.entry_said (Ask.versioned (at_entry s.held page f))) (record { number = 2; entry = None })
      go true (Some i) = at i (ltb (get_or s.held.versions i 0) no_version)
      go true None = refl
      go false f = refl

  pub outcome-said : Ask.ended_said (Ask.outcome_of page s) ≡ Ask.says_outcome page s
  unfolding Ask.outcome_of
  outcome-said = go (cache_right page s) (eqb s.asked.stage none_yet) (eqb s.asked.stage last_part) (eqb s.asked.stage with_status)
    where
      go : (b p q r : Bool) → Ask.ended_said (pick b (pick p ended.NoneYet (pick q ended.LastPart (pick r (ended.Status s.asked.status) ended.Open))) ended.Broken) ≡ pick b (pick p (Ask.said 1 []) (pick q (Ask.said 0 []) (pick r (Ask.ended_said (ended.Status s.asked.status)) (Ask.ended_said ended.Open)))) (Ask.said 2 [])
      go true true q r = refl
      go true false true r = refl
      go true false false true = refl
      go true false false false = refl
      go false p q r = refl

  pub unknown-said : Ask.abandoned_said (Ask.unknown_of page s) ≡ Ask.says_unknown page s
  unfolding Ask.unknown_of
  unknown-said = go (cache_right page s) (eqb s.asked.unknown 0)
    where
      go : (b p : Bool) → Ask.abandoned_said (pick b (pick p abandoned.Nothing (abandoned.Exchange s.asked.unknown)) abandoned.Broken) ≡ pick b (pick p (Ask.said 1 []) (Ask.abandoned_said (abandoned.Exchange s.asked.unknown))) (Ask.said 2 [])
      go true true = refl
      go true false = refl
      go false p = refl

-- AN ANSWER AS THE CODE HAS IT, with what it says
answers : {A B : Type 0} (says : A → B) (broken : A) (asked : List ℕ) {x : A} {y : B} → says x ≡ y → {r : A} → r ≡ pick (words_right asked) x broken → Ask.Answers says broken asked x y r
answers says broken asked {x} {y} h {r} e = record { answer = e; said = ap says e ∙ go (words_right asked) }
  where
    go : (b : Bool) → says (pick b x broken) ≡ pick b y (says broken)
    go true = h
    go false = refl

-- of words and a cache that keep the rules, or not
by-rules : {A : Type 0} (a b : Bool) {r x : A} (y : A) → (a && b) ≡ true → r ≡ x → r ≡ pick a (pick b x y) y
by-rules true true y h e = e
by-rules true false y h e = absurd (false≢true h)
by-rules false b y h e = absurd (false≢true h)

by-none : {A : Type 0} (a b : Bool) (x y : A) → (a && b) ≡ false → y ≡ pick a (pick b x y) y
by-none true true x y h = absurd (false≢true (sym h))
by-none true false x y h = refl
by-none false b x y h = refl

module _ (asked page : List ℕ) (s : CacheState) where
  -- it keeps the rules
  abbrev pub Right : Bool → Type 0
  Right b = (words_right asked && cache_right page s) ≡ b

  module _ (endpoint cluster : ℕ) where
    pub whole-right : Right true → {r : Whole} → r ≡ Ask.whole_read (Ask.coherent_of s.held (cluster_word endpoint cluster)) → Ask.AnswersWhole asked page s endpoint cluster r
    unfolding Ask.whole_of
    whole-right h e = answers (λ x. Ask.whole_said x) whole.Broken asked (whole-said page s endpoint cluster) (by-rules (words_right asked) (cache_right page s) whole.Broken h e)

    pub whole-broken : Right false → Ask.AnswersWhole asked page s endpoint cluster whole.Broken
    unfolding Ask.whole_of
    whole-broken h = answers (λ x. Ask.whole_said x) whole.Broken asked (whole-said page s endpoint cluster) (by-none (words_right asked) (cache_right page s) _ whole.Broken h)

  module _ (e c a : ℕ) where
    pub entry-right : Right true → {r : EntryHeld} → r ≡ Ask.entry_read s.held (path_at s.held e c a) → Ask.AnswersEntry asked page s e c a r
    unfolding Ask.entry_of
    entry-right h q = answers (λ x. Ask.held_said page x) held.Broken asked (entry-said page s e c a) (by-rules (words_right asked) (cache_right page s) held.Broken h q)

    pub entry-broken : Right false → Ask.AnswersEntry asked page s e c a held.Broken
    unfolding Ask.entry_of
    entry-broken h = answers (λ x. Ask.held_said page x) held.Broken asked (entry-said page s e c a) (by-none (words_right asked) (cache_right page s) _ held.Broken h)

  pub outcome-right : Right true → {r : Ended} → r ≡ Ask.ended_by s.asked → Ask.AnswersOutcome asked page s r
  unfolding Ask.outcome_of
  outcome-right h e = answers (λ x. Ask.ended_said x) ended.Broken asked (outcome-said page s) (by-rules (words_right asked) (cache_right page s) ended.Broken h e)

  pub outcome-broken : Right false → Ask.AnswersOutcome asked page s ended.Broken
  unfolding Ask.outcome_of
  outcome-broken h = answers (λ x. Ask.ended_said x) ended.Broken asked (outcome-said page s) (by-none (words_right asked) (cache_right page s) _ ended.Broken h)

  pub unknown-right : Right true → {r : Abandoned} → r ≡ pick (eqb s.asked.unknown 0) abandoned.Nothing (abandoned.Exchange s.asked.unknown) → Ask.AnswersUnknown asked page s r
  unfolding Ask.unknown_of
  unknown-right h e = answers (λ x. Ask.abandoned_said x) abandoned.Broken asked (unknown-said page s) (by-rules (words_right asked) (cache_right page s) abandoned.Broken h e)

  pub unknown-broken : Right false → Ask.AnswersUnknown asked page s abandoned.Broken
  unfolding Ask.unknown_of
  unknown-broken h = answers (λ x. Ask.abandoned_said x) abandoned.Broken asked (unknown-said page s) (by-none (words_right asked) (cache_right page s) _ abandoned.Broken h)
