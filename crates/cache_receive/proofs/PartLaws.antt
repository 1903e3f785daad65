-- A part of a report, case by case for the code.
use Rattle.std.specs.Prelude.{Some, None, Option}
use mathlib.Core.Path.{◌≡◌, refl, sym, ap, ◌∙◌}
use mathlib.Core.Bool.{Bool, true, false, false≢true}
use mathlib.Core.List.{List, map}
use Prim.Native.Nat.{ℕ, ◌*◌, ◌≤◌, ◌<◌}
use native.Mathlib.Omega.{arith}
use borrow.Author.Tests.{eq-eqb, ne_eqb, eqb-true}
use lib.Dec.{eqb}
use lib.ListN.{length, take}
use Rattle.base_bounds.specs.Bounds.{payload_limit}
use Rattle.base_octets.specs.Store.{store}
use Rattle.tlv_reader.specs.Octet.{pick}
use Rattle.node_schema.proofs.BoolLaws.{by-test}
use Rattle.im_exchange.specs.Rules.{max_turn}
use Rattle.im_requests.specs.Message.{words_of}
use Rattle.im_responses.specs.declared.PartRead.{PartRead}
use Rattle.im_responses.specs.Report.{PartOf, part_in}
use Rattle.im_responses.specs.Kept.{block_size, max_blocks, block_words, PartKept, part_kept, part_with}
use Rattle.im_responses.proofs.FewLaws.{few-blocks}
use Rattle.cache_entries.specs.declared.Cached.{Cached}
use Rattle.cache_entries.specs.Entries.{held_of}
use Rattle.cache_entries.specs.Valid.{entries_right, texts_right, held_right}
use Rattle.cache_report.specs.Block.{Judgement}
use Rattle.cache_report.specs.Part.{Judged, judgement_in, blocks_of, blocks_in, judged_all, held_all, page_all}
use Rattle.cache_report.specs.Words.{judgements_from, held_by, page_by}
use Rattle.cache_report.proofs.BlockLaws.{kept-judgements, judged-as, held-as, page-as}
use Rattle.cache_state.specs.declared.CacheState.{CacheState}
use Rattle.cache_state.specs.Reaction.{refusal}
use Rattle.cache_receive.specs.Receive.{goes_on, ends, past_turns, part_taken, takes_part}
use Rattle.cache_receive.specs.Steps.{PartDone, number_by, part_done, after_part}

never : {A : Type 0} → ◌≡◌ {A = Bool} true false → A
never e = absurd (false≢true (sym e))

-- ---- the blocks, judged and taken

module _ (s : List ℕ) (c : Cached) (page : List ℕ) (judgements : List Judgement) where
  pub done_refused : {n : ℕ} → n ≡ number_by c judgements → (n ≡ 0 → ⊥) → ◌≡◌ {A = PartDone} (record { number = n; held = c; page = page }) (part_done s c page judgements)
  unfolding part_done
  done_refused e h = rw (ne_eqb (number_by c judgements) 0 (λ z. h (e ∙ z))) (ap (λ (k : ℕ). record { number = k; held = c; page = page }) e)

  pub done-taken : {n : ℕ} → n ≡ number_by c judgements → n ≡ 0 → {held : Cached} {new : List ℕ} → held ≡ held_by c judgements → new ≡ page_by s c page judgements → ◌≡◌ {A = PartDone} (record { number = n; held = held; page = new }) (part_done s c page judgements)
  unfolding part_done
  done-taken e z a b = rw (eq-eqb (number_by c judgements) 0 (sym e ∙ z)) (λ j. record { number = z j; held = a j; page = b j })

  module _ {d : PartDone} (e : d ≡ part_done s c page judgements) where
    pub done-number : d.number ≡ number_by c judgements
    unfolding part_done
    done-number =
        ap (λ (x : PartDone). x.number) e ∙ by-test (eqb (number_by c judgements) 0) (λ t. rw t (sym (eqb-true (number_by c judgements) 0 t))) (λ f. rw f refl)

    -- one that got 0 is taken
    pub done-both : d.number ≡ 0 → (d.held ≡ held_by c judgements) × (d.page ≡ page_by s c page judgements)
    unfolding part_done
    done-both h =
        let t = eq-eqb (number_by c judgements) 0 (sym done-number ∙ h) in
        (ap (λ (x : PartDone). x.held) e ∙ rw t refl, ap (λ (x : PartDone). x.page) e ∙ rw t refl)

    -- one that got another number leaves everything as it was
    pub left-same : (d.number ≡ 0 → ⊥) → (d.held ≡ c) × (d.page ≡ page)
    unfolding part_done
    left-same h =
        let f = ne_eqb (number_by c judgements) 0 (λ z. h (done-number ∙ z)) in
        (ap (λ (x : PartDone). x.held) e ∙ rw f refl, ap (λ (x : PartDone). x.page) e ∙ rw f refl)

-- the rules do not look at the mark of a cache that is primed
pub right-any : (page : List ℕ) (c : Cached) → held_right page c ≡ true → (primed : Bool) → held_right page (held_of c.clusters c.keys c.versions c.kinds c.words c.order c.lengths c.cluster_count c.count primed) ≡ true
unfolding held_right entries_right texts_right
right-any page c h primed = h

-- ---- a part that was read

-- the answer's counts and words are those of what it says
pub part-as : {o r : Option PartRead} {words : List ℕ} {k : PartKept} → o ≡ r → part_with o words ≡ k → part_with r words ≡ k
part-as {words = xs} w q = ap (λ (x : Option PartRead). part_with x xs) (sym w) ∙ q

pub part-bad : (page : List ℕ) (s : CacheState) (payload old : List ℕ) {words : List ℕ} → part_with None words ≡ part_kept old (part_in payload) → takes_part page s payload ≡ refusal 6 s page
unfolding takes_part
part-bad page s payload old e = go (part_in payload) refl
  where
    go : (o : Option (PartOf ℕ)) → part_in payload ≡ o → part_taken page s payload o ≡ refusal 6 s page
    go None q = refl
    go (Some x) q = never (sym (ap (λ (y : PartKept). y.good) (e ∙ ap (part_kept old) q)))

module _ (page : List ℕ) (s : CacheState) (payload old : List ℕ) {p : PartRead} {words : List ℕ} (e : part_with (Some p) words ≡ part_kept old (part_in payload)) where
  found : {P : Type 0} → ((x : PartOf ℕ) → part_in payload ≡ Some x → P) → P
  found {P} f = go (part_in payload) refl
    where
      go : (o : Option (PartOf ℕ)) → part_in payload ≡ o → P
      go None q = never (ap (λ (y : PartKept). y.good) (e ∙ ap (part_kept old) q))
      go (Some x) q = f x q

  -- what is promised
  read_as_lem : (x : PartOf ℕ) → part_in payload ≡ Some x → x.more ≡ p.more
  read_as_lem x q = sym (ap (λ (y : PartKept). y.more) (e ∙ ap (part_kept old) q))

  count-as : (x : PartOf ℕ) → part_in payload ≡ Some x → p.blocks ≡ length x.blocks
  count-as x q = ap (λ (y : PartKept). y.kept.count) (e ∙ ap (part_kept old) q)

  words-as : (x : PartOf ℕ) → part_in payload ≡ Some x → words ≡ store old 0 (words_of block_words (take max_blocks x.blocks))
  words-as x q = ap (λ (y : PartKept). y.kept.words) (e ∙ ap (part_kept old) q)

  pub part-past : past_turns p.more s.asked.turn ≡ true → takes_part page s payload ≡ refusal 6 s page
  unfolding takes_part
  part-past h = found (λ x q. rw (q, ap (λ (n : ℕ). past_turns n s.asked.turn) (read_as_lem x q) ∙ h) refl)

  module _ (small : length payload ≤ payload_limit) where
    pub part-few : p.blocks ≤ max_blocks
    part-few = found (λ x q. omega (arith, few-blocks payload x small q, count-as x q))

    module _ (room : max_blocks * block_size ≤ length old) where
      abbrev judgements : List Judgement
      judgements = judgements_from payload words p.blocks 0

      -- the words say what the blocks get
      judgements-as : judgements ≡ map (judgement_in payload) (blocks_in payload)
      unfolding blocks_in
      judgements-as = found (λ x q. (λ j. judgements_from payload (words-as x q j) (count-as x q j) 0) ∙ kept-judgements payload old x.blocks (few-blocks payload x small q) room ∙ ap (λ (o : Option (PartOf ℕ)). map (judgement_in payload) (blocks_of o)) (sym q))

      abbrev judgement : ℕ
      judgement = (judged_all payload (record { number = 0; held = s.held }) (blocks_in payload)).number

      number-as : number_by s.held judgements ≡ judgement
      number-as = ap (number_by s.held) judgements-as ∙ sym (ap (λ (y : Judged). y.number) (judged-as payload (record { number = 0; held = s.held }) (blocks_in payload)))

      module _ (turns : past_turns p.more s.asked.turn ≡ false) {d : PartDone} (done : d ≡ part_done payload s.held page judgements) where
        pub part-refused : (d.number ≡ 0 → ⊥) → takes_part page s payload ≡ refusal d.number s page
        unfolding takes_part
        part-refused h =
            let j : judgement ≡ d.number = sym number-as ∙ sym (done-number payload s.held page judgements done) in
            found (λ x q. rw (q, ap (λ (n : ℕ). past_turns n s.asked.turn) (read_as_lem x q) ∙ turns, ne_eqb judgement 0 (λ z. h (sym j ∙ z))) (ap (λ (n : ℕ). refusal n s page) j))

        pub part-taken : d.number ≡ 0 → takes_part page s payload ≡ after_part d.held s.asked d.page p.more
        unfolding takes_part after_part
        part-taken h =
            let z : judgement ≡ 0 = sym number-as ∙ sym (done-number payload s.held page judgements done) ∙ h in
            let (a, b) = done-both payload s.held page judgements done h in
            let held : held_all payload s.held (blocks_in payload) ≡ d.held = held-as payload s.held (blocks_in payload) ∙ sym (a ∙ ap (held_by s.held) judgements-as) in
            let new : page_all payload s.held page (blocks_in payload) ≡ d.page = page-as payload s.held page (blocks_in payload) ∙ sym (b ∙ ap (page_by payload s.held page) judgements-as) in
            found (λ x q. rw (q, ap (λ (n : ℕ). past_turns n s.asked.turn) (read_as_lem x q) ∙ turns, eq-eqb judgement 0 z) (λ j. pick (eqb (read_as_lem x q j) 1) (goes_on (held j) s.asked (new j)) (ends (held j) s.asked (new j))))

-- where more is promised there is a turn left for it
pub turn-left : (more turn : ℕ) → more ≡ 1 → turn < 65536 → past_turns more turn ≡ false → turn < 65535
unfolding past_turns
turn-left more turn e l h = go (eqb turn max_turn) refl
  where
    go : (b : Bool) → eqb turn max_turn ≡ b → turn < 65535
    go true q = never (sym (rw (eq-eqb more 1 e, q) refl) ∙ h)
    go false q = apart (λ z. never (sym (eq-eqb turn max_turn z) ∙ q))
      where
        apart : (turn ≡ max_turn → ⊥) → turn < 65535
        apart n = omega (arith, n)
