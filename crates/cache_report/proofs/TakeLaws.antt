-- THE BLOCKS OF A PART TAKEN one after the other, each where its place was found before.
use Rattle.std.specs.Prelude.{Some, None, Option, Ok, Err}
use mathlib.Core.Path.{◌≡◌, refl, sym, ap, subst, ◌∙◌}
use mathlib.Core.Bool.{Bool, true, false, ◌&&◌, false≢true}
use mathlib.Core.List.{List, ◌∷◌}
use Prim.Native.Nat.{ℕ, suc, ◌+◌, ◌-◌, ◌*◌, ◌/◌, ◌%◌, ◌^◌, ◌≤◌, ◌<◌}
use native.Mathlib.Omega.{arith}
use borrow.Author.Tests.{ltb-true}
use lib.Dec.{ltb, eqb}
use lib.ListN.{get_or}
use Rattle.tlv_reader.specs.declared.Value.{Value}
use Rattle.tlv_reader.specs.Octet.{pick}
use Rattle.tlv_reader.specs.Value.{value_in}
use Rattle.node_kinds.proofs.SizedLaws.{value-in-sized}
use Rattle.node_schema.proofs.BoolLaws.{left, right, by-test}
use Rattle.im_responses.specs.Kept.{unshown, block_word}
use Rattle.cache_entries.specs.declared.Cached.{Cached}
use Rattle.cache_entries.specs.Limits.{max_entries}
use Rattle.cache_entries.specs.Texts.{text_place}
use Rattle.cache_entries.specs.Values.{usable_in, long_v}
use Rattle.cache_report.specs.Block.{Judgement}
use Rattle.cache_report.specs.declared.block.Unfit.TheVariants.{Long, Unusable}
use Rattle.cache_report.specs.Entry.{position_of, with_item, held_at, held_for, text_stored, page_at, page_for, worse, ItemRight, Good}
use Rattle.cache_report.specs.Words.{item_words, judgement_words, judgement_at, judgements_from, alone, alone_all, held_by, page_by, Frame, frame_of, position_in, frame_at, frame_next, has_room, room_from, position_word, positions_from}
use Rattle.cache_report.proofs.EntryLaws.{position-below}
use Rattle.cache_report.proofs.RightLaws.{set-right, set-whole}
use Rattle.cache_report.proofs.JudgementLaws.{rest, rest_all, rest-next, rest-none}
use Rattle.cache_report.proofs.FrameLaws.{frame-position, frame-next}

never : {A : Type 0} → ◌≡◌ {A = ℕ} 0 1 → A
never e = absurd (omega arith)

-- blocks that get 0 each get 0
pub worse-none : (a b : ℕ) → worse a b ≡ 0 → b ≡ 0
unfolding worse
worse-none a b h =
    by-test (eqb a 6) (λ t. never (let z : 6 ≡ 0 = rw t at h in omega (arith, z)))
    (λ f. by-test (eqb b 6) (λ t. never (let z : 6 ≡ 0 = rw (f, t) at h in omega (arith, z)))
    (λ g. by-test (eqb a 7) (λ t. never (let z : 7 ≡ 0 = rw (f, g, t) at h in omega (arith, z))) (λ k. rw (f, g, k) at h)))

pub first-none : (f : Judgement) (b : ℕ) → worse (alone f) b ≡ 0 → alone f ≡ 0
unfolding worse
first-none (Ok x) b h = refl
first-none (Err Long) b h = by-test (eqb b 6) (λ t. never (let z : 6 ≡ 0 = rw t at h in omega (arith, z))) (λ f. never (let z : 7 ≡ 0 = rw f at h in omega (arith, z)))
first-none (Err Unusable) b h = never (let z : 6 ≡ 0 = h in omega (arith, z))

-- a block that gets 0 is taken
pub record Shown (s : List ℕ) (a b p : ℕ) : Type 0 where
  pub first : a < unshown
  pub usable : usable_in s (value_in s p) ≡ true
  pub short : long_v (value_in s p) ≡ false
  pub judgement : judgement_words s a b p ≡ Ok (item_words a b (value_in s p))

pub shown : (s : List ℕ) (a b p : ℕ) → alone (judgement_words s a b p) ≡ 0 → Shown s a b p
unfolding judgement_words
shown s a b p = go (ltb a unshown) (usable_in s v) (long_v v) refl refl refl
  where
    v : Value
    v = value_in s p

    go : (x y z : Bool) → ltb a unshown ≡ x → usable_in s v ≡ y → long_v v ≡ z → alone (pick (ltb a unshown && usable_in s v) (pick (long_v v) (Err Long) (Ok (item_words a b v))) (Err Unusable)) ≡ 0 → Shown s a b p
    go true true false e f g h = record { first = ltb-true _ _ e; usable = f; short = g; judgement = rw (e, f, g) refl }
    go true true true e f g h = never (let z : 7 ≡ 0 = rw (e, f, g) at h in omega (arith, z))
    go true false z e f g h = never (let z : 6 ≡ 0 = rw (e, f) at h in omega (arith, z))
    go false y z e f g h = never (let z : 6 ≡ 0 = rw e at h in omega (arith, z))

-- WHAT HOLDS BEFORE BLOCK j: taking the rest leads where taking all leads, there is room for the rest, and its places are those found
pub record Taking (s words positions : List ℕ) (n : ℕ) (c₀ : Cached) (page₀ : List ℕ) (c : Cached) (page : List ℕ) (j : ℕ) : Type 0 where
  pub good : Good page c
  pub held : held_by c (rest s words n j) ≡ held_by c₀ (judgements_from s words n 0)
  pub paged : page_by s c page (rest s words n j) ≡ page_by s c₀ page₀ (judgements_from s words n 0)
  pub room : room_from words (frame_of c) (n - j) j ≡ true
  pub found : (i : ℕ) → i < n - j → get_or positions (j + i) 0 ≡ get_or (positions_from words (frame_of c) (n - j) j) i 0
  pub none : alone_all (rest s words n j) ≡ 0

-- a block that is to be set at k and i
pub record Next (s : List ℕ) (c : Cached) (k i a b : ℕ) (v : Value) : Type 0 where
  pub first : a < unshown
  pub usable : usable_in s v ≡ true
  pub short : long_v v ≡ false
  pub position : position_of c (item_words a b v) ≡ Some (k, i)

module _ (s words positions : List ℕ) (n : ℕ) where
  pub taking-begins : (c : Cached) (page : List ℕ) → Good page c → alone_all (judgements_from s words n 0) ≡ 0 → room_from words (frame_of c) n 0 ≡ true → ((j : ℕ) → j < n → get_or positions j 0 ≡ get_or (positions_from words (frame_of c) n 0) j 0) → Taking s words positions n c page c page 0
  taking-begins c page good none room found =
      let all : n - 0 ≡ n = omega arith in
      record {
        good = good;
        held = ap (held_by c) (sym (rest_all s words n));
        paged = ap (page_by s c page) (sym (rest_all s words n));
        room = ap (λ (m : ℕ). room_from words (frame_of c) m 0) all ∙ room;
        found = λ i l. ap (λ (k : ℕ). get_or positions k 0) (omega arith) ∙ found i (omega (arith, l)) ∙ ap (λ (m : ℕ). get_or (positions_from words (frame_of c) m 0) i 0) (sym all);
        none = ap alone_all (sym (rest_all s words n)) ∙ none;
      }

  module _ (c₀ : Cached) (page₀ : List ℕ) (c : Cached) (page : List ℕ) (j : ℕ) (t : Taking s words positions n c₀ page₀ c page j) where
    pub taking-done : n ≤ j → (c ≡ held_by c₀ (judgements_from s words n 0)) × (page ≡ page_by s c₀ page₀ (judgements_from s words n 0))
    unfolding held_by page_by
    taking-done l =
        (ap (held_by c) (sym (rest-none s words n j l)) ∙ t.held, ap (page_by s c page) (sym (rest-none s words n j l)) ∙ t.paged)

    module _ (l : j < n) where
      abbrev first : ℕ
      first = block_word words j 0

      abbrev second : ℕ
      second = block_word words j 1

      abbrev v : Value
      v = value_in s (block_word words j 2)

      abbrev after : List Judgement
      after = rest s words n (j + 1)

      abbrev position : Option (ℕ × ℕ)
      position = position_in (frame_of c) first second

      abbrev k : ℕ
      k = get_or positions j 0 / max_entries

      abbrev i : ℕ
      i = get_or positions j 0 % max_entries

      left_over : n - j ≡ suc (n - (j + 1))
      left_over = omega arith

      none_here : worse (alone (judgement_at s words j)) (alone_all after) ≡ 0
      unfolding alone_all
      none_here = ap alone_all (sym (rest-next s words n j l)) ∙ t.none

      here : Shown s first second (block_word words j 2)
      here = shown s first second (block_word words j 2) (first-none (judgement_at s words j) (alone_all after) none_here)

      room-here : (has_room position && room_from words (frame_next words (frame_of c) j) (n - (j + 1)) (j + 1)) ≡ true
      unfolding room_from
      room-here = ap (λ (m : ℕ). room_from words (frame_of c) m j) (sym left_over) ∙ t.room

      found_here : (m : ℕ) → m < n - j → get_or positions (j + m) 0 ≡ get_or (position_word position ∷ positions_from words (frame_next words (frame_of c) j) (n - (j + 1)) (j + 1)) m 0
      unfolding positions_from
      found_here m u = t.found m u ∙ ap (λ (r : ℕ). get_or (positions_from words (frame_of c) r j) m 0) left_over

      -- its place is the one that was found
      position_here : position ≡ Some (k, i)
      position_here = go position refl
        where
          word : get_or positions j 0 ≡ position_word position
          word = ap (λ (m : ℕ). get_or positions m 0) (omega arith) ∙ found_here 0 (omega (arith, l))

          go : (p : (Option (ℕ × ℕ))) → position ≡ p → position ≡ Some (k, i)
          go (Some (m, q)) e =
              let low = position-below c t.good.right.few-clusters t.good.right.few-entries (item_words first second v) m q (sym (frame-position c first second v) ∙ e) in
              let at : get_or positions j 0 ≡ m * max_entries + q = word ∙ ap position_word e in
              let em : m ≡ k = omega (arith, at, low.entry) in
              let eq : q ≡ i = omega (arith, at, low.entry) in
              e ∙ (λ z. Some ((em z), (eq z)))
          go None e = absurd (false≢true (ap has_room (sym e) ∙ left _ _ room-here))

      item-position : position_of c (item_words first second v) ≡ Some (k, i)
      item-position = sym (frame-position c first second v) ∙ position_here

      pub next : (a : ℕ) (w : Value) → a ≡ first → w ≡ v → Next s c k i a second w
      next a w e q =
          subst (λ (a : ℕ). Next s c k i a second w) (sym e) (subst (Next s c k i first second) (sym q) (record { first = here.first; usable = here.usable; short = here.short; position = item-position }))

      -- the entries and the page with it
      held-here : held_for c (judgement_at s words j) ≡ with_item c k i (item_words first second v)
      unfolding held_for
      held-here = ap (held_for c) here.judgement ∙ ap (held_at c (item_words first second v)) item-position

      page-here : page_for s c page (judgement_at s words j) ≡ text_stored s page (text_place c i) v
      unfolding page_for
      page-here = ap (page_for s c page) here.judgement ∙ ap (page_at s c page (item_words first second v)) item-position

      item : second < 2 ^ 64 → ItemRight s (item_words first second v)
      item u = record {
        endpoint = omega (arith, here.first);
        cluster = omega arith;
        attribute = omega (arith, u);
        version = omega arith;
        sized = value-in-sized s (block_word words j 2);
        usable = here.usable;
        short = here.short;
      }

      frame_here : frame_of (with_item c k i (item_words first second v)) ≡ frame_next words (frame_of c) j
      frame_here = frame-next c k i first second v ∙ ap (frame_at (frame_of c) first second) (sym position_here)

      kept : second < 2 ^ 64 → Taking s words positions n c₀ page₀ (with_item c k i (item_words first second v)) (text_stored s page (text_place c i) v) (j + 1)
      unfolding held_by page_by
      kept u =
          record {
            good = record {
              right = set-right s page c (item_words first second v) k i (item u) t.good.right t.good.whole item-position;
              whole = set-whole s page c (item_words first second v) k i (item u) t.good.right t.good.whole item-position;
            };
            held = ap (λ (d : Cached). held_by d after) (sym held-here) ∙ ap (held_by c) (sym (rest-next s words n j l)) ∙ t.held;
            paged = (λ z. page_by s (sym held-here z) (sym page-here z) after) ∙ ap (page_by s c page) (sym (rest-next s words n j l)) ∙ t.paged;
            room = ap (λ (f : Frame). room_from words f (n - (j + 1)) (j + 1)) frame_here ∙ right (has_room position) _ room-here;
            found = λ m u. ap (λ (q : ℕ). get_or positions q 0) (omega arith) ∙ found_here (suc m) (omega (arith, u)) ∙ ap (λ (f : Frame). get_or (positions_from words f (n - (j + 1)) (j + 1)) m 0) (sym frame_here);
            none = worse-none (alone (judgement_at s words j)) (alone_all after) none_here;
          }

      pub taking-next : second < 2 ^ 64 → (a : ℕ) (w : Value) → a ≡ first → w ≡ v → (c' : Cached) (page' : List ℕ) → c' ≡ with_item c k i (item_words a second w) → page' ≡ text_stored s page (text_place c i) w → Taking s words positions n c₀ page₀ c' page' (j + 1)
      taking-next u a w e q c' page' h p =
          let same-c = h ∙ (λ z. with_item c k i (item_words (e z) second (q z))) in
          let same-p = p ∙ ap (text_stored s page (text_place c i)) q in
          subst (λ (d : Cached). Taking s words positions n c₀ page₀ d page' (j + 1)) (sym same-c)
          (subst (λ (y : List ℕ). Taking s words positions n c₀ page₀ (with_item c k i (item_words first second v)) y (j + 1)) (sym same-p) (kept u))
