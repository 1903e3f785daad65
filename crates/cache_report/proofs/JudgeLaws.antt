-- THE NUMBER OF A PART: 6 or 7 where a block gets it by itself, else 7 where there is no room for all.
use Rattle.std.specs.Prelude.{Some, None, Option, Ok, Err}
use mathlib.Core.Path.{◌≡◌, refl, sym, ap, ◌∙◌}
use mathlib.Core.Bool.{◌&&◌}
use mathlib.Core.List.{List, [], ◌∷◌}
use Prim.Native.Nat.{ℕ, zero, suc, ◌+◌, ◌≤◌, ◌<◌}
use native.Mathlib.Omega.{arith}
use borrow.Author.Tests.{eqb-true, eqb-false}
use lib.Dec.{eqb}
use lib.ListN.{length, get_or}
use lib.Seq.{get_or-take}
use Rattle.base_octets.specs.Store.{store}
use Rattle.base_octets.proofs.StoreLaws.{store-back}
use Rattle.tlv_reader.specs.declared.Value.{Value}
use Rattle.tlv_reader.specs.Octet.{pick}
use Rattle.tlv_reader.specs.Value.{value_in}
use Rattle.node_schema.proofs.BoolLaws.{by-test}
use Rattle.im_responses.specs.Kept.{block_word}
use Rattle.cache_entries.specs.declared.Cached.{Cached}
use Rattle.cache_report.specs.declared.block.NewEntry.{NewEntry}
use Rattle.cache_report.specs.Block.{Judgement}
use Rattle.cache_report.specs.declared.block.Unfit.TheVariants.{Long, Unusable}
use Rattle.cache_report.specs.Entry.{position_of, position_number, with_item, held_at, held_for, number_for, worse}
use Rattle.cache_report.specs.Words.{item_words, judgement_at, judgements_from, alone, alone_all, judged_by, Frame, frame_of, frame_at, frame_next, position_in, has_room, room_from, positions_from}
use Rattle.cache_report.proofs.JudgementLaws.{Mild, mild-none, mild-room, along-starts}
use Rattle.cache_report.proofs.FrameLaws.{frame-position, frame-next}
use Rattle.cache_report.proofs.TakeLaws.{Shown, shown, first-none, worse-none}

abbrev after : ℕ → Cached → List Judgement → ℕ
after m c l = (judged_by (record { number = m; held = c }) l).number

abbrev next : ℕ → Cached → Judgement → ℕ
next m c f = worse m (number_for c f)

-- 6 stays
stays-six : (c : Cached) (l : List Judgement) → after 6 c l ≡ 6
unfolding judged_by worse
stays-six c [] = refl
stays-six c (f ∷ l) = stays-six (held_for c f) l

six-of : (b : ℕ) → worse 6 b ≡ 6
unfolding worse
six-of b = refl

-- blocks with one more that is taken by itself
taken-rest : {a : ℕ} (l : List Judgement) → worse 0 (alone_all l) ≡ a → alone_all l ≡ a
unfolding worse
taken-rest {a} l h = by-test (eqb (alone_all l) 6) (λ t. eqb-true (alone_all l) 6 t ∙ (rw t at h)) (λ f. rw f at h)

six-last : (m : ℕ) → worse m 6 ≡ 6
unfolding worse
six-last m = by-test (eqb m 6) (λ t. rw t refl) (λ f. rw f refl)

-- 6 of all is one block's, or the rest's
six-first : (f : Judgement) (l : List Judgement) → alone_all (f ∷ l) ≡ 6 → (alone f ≡ 6 → ⊥) → alone_all l ≡ 6
unfolding alone_all worse
six-first (Ok x) l h n = by-test (eqb (alone_all l) 6) (λ t. eqb-true (alone_all l) 6 t) (λ f. rw f at h)
six-first (Err Long) l h n = by-test (eqb (alone_all l) 6) (λ t. eqb-true (alone_all l) 6 t) (λ f. absurd (let z : 7 ≡ 6 = rw f at h in omega (arith, z)))
six-first (Err Unusable) l h n = absurd (n refl)

-- A BLOCK THAT GETS 6
pub judged-six : (l : List Judgement) (m : ℕ) (c : Cached) → alone_all l ≡ 6 → after m c l ≡ 6
unfolding judged_by number_for alone_all
judged-six [] m c h = absurd (let z : 0 ≡ 6 = h in omega (arith, z))
judged-six (Err Unusable ∷ l) m c h = ap (λ (k : ℕ). after k (held_for c (Err Unusable)) l) (six-last m) ∙ stays-six (held_for c (Err Unusable)) l
judged-six (Err Long ∷ l) m c h = judged-six l (next m c (Err Long)) (held_for c (Err Long)) (six-first (Err Long) l h (λ e. omega (arith, e)))
judged-six (Ok x ∷ l) m c h = judged-six l (next m c (Ok x)) (held_for c (Ok x)) (six-first (Ok x) l h (λ e. omega (arith, e)))

-- 7 stays, unless a block gets 6
no_six : (f : Judgement) (l : List Judgement) → (alone_all (f ∷ l) ≡ 6 → ⊥) → (alone f ≡ 6 → ⊥) × (alone_all l ≡ 6 → ⊥)
unfolding alone_all
no_six f l h = ((λ e. h (ap (λ (a : ℕ). worse a (alone_all l)) e ∙ six-of (alone_all l))), (λ e. h (ap (worse (alone f)) e ∙ six-last (alone f))))

stays-seven : (c : Cached) (l : List Judgement) → (alone_all l ≡ 6 → ⊥) → after 7 c l ≡ 7
unfolding judged_by number_for worse
stays-seven c [] h = refl
stays-seven c (Err Unusable ∷ l) h = absurd ((no_six (Err Unusable) l h).0 refl)
stays-seven c (Err Long ∷ l) h = stays-seven (held_for c (Err Long)) l (no_six (Err Long) l h).1
stays-seven c (Ok x ∷ l) h = go (position_of c x) (stays-seven (held_for c (Ok x)) l (no_six (Ok x) l h).1)
  where
    go : (s : (Option (ℕ × ℕ))) → after 7 (held_for c (Ok x)) l ≡ 7 → after (worse 7 (position_number s)) (held_for c (Ok x)) l ≡ 7
    go (Some (k, i)) e = e
    go None e = e

-- A BLOCK THAT GETS 7, and none 6
pub judged-seven : (l : List Judgement) (m : ℕ) → Mild m → (c : Cached) → alone_all l ≡ 7 → after m c l ≡ 7
unfolding judged_by number_for alone_all
judged-seven [] m mild c h = absurd (let z : 0 ≡ 7 = h in omega (arith, z))
judged-seven (Err Unusable ∷ l) m mild c h = absurd (let z : 6 ≡ 7 = sym (six-of (alone_all l)) ∙ h in omega (arith, z))
judged-seven (Err Long ∷ l) m mild c h =
    ap (λ (k : ℕ). after k (held_for c (Err Long)) l) mild.seven
    ∙ stays-seven (held_for c (Err Long)) l (λ e. absurd (let z : 6 ≡ 7 = sym (six-last 7) ∙ ap (worse 7) (sym e) ∙ h in omega (arith, z)))
judged-seven (Ok x ∷ l) m mild c h = go (position_of c x) (λ k u. judged-seven l k u (held_for c (Ok x)) (taken-rest l h))
  where
    go : (s : (Option (ℕ × ℕ))) → ((k : ℕ) → Mild k → after k (held_for c (Ok x)) l ≡ 7) → after (worse m (position_number s)) (held_for c (Ok x)) l ≡ 7
    go (Some (k, i)) e = ap (λ (a : ℕ). after a (held_for c (Ok x)) l) mild.same ∙ e m mild
    go None e = ap (λ (a : ℕ). after a (held_for c (Ok x)) l) mild.seven ∙ e 7 mild-room

-- ALL TAKEN BY THEMSELVES: 0 exactly if there is room for all
module _ (s words : List ℕ) where
  pub judged-room : (n j : ℕ) (c : Cached) → alone_all (judgements_from s words n j) ≡ 0 → after 0 c (judgements_from s words n j) ≡ pick (room_from words (frame_of c) n j) 0 7
  unfolding judged_by judgements_from room_from alone_all number_for held_for
  judged-room zero j c h = refl
  judged-room (suc n) j c h =
      ap (λ (f : Judgement). (judged_by (record { number = next 0 c f; held = held_for c f }) (judgements_from s words n (j + 1))).number) w.judgement
      ∙ go (position_of c x) refl (λ d. judged-room n (j + 1) d rest)
    where
      a : ℕ
      a = block_word words j 0

      b : ℕ
      b = block_word words j 1

      v : Value
      v = value_in s (block_word words j 2)

      x : NewEntry
      x = item_words a b v

      w : Shown s a b (block_word words j 2)
      w = shown s a b (block_word words j 2) (first-none (judgement_at s words j) (alone_all (judgements_from s words n (j + 1))) h)

      rest : alone_all (judgements_from s words n (j + 1)) ≡ 0
      rest = worse-none (alone (judgement_at s words j)) (alone_all (judgements_from s words n (j + 1))) h

      not-six : alone_all (judgements_from s words n (j + 1)) ≡ 6 → ⊥
      not-six e = omega (arith, e, rest)

      go : (p : (Option (ℕ × ℕ))) → position_of c x ≡ p → ((d : Cached) → after 0 d (judgements_from s words n (j + 1)) ≡ pick (room_from words (frame_of d) n (j + 1)) 0 7) → after (worse 0 (position_number (position_of c x))) (held_at c x (position_of c x)) (judgements_from s words n (j + 1)) ≡ pick (has_room (position_in (frame_of c) a b) && room_from words (frame_at (frame_of c) a b (position_in (frame_of c) a b)) n (j + 1)) 0 7
      go (Some (k, i)) e next-room =
          let q : position_in (frame_of c) a b ≡ Some (k, i) = frame-position c a b v ∙ e in
          rw (e, q) (ap (λ (m : ℕ). after m (with_item c k i x) (judgements_from s words n (j + 1))) mild-none.same ∙ next-room (with_item c k i x) ∙ ap (λ (f : Frame). pick (room_from words f n (j + 1)) 0 7) (frame-next c k i a b v))
      go None e next-room =
          let q : position_in (frame_of c) a b ≡ None = frame-position c a b v ∙ e in
          rw (e, q) (ap (λ (m : ℕ). after m c (judgements_from s words n (j + 1))) mild-none.seven ∙ stays-seven c (judgements_from s words n (j + 1)) not-six)

-- by themselves blocks get 0, 6 or 7
alone-three : (l : List Judgement) → (alone_all l ≡ 6 → ⊥) → (alone_all l ≡ 7 → ⊥) → alone_all l ≡ 0
unfolding alone_all worse
alone-three [] p q = refl
alone-three (Ok x ∷ l) p q = let e : alone_all (Ok x ∷ l) ≡ alone_all l = sym (along-starts l) in e ∙ alone-three l (λ z. p (e ∙ z)) (λ z. q (e ∙ z))
alone-three (Err Long ∷ l) p q = by-test (eqb (alone_all l) 6) (λ t. absurd (p (rw t refl))) (λ f. absurd (q (rw f refl)))
alone-three (Err Unusable ∷ l) p q = absurd (p refl)

-- what they get by themselves, if it is not 0, they get
pub judged-alone : (l : List Judgement) (c : Cached) → (alone_all l ≡ 0 → ⊥) → alone_all l ≡ after 0 c l
judged-alone l c some = by-test (eqb (alone_all l) 6) (λ t. let e = eqb-true (alone_all l) 6 t in e ∙ sym (judged-six l 0 c e))
    (λ f. by-test (eqb (alone_all l) 7) (λ t. let e = eqb-true (alone_all l) 7 t in e ∙ sym (judged-seven l 0 mild-none c e))
    (λ g. absurd (some (alone-three l (eqb-false (alone_all l) 6 f) (eqb-false (alone_all l) 7 g)))))

-- the places stored are read back
positions-count : (words : List ℕ) (f : Frame) (n j : ℕ) → length (positions_from words f n j) ≡ n
unfolding positions_from
positions-count words f zero j = refl
positions-count words f (suc n) j = ap suc (positions-count words (frame_next words f j) n (j + 1))

pub positions-back : (words old : List ℕ) (f : Frame) (n : ℕ) → n ≤ length old → (j : ℕ) → j < n → get_or (store old 0 (positions_from words f n 0)) j 0 ≡ get_or (positions_from words f n 0) j 0
positions-back words old f n room j l =
    let ws : List ℕ = positions_from words f n 0 in
    let count = positions-count words f n 0 in
    sym (get_or-take (length ws) (store old 0 ws) j 0 (omega (arith, count, l))) ∙ ap (λ (m : List ℕ). get_or m j 0) (store-back old 0 ws (omega (arith, count, room)))
