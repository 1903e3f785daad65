-- A cache's words: what was put is read back, and what was read and put back changes nothing.
use mathlib.Core.Path.{◌≡◌, refl, sym, ap, subst, ◌∙◌}
use mathlib.Core.Bool.{Bool, true, false}
use mathlib.Core.List.{List, [], ◌∷◌}
use Prim.Native.Nat.{ℕ, zero, suc, ◌+◌, ◌^◌, ◌≤◌, ◌<◌}
use native.Mathlib.Omega.{arith}
use borrow.Author.Tests.{leb-true, ltb-true, eqb-true, eqb-false, le-leb, lt-ltb, eq-eqb}
use lib.Dec.{eqb, ltb, leb}
use lib.ListN.{length, get_or, set}
use lib.Seq.{get_or-take, set-get_or, get_or-set_other}
use Rattle.base_octets.specs.Store.{store}
use Rattle.base_octets.proofs.StoreLaws.{store-back}
use Rattle.tlv_reader.specs.Octet.{pick}
use Rattle.node_schema.specs.Rows.{rows_from}
use Rattle.node_schema.proofs.BoolLaws.{left, right, by-test}
use Rattle.cache_state.specs.declared.CacheState.{CacheState}
use Rattle.cache_state.specs.declared.CacheStanding.{CacheStanding}
use Rattle.cache_state.specs.Words.{asked_size, word, standing_in, standing_words, words_right, state_in, standing_of, put_state, Narrow}

-- ---- words stored, one after the other

words_same : (l : List ℕ) (n at : ℕ) → store l at (rows_from (λ i. get_or l i 0) n at) ≡ l
unfolding rows_from store
words_same l zero at = refl
words_same l (suc n) at =
    ap (λ (m : List ℕ). store m (suc at) (rows_from (λ i. get_or l i 0) n (suc at))) (set-get_or l at 0) ∙ words_same l n (suc at)

word-there : (l ws : List ℕ) → length ws ≤ length l → (i : ℕ) → i < length ws → word (store l 0 ws) i ≡ word ws i
word-there l ws h i low =
    sym (get_or-take (length ws) (store l 0 ws) i 0 low) ∙ ap (λ (m : List ℕ). word m i) (store-back l 0 ws (omega arith))

word_after_lem : (l : List ℕ) (at : ℕ) (ws : List ℕ) (i : ℕ) → at + length ws ≤ i → word (store l at ws) i ≡ word l i
unfolding store
word_after_lem l at [] i h = refl
word_after_lem l at (x ∷ ws) i h = word_after_lem (set l at x) (suc at) ws i (omega arith) ∙ get_or-set_other l at i x 0 (λ e. omega arith)

standing-same : (w : List ℕ) → store w 0 (standing_words (standing_in w)) ≡ w
unfolding standing_in standing_words rows_from
standing-same w = words_same w 13 0

standing-back : (w : List ℕ) (t : CacheStanding) → length w ≡ asked_size → standing_in (store w 0 (standing_words t)) ≡ t
unfolding standing_in standing_words
standing-back w t size =
    let there = word-there w (standing_words t) (omega (arith, size)) in
    λ j. record {
      cluster_count = there 0 (omega arith) j;
      count = there 1 (omega arith) j;
      primed = there 2 (omega arith) j;
      used = there 3 (omega arith) j;
      exchange = there 4 (omega arith) j;
      stage = there 5 (omega arith) j;
      turn = there 6 (omega arith) j;
      status = there 7 (omega arith) j;
      endpoint = there 8 (omega arith) j;
      cluster = there 9 (omega arith) j;
      attribute = there 10 (omega arith) j;
      unknown = there 11 (omega arith) j;
      len = there 12 (omega arith) j;
    }

-- ---- what right words say

pub record RightWords (w : List ℕ) : Type 0 where
  pub primed : word w 2 ≤ 1
  pub turn : word w 6 < 2 ^ 16
  pub status : word w 7 < 256
  pub endpoint : word w 8 < 2 ^ 16
  pub cluster : word w 9 < 2 ^ 32
  pub attribute : word w 10 < 2 ^ 32
  pub spare : word w 13 ≡ 0
  pub spare-2 : word w 14 ≡ 0
  pub spare-3 : word w 15 ≡ 0

pub words_right_lem : (w : List ℕ) → words_right w ≡ true → RightWords w
unfolding words_right
words_right_lem w h =
    let a = right (leb (word w 2) 1) _ h in
    let b = right (ltb (word w 6) (2 ^ 16)) _ a in
    let c = right (ltb (word w 7) 256) _ b in
    let d = right (ltb (word w 8) (2 ^ 16)) _ c in
    let e = right (ltb (word w 9) (2 ^ 32)) _ d in
    let f = right (ltb (word w 10) (2 ^ 32)) _ e in
    let g = right (eqb (word w 13) 0) _ f in
    record {
      primed = leb-true _ _ (left _ _ h);
      turn = ltb-true _ _ (left _ _ a);
      status = ltb-true _ _ (left _ _ b);
      endpoint = ltb-true _ _ (left _ _ c);
      cluster = ltb-true _ _ (left _ _ d);
      attribute = ltb-true _ _ (left _ _ e);
      spare = eqb-true _ _ (left _ _ f);
      spare-2 = eqb-true _ _ (left _ _ g);
      spare-3 = eqb-true _ _ (right (eqb (word w 14) 0) _ g);
    }

pub right-words : (w : List ℕ) → RightWords w → words_right w ≡ true
unfolding words_right
right-words w r =
    rw (
      le-leb (word w 2) 1 r.primed,
      lt-ltb (word w 6) (2 ^ 16) r.turn,
      lt-ltb (word w 7) 256 r.status,
      lt-ltb (word w 8) (2 ^ 16) r.endpoint,
      lt-ltb (word w 9) (2 ^ 32) r.cluster,
      lt-ltb (word w 10) (2 ^ 32) r.attribute,
      eq-eqb (word w 13) 0 r.spare,
      eq-eqb (word w 14) 0 r.spare-2,
      eq-eqb (word w 15) 0 r.spare-3,
    )

-- ---- the mark of a cache that is primed

pub mark-same : (p : ℕ) → p ≤ 1 → pick (eqb p 1) 1 0 ≡ p
mark-same p h =
    by-test (eqb p 1) (λ t. rw t (sym (eqb-true p 1 t))) (λ t. rw t (let n = eqb-false p 1 t in omega arith))

mark-back : (b : Bool) → eqb (pick b 1 0) 1 ≡ b
mark-back true = refl
mark-back false = refl

mark-low : (b : Bool) → pick b 1 0 ≤ 1
mark-low true = omega arith
mark-low false = omega arith

-- ---- A STATE in its words

-- the words of a cache say its state
pub standing-read : (clusters keys versions kinds words order lengths asked kept : List ℕ) → words_right asked ≡ true → standing_of (state_in clusters keys versions kinds words order lengths asked kept) ≡ standing_in asked
unfolding standing_in
standing-read clusters keys versions kinds words order lengths asked kept h =
    let t = standing_in asked in
    λ j. record {
      cluster_count = t.cluster_count;
      count = t.count;
      primed = mark-same (word asked 2) (words_right_lem asked h).primed j;
      used = t.used;
      exchange = t.exchange;
      stage = t.stage;
      turn = t.turn;
      status = t.status;
      endpoint = t.endpoint;
      cluster = t.cluster;
      attribute = t.attribute;
      unknown = t.unknown;
      len = t.len;
    }

-- WHAT WAS READ, PUT BACK, CHANGES NOTHING
pub state-same : (clusters keys versions kinds words order lengths asked kept : List ℕ) → put_state asked (state_in clusters keys versions kinds words order lengths asked kept) ≡ asked
unfolding put_state
state-same clusters keys versions kinds words order lengths asked kept =
    by-test (words_right asked)
    (λ t. rw t (ap (λ (u : CacheStanding). store asked 0 (standing_words u)) (standing-read clusters keys versions kinds words order lengths asked kept t) ∙ standing-same asked))
    (λ t. rw t refl)

module _ (asked : List ℕ) (h : words_right asked ≡ true) where
  -- as the code puts it
  pub put_as : (s : CacheState) {t : CacheStanding} {new : List ℕ} → t ≡ standing_of s → new ≡ store asked 0 (standing_words t) → new ≡ put_state asked s
  unfolding put_state
  put_as s e n = rw h (n ∙ ap (λ (u : CacheStanding). store asked 0 (standing_words u)) e)

  module _ (size : length asked ≡ asked_size) (s : CacheState) where
    put-read : standing_in (put_state asked s) ≡ standing_of s
    unfolding put_state
    put-read = rw h (standing-back asked (standing_of s) size)

    -- WHAT WAS PUT IS READ BACK
    pub state-back : let c = s.held in state_in c.clusters c.keys c.versions c.kinds c.words c.order c.lengths (put_state asked s) s.asked.kept ≡ s
    state-back =
        let c = s.held in
        λ j. record {
          held = record {
            clusters = c.clusters;
            cluster_count = (put-read j).cluster_count;
            keys = c.keys;
            versions = c.versions;
            kinds = c.kinds;
            words = c.words;
            count = (put-read j).count;
            order = c.order;
            lengths = c.lengths;
            primed = (ap (λ (t : CacheStanding). eqb t.primed 1) put-read ∙ mark-back c.primed) j;
          };
          asked = record {
            used = (put-read j).used;
            exchange = (put-read j).exchange;
            stage = (put-read j).stage;
            turn = (put-read j).turn;
            status = (put-read j).status;
            endpoint = (put-read j).endpoint;
            cluster = (put-read j).cluster;
            attribute = (put-read j).attribute;
            unknown = (put-read j).unknown;
            kept = s.asked.kept;
            len = (put-read j).len;
          };
        }

    -- words that hold a state with numbers in their widths are right again
    pub still-right : Narrow s → words_right (put_state asked s) ≡ true
    unfolding standing_in standing_words put_state
    still-right n =
        let r = words_right_lem asked h in
        let p = put-read in
        let rest : (i : ℕ) → 13 ≤ i → word (put_state asked s) i ≡ word asked i = λ i l. rw h (word_after_lem asked 0 (standing_words (standing_of s)) i (omega arith)) in
        right-words (put_state asked s) (record {
          primed = subst (λ (x : ℕ). x ≤ 1) (sym (ap (λ (t : CacheStanding). t.primed) p)) (mark-low s.held.primed);
          turn = subst (λ (x : ℕ). x < 2 ^ 16) (sym (ap (λ (t : CacheStanding). t.turn) p)) n.turn;
          status = subst (λ (x : ℕ). x < 256) (sym (ap (λ (t : CacheStanding). t.status) p)) n.status;
          endpoint = subst (λ (x : ℕ). x < 2 ^ 16) (sym (ap (λ (t : CacheStanding). t.endpoint) p)) n.endpoint;
          cluster = subst (λ (x : ℕ). x < 2 ^ 32) (sym (ap (λ (t : CacheStanding). t.cluster) p)) n.cluster;
          attribute = subst (λ (x : ℕ). x < 2 ^ 32) (sym (ap (λ (t : CacheStanding). t.attribute) p)) n.attribute;
          spare = rest 13 (omega arith) ∙ r.spare;
          spare-2 = rest 14 (omega arith) ∙ r.spare-2;
          spare-3 = rest 15 (omega arith) ∙ r.spare-3;
        })
