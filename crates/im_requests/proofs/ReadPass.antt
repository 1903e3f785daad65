-- The Read Request in one pass: what its code goes on with, whichever list comes first.
use Rattle.std.specs.Prelude.{Some, None, Option}
use mathlib.Core.Path.{◌≡◌, refl, sym, ap, ◌∙◌}
use mathlib.Core.Bool.{Bool, true, false}
use mathlib.Core.List.{List, [], ◌∷◌, map}
use Prim.Native.Nat.{ℕ, zero, suc, ◌+◌, ◌-◌, ◌<◌, ◌≤◌}
use native.Mathlib.Omega.{arith}
use borrow.Author.Tests.{eqb-true, eqb-false, ltb-true, ltb-false}
use lib.ListN.{length, get_or, replicate}
use lib.Dec.{ltb, eqb}
use Rattle.base_bounds.specs.Bounds.{path_limit, filter_limit}
use Rattle.base_octets.specs.Store.{store}
use Rattle.tlv_reader.specs.Octet.{pick, structure}
use Rattle.tlv_reader.specs.Walk.{Got}
use Rattle.tlv_reader.specs.Walk.Got.{got, bad}
use Rattle.tlv_reader.specs.Decode.{bind_o}
use Rattle.im_members.specs.Array.{optional_in}
use Rattle.im_members.specs.Scalar.{number_in, flag_in}
use Rattle.im_members.specs.Pass.{Pass, pass_with, no_pass, pass_from, code_in, number_by, flag_by}
use Rattle.im_members.proofs.ArrayLaws.{optional-none}
use Rattle.im_members.proofs.PassLaws.{Left, frame-none, number-coded, flag-coded, Reads, nowhere, none_true, only-first, nest-on, nest-no-option, nest-option, nest-there}
use Rattle.im_requests.specs.Message.{given, list_at, list_on, structure_at, open_pass, whole_pass, words_of, Kept, kept_as, ListRead, list_read}
use Rattle.im_requests.specs.Read.{Read, target_size, target_words, asked_at, asked_on, version_filter_size, version_filter_words, version_filter_at, version_filter_on, PassKept, found_on, pass_paths, pass_version_filters, read_tags, read_of, read_from, read_in, read_kept, readable, read_by}
use Rattle.im_requests.specs.declared.Target.{Target}
use Rattle.im_requests.specs.declared.VersionFilter.{VersionFilter}
use Rattle.im_requests.specs.Lists.{asked-reads, version-filter-reads}
use Rattle.im_requests.proofs.PassLaws.{list-reads, opened, whole-bad, whole-refused, whole-passed}

-- ---- the lists by their heads

paths-reads : (s : List ℕ) → Reads 9 s (list_at asked_at 9 s) (list_on asked_at 9 s)
paths-reads s = list-reads asked_at (asked_on 8 s) 8 s (asked-reads 8 s)

version-filters-reads : (s : List ℕ) → Reads 9 s (list_at version_filter_at 9 s) (list_on version_filter_at 9 s)
version-filters-reads s = list-reads version_filter_at (version_filter_on 8 s) 8 s (version-filter-reads 8 s)

clash : true ≡ false → ⊥
clash e = let z : ◌≡◌ {A = ℕ} 1 0 = ap (λ (b : Bool). pick b 1 0) e in omega arith

-- a list that can't be read makes no request
lacks-paths : (s xs : List ℕ) → optional_in [] (list_at asked_at 9 s) (get_or xs 0 0) ≡ None → read_from s xs ≡ None
unfolding read_from
lacks-paths s xs e = rw e (go (given (flag_in s (get_or xs 3 0))) (given (number_in 255 false s (get_or xs 9 0))))
  where
    go : (a b : Bool) → ◌≡◌ {A = Option Read} (pick a (pick b None None) None) None
    go false b = refl
    go true false = refl
    go true true = refl

lacks-version-filters : (s xs : List ℕ) → optional_in [] (list_at version_filter_at 9 s) (get_or xs 4 0) ≡ None → read_from s xs ≡ None
unfolding read_from
lacks-version-filters s xs e = rw e (go (given (flag_in s (get_or xs 3 0))) (given (number_in 255 false s (get_or xs 9 0))) (optional_in [] (list_at asked_at 9 s) (get_or xs 0 0)))
  where
    go : (a b : Bool) (ps : Option (List Target)) → ◌≡◌ {A = Option Read} (pick a (pick b (bind_o {B = Read} ps (λ p. None)) None) None) None
    go false b ps = refl
    go true false ps = refl
    go true true None = refl
    go true true (Some p) = refl

-- ---- a request so far: what its pass says, and the lists that were read at its stops; at a stop, its stage says where

abbrev PathsIn : List ℕ → Pass → Option (List Target)
PathsIn s m = optional_in [] (list_at asked_at 9 s) (get_or m.at 0 0)

abbrev VersionFiltersIn : List ℕ → Pass → Option (List VersionFilter)
VersionFiltersIn s m = optional_in [] (list_at version_filter_at 9 s) (get_or m.at 4 0)

-- the lists as they are kept, over what their words held before
module _ (old old' : List ℕ) where
  abbrev KeptPaths : List Target → Kept
  KeptPaths l = kept_as path_limit target_words old l

  abbrev KeptVersionFilters : List VersionFilter → Kept
  KeptVersionFilters l = kept_as filter_limit version_filter_words old' l

  none_kept : {A : Type 0} (enc : A → List ℕ) (n : ℕ) (words : List ℕ) → record { count = 0; words = words } ≡ kept_as (suc n) enc words []
  unfolding store words_of
  none_kept enc n words = refl

  pub record ReadTo (s : List ℕ) (Stage : Pass → Type 0) (m : Pass) (ps fs : Kept) : Type 0 where
    pub lost : m.good ≡ false → read_in s ≡ None
    pub sound : m.slot < 10 → m.good ≡ true
    pub stops : List Bool
    pub before : List ℕ
    pub left : m.good ≡ true → Left 9 s structure read_tags stops before (structure_at read_tags s) m
    pub paths : m.good ≡ true → (m.slot ≡ 0 → ⊥) → (l : List Target) × (PathsIn s m ≡ Some l) × (ps ≡ KeptPaths l)
    pub wants : m.good ≡ true → (m.slot ≡ 4 → ⊥) → (l : List VersionFilter) × (VersionFiltersIn s m ≡ Some l) × (fs ≡ KeptVersionFilters l)
    pub stage : m.slot < 10 → Stage m
    pub fresh : m.slot ≡ 0 → ps.words ≡ old

  -- the pass that goes on, after the list at its stop was read
  abbrev After : List ℕ → List Bool → Pass → Pass → Type 0
  After s further m z = Left 9 s structure read_tags further m.at (structure_at read_tags s) z

  module _ (s : List ℕ) {Stage Stage' : Pass → Type 0} (m : Pass) (ps fs : Kept) (R : ReadTo s Stage m ps fs) (further : List Bool) where
    paths-step : ((m.slot ≡ 0 → ⊥) → Stage m → Stage' m) → (m.slot ≡ 0 → Stage m → (z : Pass) → After s further m z → z.slot < 10 → Stage' z) → (m.slot ≡ 0 → Stage m → (z : Pass) → After s further m z → z.good ≡ true → (z.slot ≡ 4 → ⊥) → get_or z.at 4 0 ≡ get_or m.at 4 0) → let x = pass_paths s further m ps in ReadTo s Stage' x.pass x.kept fs
    unfolding pass_paths read_in
    paths-step skips goes keeps = go (eqb m.slot 0) refl (list_on asked_at 9 s m.head) refl
      where
        go : (b : Bool) → eqb m.slot 0 ≡ b → (g : Got (List Target)) → list_on asked_at 9 s m.head ≡ g → let x = pick b (found_on (pass_from 9 s structure read_tags further m.at m.codes) (list_read path_limit target_size target_words ps.words g)) (record { pass = m; kept = ps }) in ReadTo s Stage' x.pass x.kept fs
        go false e g w = record { lost = R.lost; sound = R.sound; stops = R.stops; before = R.before; left = R.left; paths = R.paths; wants = R.wants; stage = λ l. skips (eqb-false _ 0 e) (R.stage l); fresh = R.fresh }
        go true e bad w =
            let i = eqb-true m.slot 0 e in
            let l : m.slot < 10 = omega arith in
            record { lost = λ g. whole-refused read_tags (read_from s) s (nest-no-option (R.left (R.sound l)) i l (paths-reads s) (read_from s) w [] (lacks-paths s)); sound = λ l. absurd (omega arith); stops = []; before = []; left = λ g. absurd (clash (sym g)); paths = λ g. absurd (clash (sym g)); wants = λ g. absurd (clash (sym g)); stage = λ l. absurd (omega arith); fresh = λ j. absurd (omega (arith, j)) }
        go true e (got x n) w =
            let i = eqb-true m.slot 0 e in
            let l : m.slot < 10 = omega arith in
            let L = R.left (R.sound l) in
            let z = pass_from 9 s structure read_tags further m.at m.codes n in
            let N : After s further m z = nest-on L i l (paths-reads s) w further refl in
            record {
              lost = λ g. whole-refused read_tags (read_from s) s (frame-none (read_from s) N g);
              sound = λ k. (N.stopped k).sound;
              stops = further;
              before = m.at;
              left = λ g. N;
              paths = λ g k. (x, nest-option L i l (paths-reads s) w further refl [] g, ap (λ (o : List ℕ). kept_as path_limit target_words o x) (R.fresh i));
              wants = λ g k. (let f = R.wants (R.sound l) (λ y. omega arith) in (f.0, ap (optional_in [] (list_at version_filter_at 9 s)) (keeps i (R.stage l) z N g k) ∙ f.1, f.2));
              stage = λ k. goes i (R.stage l) z N k;
              fresh = λ j. absurd (twice N j i _ (L.stopped l).placed);
            }
          where
            -- it does not stop at the paths again
            twice : {z : Pass} → After s further m z → z.slot ≡ 0 → m.slot ≡ 0 → (p : ℕ) → get_or m.at m.slot 0 ≡ p + 1 → ⊥
            twice N j i p q = let f = N.free (omega (arith, j)) in let o = rw j at f in let y = rw i at q in omega (arith, o, y)

  module _ (s : List ℕ) {Stage Stage' : Pass → Type 0} (m : Pass) (ps : Kept) (R : ReadTo s Stage m ps (record { count = 0; words = old' })) (further : List Bool) where
    version-filters-step : ((m.slot ≡ 4 → ⊥) → Stage m → Stage' m) → ((z : Pass) → After s further m z → (z.good ≡ true → get_or z.at 4 0 ≡ 0 → ⊥) → z.slot < 10 → Stage' z) → ((z : Pass) → After s further m z → z.good ≡ true → (z.slot ≡ 0 → ⊥) → get_or z.at 0 0 ≡ get_or m.at 0 0) → let x = pass_version_filters s further m (record { count = 0; words = old' }) in ReadTo s Stage' x.pass ps x.kept
    unfolding pass_version_filters read_in store words_of
    version-filters-step skips goes keeps = go (eqb m.slot 4) refl (list_on version_filter_at 9 s m.head) refl
      where
        go : (b : Bool) → eqb m.slot 4 ≡ b → (g : Got (List VersionFilter)) → list_on version_filter_at 9 s m.head ≡ g → let x = pick b (found_on (pass_from 9 s structure read_tags further m.at m.codes) (list_read filter_limit version_filter_size version_filter_words old' g)) (record { pass = m; kept = record { count = 0; words = old' } }) in ReadTo s Stage' x.pass ps x.kept
        go false e g w = record { lost = R.lost; sound = R.sound; stops = R.stops; before = R.before; left = R.left; paths = R.paths; wants = R.wants; stage = λ l. skips (eqb-false _ 4 e) (R.stage l); fresh = R.fresh }
        go true e bad w =
            let i = eqb-true m.slot 4 e in
            let l : m.slot < 10 = omega arith in
            record { lost = λ g. whole-refused read_tags (read_from s) s (nest-no-option (R.left (R.sound l)) i l (version-filters-reads s) (read_from s) w [] (lacks-version-filters s)); sound = λ l. absurd (omega arith); stops = []; before = []; left = λ g. absurd (clash (sym g)); paths = λ g. absurd (clash (sym g)); wants = λ g. absurd (clash (sym g)); stage = λ l. absurd (omega arith); fresh = λ j. absurd (omega (arith, j)) }
        go true e (got x n) w =
            let i = eqb-true m.slot 4 e in
            let l : m.slot < 10 = omega arith in
            let L = R.left (R.sound l) in
            let z = pass_from 9 s structure read_tags further m.at m.codes n in
            let N : After s further m z = nest-on L i l (version-filters-reads s) w further refl in
            record {
              lost = λ g. whole-refused read_tags (read_from s) s (frame-none (read_from s) N g);
              sound = λ k. (N.stopped k).sound;
              stops = further;
              before = m.at;
              left = λ g. N;
              paths = λ g k. (let f = R.paths (R.sound l) (λ y. omega arith) in (f.0, ap (optional_in [] (list_at asked_at 9 s)) (keeps z N g k) ∙ f.1, f.2));
              wants = λ g k. (x, nest-option L i l (version-filters-reads s) w further refl [] g, refl);
              stage = λ k. goes z N (λ g. nest-there L i l (version-filters-reads s) w further refl g) k;
              fresh = λ j. (let f = R.paths (R.sound l) (λ y. omega arith) in unread N j f.0 f.1 f.2);
            }
          where
            -- where it stops at the paths, none were read before
            unread : {z : Pass} → After s further m z → z.slot ≡ 0 → (p : List Target) → PathsIn s m ≡ Some p → ps ≡ KeptPaths p → ps.words ≡ old
            unread N j p q k =
                let f = N.free (omega (arith, j)) in
                let o : get_or m.at 0 0 ≡ 0 = rw j at f in
                empty p (sym (optional-none [] (list_at asked_at 9 s) (get_or m.at 0 0) o) ∙ q) k
              where
                empty : (p : List Target) → Some [] ≡ Some p → ps ≡ KeptPaths p → ps.words ≡ old
                empty [] e k = ap (λ (y : Kept). y.words) k
                empty (x ∷ p) e k = absurd (let y : ◌≡◌ {A = List Target} [] (x ∷ p) = cc in let h : 0 ≡ length (x ∷ p) = ap length y in omega (arith, h))

-- ---- the three steps: at first it stops at either list; then, where it has not stopped at the paths, at the filters; then at the paths,
-- where the filters were read; then nowhere

abbrev either_list : List Bool
either_list = true ∷ false ∷ false ∷ false ∷ true ∷ replicate 5 false

abbrev only_paths : List Bool
only_paths = true ∷ replicate 9 false

abbrev only_filters : List Bool
only_filters = false ∷ false ∷ false ∷ false ∷ true ∷ replicate 5 false

either : (j : ℕ) → get_or either_list j false ≡ true → (j ≡ 0 → ⊥) → j ≡ 4
either zero e n = absurd (n refl)
either (suc zero) e n = absurd (clash (sym e))
either (suc (suc zero)) e n = absurd (clash (sym e))
either (suc (suc (suc zero))) e n = absurd (clash (sym e))
either (suc (suc (suc (suc zero)))) e n = refl
either (suc (suc (suc (suc (suc j))))) e n = absurd (none_true 5 j e)

fifth : (j : ℕ) → get_or only_filters j false ≡ true → j ≡ 4
fifth zero e = absurd (clash (sym e))
fifth (suc j) e = either (suc j) e (λ y. omega arith)

abbrev First : Pass → Type 0
First m = (m.slot ≡ 0 → ⊥) → m.slot ≡ 4

abbrev Second : Pass → Type 0
Second m = m.slot ≡ 4

abbrev Third : Pass → Type 0
Third m = (m.slot ≡ 0) × (get_or m.at 4 0 ≡ 0 → ⊥)

abbrev Done : Pass → Type 0
Done m = ⊥

module _ (old old' : List ℕ) where
  read_opened : {s : List ℕ} {m : Pass} → m ≡ open_pass read_tags either_list s → ReadTo old old' s First m (record { count = 0; words = old }) (record { count = 0; words = old' })
  unfolding read_in
  read_opened {s} {m} e = let L = opened e in record {
    lost = λ g. whole-refused read_tags (read_from s) s (frame-none (read_from s) L g);
    sound = λ l. (L.stopped l).sound;
    stops = either_list;
    before = replicate 10 0;
    left = λ g. L;
    paths = λ g k. ([], optional-none [] (list_at asked_at 9 s) (get_or m.at 0 0) (L.passed g 0 refl k), none_kept old old' target_words 15 old);
    wants = λ g k. ([], optional-none [] (list_at version_filter_at 9 s) (get_or m.at 4 0) (L.passed g 4 refl k), none_kept old old' version_filter_words 31 old');
    stage = λ l n. either m.slot (L.stopped l).wanted n;
    fresh = λ j. refl;
  }

-- ---- at the end

from : (s xs ks : List ℕ) → ks ≡ map (code_in s) xs → {p : List Target} {f : List VersionFilter} → optional_in [] (list_at asked_at 9 s) (get_or xs 0 0) ≡ Some p → optional_in [] (list_at version_filter_at 9 s) (get_or xs 4 0) ≡ Some f → read_from s xs ≡ read_of (flag_by (get_or ks 3 0)) (number_by 255 false (get_or ks 9 0)) (Some p) (Some f)
unfolding read_from
from s xs ks k a b = rw (a, b, ← (flag-coded s ks xs k 3 refl), ← (number-coded s ks xs k 9 255 false (omega arith) refl)) refl

module _ (old old' : List ℕ) where
  read-ended : {s : List ℕ} {m : Pass} {ps fs : Kept} → ReadTo old old' s Done m ps fs → read_by (length s) m ps fs ≡ read_kept old old' (read_in s)
  unfolding read_by readable read_in
  read-ended {s} {m} {ps} {fs} R = by m.good refl
    where
      over : 10 ≤ m.slot
      over = go (ltb m.slot 10) refl
        where
          go : (b : Bool) → ltb m.slot 10 ≡ b → 10 ≤ m.slot
          go true e = absurd (R.stage (ltb-true m.slot 10 e))
          go false e = ltb-false m.slot 10 e

      made : (p : List Target) (f : List VersionFilter) (w a b : Bool) → pick (pick w (pick a b false) false) (read_kept old old' (Some (record { paths = p; filters = f }))) (read_kept [] [] None) ≡ read_kept old old' (pick w (pick a (pick b (Some (record { paths = p; filters = f })) None) None) None)
      made p f false a b = refl
      made p f true false b = refl
      made p f true true false = refl
      made p f true true true = refl

      by : (b : Bool) → m.good ≡ b → read_by (length s) m ps fs ≡ read_kept old old' (read_in s)
      by false g = rw (whole-bad (length s) m g) (sym (ap (read_kept old old') (R.lost g)))
      by true g =
          let p = R.paths g (λ y. (let o = over in omega arith)) in
          let f = R.wants g (λ y. (let o = over in omega arith)) in
          let k = (R.left g).coded in
          (λ j. read_by (length s) m (p.2 j) (f.2 j))
          ∙ made p.0 f.0 (whole_pass (length s) m) (given (flag_by (get_or m.codes 3 0))) (given (number_by 255 false (get_or m.codes 9 0)))
          ∙ sym (ap (read_kept old old') (whole-passed (read_from s) (R.left g) over ∙ ap (λ o. pick (whole_pass (length s) m) o None) (from s m.at m.codes k p.1 f.1)))

  -- THE LAW of the request in one pass
  pub read-passed : (s : List ℕ) {m : Pass} {x y z : PassKept} → m ≡ open_pass read_tags either_list s → x ≡ pass_paths s only_filters m (record { count = 0; words = old }) → y ≡ pass_version_filters s only_paths x.pass (record { count = 0; words = old' }) → z ≡ pass_paths s (replicate 10 false) y.pass x.kept → read_by (length s) z.pass z.kept y.kept ≡ read_kept old old' (read_in s)
  read-passed s {m} {x} {y} {z} em ex ey ez = read-ended (rw ez three)
    where
      one : ReadTo old old' s Second x.pass x.kept (record { count = 0; words = old' })
      one = rw ex (paths-step old old' s m _ _ (read_opened old old' em) only_filters (λ n t. t n) (λ i t r N l. fifth r.slot (N.stopped l).wanted) (λ i t r N g n. N.passed g 4 refl n))

      two : ReadTo old old' s Third y.pass x.kept y.kept
      two = rw ey (version-filters-step old old' s x.pass x.kept one only_paths (λ n t. absurd (n t)) (λ r N h l. (only-first r.slot (N.stopped l).wanted, h (N.stopped l).sound)) (λ r N g n. N.passed g 0 refl n))

      three : let v = pass_paths s (replicate 10 false) y.pass x.kept in ReadTo old old' s Done v.pass v.kept y.kept
      three = paths-step old old' s y.pass x.kept y.kept two (replicate 10 false) (λ n t. n t.0) (λ i t r N l. (let o = nowhere N in omega arith)) (λ i t r N g n. stays (get_or y.pass.at 4 0) t.1 (λ v k. N.kept g 4 v k))
        where
          stays : (p : ℕ) {q : ℕ} → (p ≡ 0 → ⊥) → ((v : ℕ) → p ≡ v + 1 → q ≡ v + 1) → q ≡ p
          stays p n k = let e : p ≡ p - 1 + 1 = omega arith in k (p - 1) e ∙ sym e

-- a pass that is lost makes no request
pub read-lost : (len : ℕ) (at codes : List ℕ) (ps fs : Kept) → read_by len (pass_with None at codes) ps fs ≡ read_kept [] [] None
unfolding read_by readable whole_pass
read-lost len at codes ps fs = refl

-- ---- what the code makes of the list at a stop

module _ (on : ℕ → Pass) {f g : ListRead} (e : f ≡ g) {z : Pass} where
  pub found_none : f.good ≡ false → z ≡ no_pass → record { pass = z; kept = f.kept } ≡ found_on on g
  found_none q k = rw (← e) (rw q (λ j. record { pass = k j; kept = f.kept }))

  pub found_some : f.good ≡ true → z ≡ on f.next.at → record { pass = z; kept = f.kept } ≡ found_on on g
  found_some q k = rw (← e) (rw q (λ j. record { pass = k j; kept = f.kept }))
