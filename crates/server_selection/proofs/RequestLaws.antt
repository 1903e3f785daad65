-- A request's words, stored one after the other, and read back.
use mathlib.Core.Path.{◌≡◌, refl, sym, ap, ◌∙◌}
use mathlib.Core.List.{List, [], ◌∷◌, ◌++◌}
use Prim.Native.Nat.{ℕ, zero, suc, ◌+◌, ◌*◌, ◌≤◌, ◌<◌}
use native.Mathlib.Numerals.{add-one}
use native.Mathlib.Omega.{arith}
use borrow.Author.Tests.{ltb-true, ltb-false}
use lib.Dec.{ltb}
use lib.ListN.{length, get_or, take, drop, drop_of_length-le}
use lib.Seq.{drop-cons, get_or-take, set-get_or}
use Rattle.base_bounds.specs.Bounds.{cluster_limit, path_limit}
use Rattle.base_octets.specs.Store.{store}
use Rattle.base_octets.proofs.StoreLaws.{length-store, part-before, store-back, add-two}
use Rattle.node_schema.specs.Rows.{rows_from}
use Rattle.node_schema.proofs.BoolLaws.{by-test}
use Rattle.node_schema.proofs.RowLaws.{rows-length, rows_get, rows_same}
use Rattle.im_requests.specs.declared.Target.{Target}
use Rattle.im_requests.specs.declared.VersionFilter.{VersionFilter}
use Rattle.im_requests.specs.Message.{words_of}
use Rattle.im_requests.specs.Read.{target_words, unwanted, version_filter_words}
use Rattle.im_requests.proofs.KeepLaws.{words_back}
use Rattle.server_selection.specs.declared.asked.Asked.{Asked}
use Rattle.server_selection.specs.Asked.{asked_for}
use Rattle.server_selection.specs.Request.{path_size, filters_at, standing_at, paths_in, filters_in, paths_words, asked_at, asked_paths}
use Rattle.server_selection.specs.Filters.{filter_word, filter_words, version_filter_in, version_filter_list}

pub paths-length : (ts : List Target) → length (paths_words ts) ≡ length ts * path_size
unfolding paths_words
paths-length [] = refl
paths-length (t ∷ ts) = omega (arith, paths-length ts)

-- as their reader keeps them
pub paths-words : (ts : List Target) → words_of target_words ts ≡ paths_words ts
unfolding words_of paths_words
paths-words [] = refl
paths-words (t ∷ ts) = ap (λ (r : List ℕ). t.endpoint ∷ t.cluster ∷ t.attribute ∷ r) (paths-words ts)

-- the first n of a list, each read by its number
pub rows_taken : {A : Type 0} (f : ℕ → A) (l : List A) (n k : ℕ) (z : A) → n ≤ length l → ((i : ℕ) → i < length l → f (i + k) ≡ get_or l i z) → rows_from f n k ≡ take n l
unfolding rows_from
rows_taken f l zero k z h e = refl
rows_taken f [] (suc n) k z h e = absurd (omega arith)
rows_taken f (x ∷ l) (suc n) k z h e =
    let first : k ≡ 0 + k = omega arith in
    λ j. (ap f first ∙ e 0 (omega arith)) j ∷ rows_taken f l n (suc k) z (omega arith) (λ i q. (let next : i + suc k ≡ suc i + k = omega arith in ap f next ∙ e (suc i) (omega arith))) j

-- filters are read back from their words
pub version-filter-back : (fs : List VersionFilter) (n : ℕ) → n ≤ length fs → version_filter_list (words_of version_filter_words fs) n ≡ take n fs
version-filter-back fs n h = rows_taken (version_filter_in (words_of version_filter_words fs)) fs n 0 unwanted h (λ i q. ap (version_filter_in (words_of version_filter_words fs)) (omega arith) ∙ words_back version_filter_words version_filter_in here behind fs i unwanted q)
  where
    here : (f : VersionFilter) (r : List ℕ) → version_filter_in (version_filter_words f ++ r) 0 ≡ f
    here f r = refl

    behind : (f : VersionFilter) (r : List ℕ) (k : ℕ) → version_filter_in (version_filter_words f ++ r) (suc k) ≡ version_filter_in r k
    behind f r k = let e : suc k * 3 ≡ suc (suc (suc (k * 3))) = omega arith in simp (e, add-one, add-two)

-- ---- the paths of a request

pub paths-count : (l : List ℕ) (n : ℕ) → length (asked_paths l n) ≡ n
paths-count l n = rows-length (asked_at l) n 0

-- row k stands first among those from k on
pub rows-here : {A : Type 0} (f : ℕ → A) (n k : ℕ) (p : A) → k < n → p ≡ f k → drop k (rows_from f n 0) ≡ p ∷ drop (k + 1) (rows_from f n 0)
rows-here f n k p h e =
    let y : k + 0 ≡ k = omega arith in
    drop-cons (rows_from f n 0) k p (omega (arith, rows-length f n 0))
    ∙ (λ j. (rows_get f n 0 k p h ∙ ap f y ∙ sym e) j ∷ drop (sym (add-one k) j) (rows_from f n 0))

pub paths-here : (l : List ℕ) (n k : ℕ) (p : Asked) → k < n → p ≡ asked_at l k → drop k (asked_paths l n) ≡ p ∷ drop (k + 1) (asked_paths l n)
paths-here l n k p h e = rows-here (asked_at l) n k p h e

-- ---- a request that was stored is read back

path-in : (l : List ℕ) (k : ℕ) → k < path_limit → asked_at (paths_in l) k ≡ asked_at l k
path-in l k h =
    λ j. asked_for (record {
      endpoint = get_or-take filters_at l (k * path_size) 0 (omega arith) j;
      cluster = get_or-take filters_at l (k * path_size + 1) 0 (omega arith) j;
      attribute = get_or-take filters_at l (k * path_size + 2) 0 (omega arith) j;
    })

pub paths-in : (l : List ℕ) (n : ℕ) → n ≤ path_limit → asked_paths (paths_in l) n ≡ asked_paths l n
paths-in l n h = rows_same (asked_at (paths_in l)) (asked_at l) n 0 (λ i a b. path-in l i (omega arith))

pub filters-length : (w : List ℕ) (fs : List VersionFilter) → length (filter_words w fs) ≡ cluster_limit
unfolding filter_words
filters-length w fs = rows-length (filter_word w fs) cluster_limit 0

module _ (row paths filters : List ℕ) (p : length paths ≡ filters_at) (f : length filters ≡ cluster_limit) (room : standing_at ≤ length row) where
  pub paths-back : paths_in (store (store row 0 paths) filters_at filters) ≡ paths
  paths-back =
      part-before (store row 0 paths) filters_at filters 0 filters_at (omega arith)
      ∙ ap (λ (n : ℕ). take n (store row 0 paths)) (sym p)
      ∙ store-back row 0 paths (omega arith)

  pub filters-back : filters_in (store (store row 0 paths) filters_at filters) ≡ filters
  filters-back =
      ap (λ (n : ℕ). take n (drop filters_at (store (store row 0 paths) filters_at filters))) (sym f)
      ∙ store-back (store row 0 paths) filters_at filters (omega (arith, length-store row 0 paths))

-- ---- what stands there, stored again, changes nothing

pub store_step : (l : List ℕ) (at : ℕ) (bs : List ℕ) → store l at (get_or l at 0 ∷ bs) ≡ store l (suc at) bs
unfolding store
store_step l at bs = ap (λ (m : List ℕ). store m (suc at) bs) (set-get_or l at 0)

pub store_same : (l : List ℕ) (at n : ℕ) → store l at (take n (drop at l)) ≡ l
unfolding store
store_same l at zero = refl
store_same l at (suc n) =
    by-test (ltb at (length l))
    (λ t. rw (drop-cons l at 0 (ltb-true at (length l) t)) (store_step l at (take n (drop (suc at) l)) ∙ store_same l (suc at) n))
    (λ t. rw (drop_of_length-le l {i = at} (ltb-false at (length l) t)))
