-- The search of a table, from its end: nothing looked at, one entry more, all of them.
use mathlib.Core.Path.{◌≡◌, refl, sym, ap, ◌∙◌}
use mathlib.Core.Bool.{Bool, true, false, ◌&&◌, and-true, and-false}
use mathlib.Core.List.{List, [], ◌∷◌, ◌++◌}
use Prim.Native.Nat.{ℕ, zero, suc, ◌+◌, ◌-◌, min, max, ◌<◌}
use native.Mathlib.Numerals.{add-one}
use native.Mathlib.Omega.{arith}
use borrow.Author.Tests.{leb-true, le-leb}
use lib.Dec.{leb}
use lib.ListN.{length, get_or, set, take, drop, replicate, length-take, drop_of_length-le, replicate-append-replicate}
use lib.Seq.{set_at, get_or_at, drop_at, append_snoc, drop-cons, get_or-take, take-length}
use Rattle.base_bounds.specs.Bounds.{cluster_limit, entry_limit}
use Rattle.node_schema.specs.Rows.{cluster_row, count_of_clusters, rows_from}
use Rattle.node_schema.proofs.BoolLaws.{by-test}
use Rattle.node_schema.proofs.RowLaws.{rows-length}
use Rattle.node_access.specs.declared.AccessEntry.{AccessEntry}
use Rattle.node_access.specs.declared.Grants.{Grants}
use Rattle.node_access.specs.declared.table.Access.{Access}
use Rattle.node_access.specs.Access.{given_by, level_of, grants_of, privilege_ok, privileges_ok, table_ok}
use Rattle.node_access.specs.Table.{table_right, searched, beginning, level_with, grants_with, with_entry}
use Rattle.node_access.proofs.GrantLaws.{level_at, grants-filled, level_in}

-- ---- rows by a function
rows_last : (f : ℕ → ℕ) (i k : ℕ) → rows_from f (suc i) k ≡ rows_from f i k ++ (f (i + k) ∷ [])
unfolding rows_from
rows_last f zero k = ap (λ (j : ℕ). f j ∷ []) (omega arith)
rows_last f (suc i) k =
    let q : i + suc k ≡ suc i + k = omega arith in
    ap (λ (l : List ℕ). f k ∷ l) (rows_last f i (suc k) ∙ ap (λ (j : ℕ). rows_from f i (suc k) ++ (f j ∷ [])) q)

rows_same : (f g : ℕ → ℕ) (n k : ℕ) → ((i : ℕ) → i < n + k → f i ≡ g i) → rows_from f n k ≡ rows_from g n k
unfolding rows_from
rows_same f g zero k h = refl
rows_same f g (suc n) k h = rw (h k (omega arith), rows_same f g n (suc k) (λ i l. h i (omega arith)))

rows-zero : (f : ℕ → ℕ) (n k : ℕ) → ((i : ℕ) → f i ≡ 0) → rows_from f n k ≡ replicate n 0
unfolding rows_from
rows-zero f zero k h = refl
rows-zero f (suc n) k h = rw (h k, rows-zero f n (suc k) h)

-- ---- the loop over the schema's clusters: the first i places have the entry's level too
module _ (g : Grants) (e : AccessEntry) (s : ℕ) (w : List ℕ) where
  abbrev pub up_to : ℕ → List ℕ
  up_to i = rows_from (level_with g e s w) i 0 ++ drop i g.level

  pub up-begin : g.level ≡ up_to 0
  unfolding rows_from
  up-begin = refl

  apart : (i : ℕ) → i < length g.level → up_to i ≡ rows_from (level_with g e s w) i 0 ++ (get_or g.level i 0 ∷ drop (suc i) g.level)
  apart i h = ap (λ (l : List ℕ). rows_from (level_with g e s w) i 0 ++ l) (drop-cons g.level i 0 h)

  up_next : (i : ℕ) → i < length g.level → set (up_to i) i (level_with g e s w i) ≡ up_to (i + 1)
  up_next i h =
      let f : ℕ → ℕ = level_with g e s w in
      let y : i + 0 ≡ i = omega arith in
      ap (λ (l : List ℕ). set l i (f i)) (apart i h)
      ∙ set_at (rows_from f i 0) (get_or g.level i 0) (drop (suc i) g.level) (f i) i (rows-length f i 0)
      ∙ sym (append_snoc (rows_from f i 0) (f i) (drop (suc i) g.level))
      ∙ ap (λ (l : List ℕ). l ++ drop (suc i) g.level) (ap (λ (j : ℕ). rows_from f i 0 ++ (f j ∷ [])) (sym y) ∙ sym (rows_last f i 0))
      ∙ ap up_to (sym (add-one i))

  -- one turn: the level that stands at i is raised by the entry
  pub up_step : (l : List ℕ) (i v n c : ℕ) → i < length g.level → l ≡ up_to i → n ≡ (cluster_row w i).endpoint → c ≡ (cluster_row w i).cluster → v ≡ max (given_by e s n c) (get_or l i 0) → set l i v ≡ up_to (i + 1)
  up_step l i v n c h p q r k =
      let at : get_or l i 0 ≡ get_or g.level i 0 = ap (λ (x : List ℕ). get_or x i 0) (p ∙ apart i h) ∙ get_or_at (rows_from (level_with g e s w) i 0) (get_or g.level i 0) (drop (suc i) g.level) 0 i (rows-length (level_with g e s w) i 0) in
      let u : v ≡ level_with g e s w i = k ∙ ap (λ (x : ℕ). max (given_by e s x c) (get_or l i 0)) q ∙ ap (λ (x : ℕ). max (given_by e s (cluster_row w i).endpoint x) (get_or l i 0)) r ∙ ap (max (given_by e s (cluster_row w i).endpoint (cluster_row w i).cluster)) at in
      ap (λ (x : List ℕ). set x i v) p ∙ ap (set (up_to i) i) u ∙ up_next i h

  pub up_done : (l : List ℕ) (i : ℕ) → i ≡ count_of_clusters w → l ≡ up_to i → ◌≡◌ {A = Grants} (record { level = l }) (grants_with g e s w)
  up_done l i q p = let u : l ≡ up_to (count_of_clusters w) = p ∙ ap up_to q in λ k. record { level = u k }

-- ---- the grants of no entry, and of one entry more
module _ (s : ℕ) (w : List ℕ) where
  none-level : replicate cluster_limit 0 ≡ (grants_of [] s w).level
  unfolding level_of
  none-level =
      let q : count_of_clusters w + (cluster_limit - count_of_clusters w) ≡ cluster_limit = omega arith in
      sym
      (grants-filled [] s w
      ∙ ap (λ (l : List ℕ). l ++ replicate (cluster_limit - count_of_clusters w) 0) (rows-zero (level_at [] s w) (count_of_clusters w) 0 (λ i. refl))
      ∙ replicate-append-replicate (count_of_clusters w) (cluster_limit - count_of_clusters w) 0
      ∙ ap (λ (n : ℕ). replicate n 0) q)

  more-level : (e : AccessEntry) (es : List AccessEntry) → (grants_with (grants_of es s w) e s w).level ≡ (grants_of (e ∷ es) s w).level
  unfolding level_of
  more-level e es =
      let z : List ℕ = replicate (cluster_limit - count_of_clusters w) 0 in
      let d : drop (count_of_clusters w) (grants_of es s w).level ≡ z =
      ap (drop (count_of_clusters w)) (grants-filled es s w) ∙ drop_at (rows_from (level_at es s w) (count_of_clusters w) 0) z (count_of_clusters w) (rows-length (level_at es s w) (count_of_clusters w) 0) in
      let r : rows_from (level_with (grants_of es s w) e s w) (count_of_clusters w) 0 ≡ rows_from (level_at (e ∷ es) s w) (count_of_clusters w) 0 =
      rows_same _ _ (count_of_clusters w) 0 (λ i l. ap (max (given_by e s (cluster_row w i).endpoint (cluster_row w i).cluster)) (level_in es s w i (omega arith))) in
      ap (λ (l : List ℕ). l ++ drop (count_of_clusters w) (grants_of es s w).level) r
      ∙ ap (λ (l : List ℕ). rows_from (level_at (e ∷ es) s w) (count_of_clusters w) 0 ++ l) d
      ∙ sym (grants-filled (e ∷ es) s w)

-- ---- an entry with a privilege that there is none of, and any other
module _ (a : Access) (e : AccessEntry) (s : ℕ) (w : List ℕ) (h : Grants) (g : h ≡ grants_with a.grants e s w) where
  pub with_none : privilege_ok e.privilege ≡ false → ◌≡◌ {A = Access} (record { right = false; grants = h }) (with_entry a e s w)
  with_none f = let b : false ≡ (privilege_ok e.privilege && a.right) = rw f in λ k. record { right = b k; grants = g k }

  pub with-right : privilege_ok e.privilege ≡ true → ◌≡◌ {A = Access} (record { right = a.right; grants = h }) (with_entry a e s w)
  with-right f = let b : a.right ≡ (privilege_ok e.privilege && a.right) = rw f in λ k. record { right = b k; grants = g k }

swap : (a b c : Bool) → (a && (b && c)) ≡ (b && (a && c))
swap true b c = refl
swap false b c = sym (and-false b)

twice : (b c : Bool) → (b && (b && c)) ≡ (b && c)
twice true c = refl
twice false c = refl

-- ---- where i entries of those in use are left
module _ (n : ℕ) (es : List AccessEntry) (s : ℕ) (w : List ℕ) where
  abbrev of-rest : List AccessEntry → Access
  of-rest l = record { right = leb n entry_limit && privileges_ok l; grants = grants_of l s w }

  abbrev pub reached : ℕ → Access
  reached i = of-rest (drop i (take n es))

  pub search-begin : (i : ℕ) → i ≡ min n (length es) → beginning n ≡ reached i
  unfolding privileges_ok
  search-begin i h =
      let q : drop i (take n es) ≡ [] = drop_of_length-le (take n es) {i = i} (omega (arith, length-take n es)) in
      let b : leb n entry_limit ≡ (leb n entry_limit && true) = sym (and-true (leb n entry_limit)) in
      let z = none-level s w in
      (λ k. record { right = b k; grants = record { level = z k } }) ∙ ap of-rest (sym q)

  pub search-step : (j : ℕ) (d : AccessEntry) → j < min n (length es) → with_entry (reached (suc j)) (get_or es j d) s w ≡ reached j
  unfolding privileges_ok
  search-step j d h =
      let e : AccessEntry = get_or es j d in
      let l : List AccessEntry = drop (suc j) (take n es) in
      let q : drop j (take n es) ≡ e ∷ l = drop-cons (take n es) j d (omega (arith, length-take n es)) ∙ ap (λ (x : AccessEntry). x ∷ l) (get_or-take n es j d (omega arith)) in
      let b : (privilege_ok e.privilege && (leb n entry_limit && privileges_ok l)) ≡ (leb n entry_limit && (privilege_ok e.privilege && privileges_ok l)) = swap (privilege_ok e.privilege) (leb n entry_limit) (privileges_ok l) in
      let z = more-level s w e l in
      (λ k. record { right = b k; grants = record { level = z k } }) ∙ ap of-rest (sym q)

  pub search-end : reached 0 ≡ searched n es s w
  unfolding table_right table_ok
  search-end =
      let b : (leb n entry_limit && privileges_ok (take n es)) ≡ (leb n entry_limit && (leb (length (take n es)) entry_limit && privileges_ok (take n es))) =
      by-test (leb n entry_limit) (λ t. rw (t, le-leb (length (take n es)) entry_limit (omega (arith, length-take n es, leb-true n entry_limit t)))) (λ t. rw t) in
      λ k. record { right = b k; grants = grants_of (take n es) s w }

-- a table lent whole is all in use
module _ (es : List AccessEntry) where
  pub whole-right : table_right (length es) es ≡ table_ok es
  unfolding table_right table_ok
  whole-right = rw (take-length es) (twice (leb (length es) entry_limit) (privileges_ok es))

  pub whole-grants : (s : ℕ) (w : List ℕ) → grants_of (take (length es) es) s w ≡ grants_of es s w
  whole-grants s w = ap (λ (l : List AccessEntry). grants_of l s w) (take-length es)
