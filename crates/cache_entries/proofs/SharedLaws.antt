-- The versions of a cluster joined in one word: it says the version that they share, if they share one.
use Rattle.std.specs.Prelude.{None}
use mathlib.Core.Path.{◌≡◌, refl, sym, ap, ◌∙◌}
use mathlib.Core.Bool.{true, false}
use mathlib.Core.List.{List, [], ◌∷◌}
use Prim.Native.Nat.{ℕ, zero, suc, ◌+◌, ◌/◌, ◌≤◌, ◌<◌}
use native.Mathlib.Omega.{arith}
use borrow.Author.Tests.{eq-eqb, ne_eqb, eqb-true, eqb-false}
use lib.Dec.{eqb, ltb}
use lib.ListN.{get_or}
use Rattle.tlv_reader.specs.Octet.{pick}
use Rattle.node_schema.proofs.BoolLaws.{by-test}
use Rattle.cache_entries.specs.declared.Cached.{Cached}
use Rattle.cache_entries.specs.Limits.{half, no_version}
use Rattle.cache_entries.specs.Coherent.{versions_from, versions_of, all_are, shared, coherent_at, unseen, joined, joined_all, shared_in}

-- one version more, by what was joined before
module _ (so v : ℕ) where
  join_first : so ≡ unseen → joined so v ≡ v
  unfolding joined
  join_first e = rw (eq-eqb so unseen e) refl

  join-same : so ≡ v → joined so v ≡ so
  unfolding joined
  join-same e = by-test (eqb so unseen) (λ t. rw t (sym e)) (λ f. rw (f, eq-eqb so v e) refl)

  join-other : (so ≡ unseen → ⊥) → (so ≡ v → ⊥) → joined so v ≡ no_version
  unfolding joined
  join-other p q = rw (ne_eqb so unseen p, ne_eqb so v q) refl

-- versions that differed once do so whatever comes
joined-none : (l : List ℕ) → joined_all no_version l ≡ no_version
unfolding joined_all
joined-none [] = refl
joined-none (v ∷ l) =
    by-test (eqb no_version v)
    (λ t. rw (join-same no_version v (eqb-true no_version v t)) (joined-none l))
    (λ f. rw (join-other no_version v (λ e. omega (arith, e)) (eqb-false no_version v f)) (joined-none l))

-- from a version on, it is that version or none
joined-from : (v : ℕ) (l : List ℕ) → (v ≡ unseen → ⊥) → joined_all v l ≡ pick (all_are v l) v no_version
unfolding joined_all all_are
joined-from v [] seen = refl
joined-from v (x ∷ l) seen =
    by-test (eqb x v)
    (λ t. rw (t, join-same v x (sym (eqb-true x v t))) (joined-from v l seen))
    (λ f. rw (f, join-other v x seen (λ e. eqb-false x v f (sym e))) (joined-none l))

-- JOINED IS SHARED, unless the first is the word for none seen: that word and then 3 would be joined to 3, and share nothing
pub joined-shared : (l : List ℕ) → (get_or l 0 0 ≡ unseen → ⊥) → shared_in (joined_all unseen l) ≡ shared l
unfolding joined_all
joined-shared [] seen = refl
joined-shared (v ∷ l) seen =
    ap (λ (so : ℕ). shared_in (joined_all so l)) (join_first unseen v refl)
    ∙ ap shared_in (joined-from v l seen)
    ∙ by-test (ltb v no_version)
    (λ u. by-test (all_are v l) (λ t. rw (t, u) refl) (λ f. rw (f, u) refl))
    (λ u. by-test (all_are v l) (λ t. rw (t, u) refl) (λ f. rw (f, u) refl))

-- the versions of a cluster's entries: none of them is that word
module _ (keys versions : List ℕ) (k : ℕ) where
  first-seen : (n i : ℕ) → ((j : ℕ) → j < n + i → get_or versions j 0 ≤ no_version) → get_or (versions_from keys versions k n i) 0 0 ≤ no_version
  unfolding versions_from
  first-seen zero i h = omega arith
  first-seen (suc n) i h =
      by-test (eqb (get_or keys i 0 / half) k) (λ t. rw t (h i (omega arith))) (λ f. rw f (first-seen n (i + 1) (λ j l. h j (omega (arith, l)))))

  pub shares-say : (n : ℕ) → ((j : ℕ) → j < n → get_or versions j 0 ≤ no_version) → shared_in (joined_all unseen (versions_from keys versions k n 0)) ≡ shared (versions_from keys versions k n 0)
  shares-say n h = joined-shared (versions_from keys versions k n 0) (λ e. omega (arith, e, first-seen n 0 (λ j l. h j (omega (arith, l)))))

-- primed or not
pub coherent-primed : (c : Cached) (k : ℕ) → c.primed ≡ true → coherent_at c k ≡ shared (versions_of c k)
unfolding coherent_at
coherent-primed c k h = rw h

pub coherent-unprimed : (c : Cached) (k : ℕ) → c.primed ≡ false → coherent_at c k ≡ None
unfolding coherent_at
coherent-unprimed c k h = rw h
