-- The versions of a cluster walked by index: what is still to come decides as all of them do.
use mathlib.Core.Path.{◌≡◌, refl, sym, ap, ◌∙◌}
use mathlib.Core.List.{List, ◌∷◌}
use Prim.Native.Nat.{ℕ, suc, ◌+◌, ◌-◌, ◌/◌, ◌≤◌, ◌<◌}
use native.Mathlib.Omega.{arith}
use borrow.Author.Tests.{eq-eqb, ne_eqb, eqb-true, eqb-false}
use lib.Dec.{eqb}
use lib.ListN.{length, get_or, set}
use lib.Seq.{get_or-set_same, get_or-set_other}
use Rattle.tlv_reader.specs.Octet.{pick}
use Rattle.node_schema.proofs.BoolLaws.{by-test}
use Rattle.cache_entries.specs.Limits.{half, max_clusters}
use Rattle.cache_entries.specs.Coherent.{unseen, joined, joined_all, versions_from}

module _ (keys versions : List ℕ) (n : ℕ) where
  -- the versions of cluster k from i on
  abbrev pub rest : ℕ → ℕ → List ℕ
  rest k i = versions_from keys versions k (n - i) i

  -- what they come to
  abbrev pub total : ℕ → ℕ
  total k = joined_all unseen (versions_from keys versions k n 0)

  -- so far `so`, and the rest is still to come
  abbrev pub Along : ℕ → ℕ → ℕ → Type 0
  Along k i so = total k ≡ joined_all so (rest k i)

  step : (k i : ℕ) → i < n → rest k i ≡ pick (eqb (get_or keys i 0 / half) k) (get_or versions i 0 ∷ rest k (i + 1)) (rest k (i + 1))
  unfolding versions_from
  step k i l = let q : n - i ≡ suc (n - (i + 1)) = omega arith in rw q

  pub along-starts : (k : ℕ) → Along k 0 unseen
  along-starts k = ap (λ (m : ℕ). joined_all unseen (versions_from keys versions k m 0)) (omega arith)

  pub along-here : (k i so : ℕ) → i < n → get_or keys i 0 / half ≡ k → Along k i so → Along k (i + 1) (joined so (get_or versions i 0))
  unfolding joined_all
  along-here k i so l e h = h ∙ ap (joined_all so) {y = get_or versions i 0 ∷ rest k (i + 1)} (step k i l ∙ rw (eq-eqb _ _ e) refl)

  pub along-elsewhere : (k i so : ℕ) → i < n → (get_or keys i 0 / half ≡ k → ⊥) → Along k i so → Along k (i + 1) so
  along-elsewhere k i so l e h = h ∙ ap (joined_all so) {y = rest k (i + 1)} (step k i l ∙ rw (ne_eqb _ _ e) refl)

  pub along-done : (k i so : ℕ) → n ≤ i → Along k i so → so ≡ total k
  unfolding joined_all versions_from
  along-done k i so l h = let q : n - i ≡ 0 = omega arith in sym (h ∙ ap (λ (m : ℕ). joined_all so (versions_from keys versions k m i)) q)

  -- the same for every cluster at once
  pub record AlongAll (i : ℕ) (shares : List ℕ) : Type 0 where
    pub size : length shares ≡ max_clusters
    pub each : (k : ℕ) → k < max_clusters → Along k i (get_or shares k 0)

  pub along-all : (i k : ℕ) (shares next : List ℕ) → i < n → k ≡ get_or keys i 0 / half → k < max_clusters → AlongAll i shares → next ≡ set shares k (joined (get_or shares k 0) (get_or versions i 0)) → length next ≡ max_clusters → AlongAll (i + 1) next
  along-all i k shares next l e low h q size = record { size = size; each = each }
    where
      each : (j : ℕ) → j < max_clusters → Along j (i + 1) (get_or next j 0)
      each j m = by-test (eqb j k)
          (λ t. let z = eqb-true j k t in
          let w : get_or next j 0 ≡ joined (get_or shares j 0) (get_or versions i 0) = ap (λ (s : List ℕ). get_or s j 0) q ∙ ap (λ (p : ℕ). get_or (set shares k (joined (get_or shares k 0) (get_or versions i 0))) p 0) z ∙ get_or-set_same shares k _ 0 (omega (arith, low, h.size)) ∙ ap (λ (p : ℕ). joined (get_or shares p 0) (get_or versions i 0)) (sym z) in
          rw w (along-here j i (get_or shares j 0) l (sym e ∙ sym z) (h.each j m)))
          (λ f. let w : get_or next j 0 ≡ get_or shares j 0 = ap (λ (s : List ℕ). get_or s j 0) q ∙ get_or-set_other shares k j _ 0 (eqb-false j k f) in
          rw w (along-elsewhere j i (get_or shares j 0) l (λ z. eqb-false j k f (sym z ∙ sym e)) (h.each j m)))
