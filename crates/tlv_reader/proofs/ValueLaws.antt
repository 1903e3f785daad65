-- The parsed value of an element means what its tree means.
use Rattle.std.specs.Prelude.{Some}
use mathlib.Core.Path.{◌≡◌, refl, ap, subst}
use mathlib.Core.Bool.{Bool, true, false}
use mathlib.Core.List.{List}
use Prim.Native.Nat.{ℕ, zero, suc, ◌-◌, ◌%◌, ◌^◌, ◌<◌, ◌≤◌}
use native.Mathlib.Nat.{mod-eq_of_lt}
use native.Mathlib.Omega.{arith}
use borrow.Author.Tests.{eqb-true, eqb-false, ltb-true, ltb-false, le-ltb, ne_eqb}
use lib.ListN.{length, take, drop}
use lib.Dec.{ltb, eqb}
use Rattle.base_octets.specs.Number.{Bytes}
use Rattle.tlv_reader.specs.declared.Element.{Element}
use Rattle.tlv_reader.specs.declared.Value.TheVariants.{Other}
use Rattle.tlv_reader.specs.Octet.{number_width, structure, list}
use Rattle.tlv_reader.specs.Tree.{Tree, Trees, complement, scalar_of, primitive_of, tag_of}
use Rattle.tlv_reader.specs.Tree.Tree.{container}
use Rattle.tlv_reader.specs.Head.{head_at, element_of}
use Rattle.tlv_reader.specs.Walk.{Got, map_g}
use Rattle.tlv_reader.specs.Walk.Got.{got, bad}
use Rattle.tlv_reader.specs.Value.{Datum, signed_of, value_of, datum_in, datum_p, datum_t}
use Rattle.tlv_reader.specs.Value.Datum.{signed, float}
use Rattle.tlv_reader.specs.Decode.{trees_from, tree_by, tree_of}
use Rattle.tlv_reader.proofs.Picks.{choose-elim}
use Rattle.tlv_reader.proofs.Soundness.{reads-found}

-- a property of every number below n, one by one
abbrev pub Each : (ℕ → Type 0) → ℕ → Type 0
Each P zero = Unit {0}
Each P (suc n) = Each P n × P n

pub each : (P : ℕ → Type 0) (n : ℕ) → Each P n → (k : ℕ) → k < n → P k
each P zero a k h = absurd (omega arith)
each P (suc n) a k h = go (eqb k n) refl (λ l. each P n a.0 k l)
  where
    go : (b : Bool) → eqb k n ≡ b → (k < n → P k) → P k
    go true e r = rw (eqb-true k n e) a.1
    go false e r = r (omega (arith, eqb-false k n e))

-- for each element type that is no container
abbrev Means : List ℕ → ℕ → Type 0
Means s k = (form tag n body next : ℕ) → n < 256 ^ number_width k → datum_in s (value_of (element_of form k tag n body next)) ≡ datum_p (primitive_of k n (take n (drop body s)))

signed-means : (s : List ℕ) (w n : ℕ) → n < 256 ^ w → ◌≡◌ {A = Datum} (signed (complement (256 ^ w - 1) (n % 256 ^ w))) (signed (complement (256 ^ w - 1) n))
signed-means s w n h = ap (λ (x : ℕ). signed (complement (256 ^ w - 1) x)) (mod-eq_of_lt h)

primitives : (s : List ℕ) → Each (Means s) structure
unfolding value_of signed_of primitive_of scalar_of number_width
primitives s = (
  (
    (
      (
        (
          (
            (
              (
                (
                  (
                    (
                      (
                        (
                          (
                            (
                              (
                                (
                                  (
                                    (
                                      (
                                        (
                                          tt,
                                          λ f t n b x h. signed-means s 1 n h,
                                        ),
                                        λ f t n b x h. signed-means s 2 n h,
                                      ),
                                      λ f t n b x h. signed-means s 4 n h,
                                    ),
                                    λ f t n b x h. signed-means s 8 n h,
                                  ),
                                  λ f t n b x h. refl,
                                ),
                                λ f t n b x h. refl,
                              ),
                              λ f t n b x h. refl,
                            ),
                            λ f t n b x h. refl,
                          ),
                          λ f t n b x h. refl,
                        ),
                        λ f t n b x h. refl,
                      ),
                      λ f t n b x h. ap float (mod-eq_of_lt h),
                    ),
                    λ f t n b x h. refl,
                  ),
                  λ f t n b x h. refl,
                ),
                λ f t n b x h. refl,
              ),
              λ f t n b x h. refl,
            ),
            λ f t n b x h. refl,
          ),
          λ f t n b x h. refl,
        ),
        λ f t n b x h. refl,
      ),
      λ f t n b x h. refl,
    ),
    λ f t n b x h. refl,
  ),
  λ f t n b x h. refl,
)

-- a container has no value of its own
other : (e : Element) → structure ≤ e.kind → value_of e ≡ Other
unfolding value_of
other e l =
    simp (le-ltb e.kind 4 (omega arith), le-ltb e.kind 8 (omega arith), ne_eqb e.kind 8 (λ q. omega arith), ne_eqb e.kind 9 (λ q. omega arith), ne_eqb e.kind 10 (λ q. omega arith), le-ltb e.kind 12 (omega arith), le-ltb e.kind 16 (omega arith), ne_eqb e.kind 20 (λ q. omega arith))

-- what an element's tree means, if it has one
abbrev Meant : Datum → Got Tree → Type 0
Meant d bad = Unit {0}
Meant d (got t n) = d ≡ datum_t t

container-means : (s : List ℕ) (e : Element) (g : Got Trees) → structure ≤ e.kind → Meant (datum_in s (value_of e)) (map_g (container (tag_of e.form e.tag) e.kind) g)
container-means s e bad l = tt
container-means s e (got ts n) l = ap (datum_in s) (other e l)

by-means : (s : List ℕ) (inner : ℕ → ℕ → Got Trees) (e : Element) → e.number < 256 ^ number_width e.kind → Meant (datum_in s (value_of e)) (tree_by s inner e)
unfolding tree_by
by-means s inner e h =
    let P : Got Tree → Type 0 = Meant (datum_in s (value_of e)) in
    choose-elim P (ltb e.kind structure) _ _
    (λ l. each (Means s) structure (primitives s) e.kind (ltb-true e.kind structure l) e.form e.tag e.number e.body e.next.at h)
    (λ l. choose-elim P (ltb list e.kind) _ _ (λ _. tt) (λ _. container-means s e (inner e.kind e.next.at) (ltb-false e.kind structure l)))

of-means : (d : ℕ) (s : List ℕ) (e : Element) → e.number < 256 ^ number_width e.kind → Meant (datum_in s (value_of e)) (tree_of d s e)
unfolding tree_of
of-means zero s e h = by-means s (λ k n. bad) e h
of-means (suc d) s e h = by-means s (λ k n. trees_from (tree_of d s) (length s) s k n) e h

-- THE LAW: the value that the code parses means what the tree at that place means
pub value-means : (d : ℕ) (s : List ℕ) → Bytes s → (at : ℕ) {e : Element} → head_at s at ≡ Some e → {t : Tree} {n : ℕ} → tree_of d s e ≡ got t n → datum_in s (value_of e) ≡ datum_t t
value-means d s hs at {e} h w = subst (Meant (datum_in s (value_of e))) w (of-means d s e (reads-found s at hs (Some e) h).number_fits)
