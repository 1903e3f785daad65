-- The order of paths and the order of words: a path word is endpoint * 2^32 + cluster, a key index * 2^32 + attribute.
use Rattle.std.proofs.Common.{◌≡◌, ℕ, ◌+◌, ◌*◌, ◌/◌, ◌%◌, ◌<◌, ◌&&◌, eqb, ltb, ◌⊎◌, List, inl, inr, ⊎_elim, arith, ltb-false, ltb-true, eq-eqb, eqb-true}
use Rattle.node_schema.specs.Rows.{word}
use Rattle.node_schema.specs.Layout.{half}
use Rattle.node_schema.specs.Rules.{AttributePath, path, PathBefore}
use Rattle.node_schema.specs.Search.{first}
use Rattle.node_schema.specs.Find.{find_word}
use Rattle.node_schema.proofs.BoolLaws.{by-test, same, both, left, right}
use Rattle.node_schema.proofs.SearchLaws.{first-same}

-- two words are in order exactly if their halves are
pub to-halves : (p q : ℕ) → p < q → (p / half < q / half) ⊎ ((p / half ≡ q / half) × (p % half < q % half))
to-halves p q h =
    by-test (ltb (p / half) (q / half)) (λ t. inl (ltb-true _ _ t)) (λ t. inr (omega (arith, ltb-false (p / half) (q / half) t)))

pub from_halves : (p q : ℕ) → (p / half < q / half) ⊎ ((p / half ≡ q / half) × (p % half < q % half)) → p < q
from_halves p q (inl h) = omega arith
from_halves p q (inr h) = omega arith

-- the path of attribute a of the cluster whose path word is p
abbrev pub word_path : ℕ → ℕ → AttributePath
word_path p a = path (p / half) (p % half) a

pub to-before : (p q a b : ℕ) → (p < q) ⊎ ((p ≡ q) × (a < b)) → PathBefore (word_path p a) (word_path q b)
to-before p q a b (inl h) = ⊎_elim inl (λ e. inr (e.0, inl e.1)) (to-halves p q h)
to-before p q a b (inr h) = inr (omega arith, inr (omega arith))

pub from-before : (p q a b : ℕ) → PathBefore (word_path p a) (word_path q b) → (p < q) ⊎ ((p ≡ q) × (a < b))
from-before p q a b (inl h) = inl (from_halves p q (inl h))
from-before p q a b (inr h) = ⊎_elim (λ c. inl (from_halves p q (inr (h.0, c)))) (λ c. inr (omega arith)) h.1

-- a word is the one sought exactly if its halves are
pub word-halves : (p high low : ℕ) → low < half → eqb p (high * half + low) ≡ (eqb (p / half) high && eqb (p % half) low)
word-halves p high low l =
    same (eqb p (high * half + low)) (eqb (p / half) high && eqb (p % half) low)
    (λ h. let e = eqb-true p (high * half + low) h in both _ _ (eq-eqb (p / half) high (omega arith)) (eq-eqb (p % half) low (omega arith)))
    (λ h. let a = eqb-true (p / half) high (left _ _ h) in
    let b = eqb-true (p % half) low (right (eqb (p / half) high) _ h) in
    eq-eqb p (high * half + low) (omega arith))

pub word-search : (w : List ℕ) (from n high low : ℕ) → low < half → find_word w from n (high * half + low) ≡ first (λ i. eqb (word w from i / half) high && eqb (word w from i % half) low) n 0
word-search w from n high low l = first-same _ _ (λ i. word-halves (word w from i) high low l) n 0
